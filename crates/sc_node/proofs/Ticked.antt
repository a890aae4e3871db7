-- A tick of each replica.
use Rattle.std.proofs.Common.{◌≡◌, ℕ, ◌+◌, ◌<◌, ◌≤◌, Bool, List, [], ◌∷◌, ◌++◌, length, take, drop, set, get_or, zero, suc, refl, sym, ap, ◌∙◌, arith}
use Rattle.std.proofs.lemmas.List.{append-nil, drop_all, take_all, length-set}
use Rattle.sc_base.specs.Drawing.{Drawer}
use Rattle.sc_mail.specs.declared.bodies.Mail.{Mail}
use Rattle.sc_node_table.specs.Replica.{ReplicaState, Place}
use Rattle.sc_node_table.specs.Rows.{tick_row}
use Rattle.sc_node_table.specs.Policy.{names_after_tick}
use Rattle.sc_node_table.specs.Node.{NodeState, ticked, names_after_ticks}
use Rattle.sc_node.specs.Ticking.{ticked_at}

-- replicas before others
abbrev before : List ReplicaState → List ReplicaState × List Mail → List ReplicaState × List Mail
before rs p = (rs ++ p.0, p.1)

ticked-suc : (on : Bool) (names left : Drawer) (rs : List ReplicaState) (i : ℕ) (d new : ReplicaState) (mails more : List Mail) → i < length rs
    → (new, more) ≡ tick_row on names (get_or rs i d, mails) → left ≡ names_after_tick on names (get_or rs i d)
    → before (take (suc i) (set rs i new)) (ticked on left (drop (suc i) (set rs i new)) more) ≡ before (take i rs) (ticked on names (drop i rs) mails)
unfolding ticked
ticked-suc on names left [] i d new mails more less e same = absurd (omega arith)
ticked-suc on names left (r ∷ rs) zero d new mails more less e same =
    ap (λ (p : Place). (p.0 ∷ (ticked on left rs p.1).0, (ticked on left rs p.1).1)) e
    ∙ ap (λ (l : Drawer). let p = tick_row on names (r, mails) in (p.0 ∷ (ticked on l rs p.1).0, (ticked on l rs p.1).1)) same
ticked-suc on names left (r ∷ rs) (suc i) d new mails more less e same =
    ap (λ (p : List ReplicaState × List Mail). (r ∷ p.0, p.1)) (ticked-suc on names left rs i d new mails more (omega arith) e same)

-- one replica more has ticked
ticked-step : (on : Bool) (names left : Drawer) (rs : List ReplicaState) (i : ℕ) (d new : ReplicaState) (mails more : List Mail) → i < length rs
    → (new, more) ≡ tick_row on names (get_or rs i d, mails) → left ≡ names_after_tick on names (get_or rs i d)
    → before (take (i + 1) (set rs i new)) (ticked on left (drop (i + 1) (set rs i new)) more) ≡ before (take i rs) (ticked on names (drop i rs) mails)
ticked-step on names left rs i d new mails more less e same =
    let n : i + 1 ≡ suc i = omega arith in
    ap (λ m. before (take m (set rs i new)) (ticked on left (drop m (set rs i new)) more)) n ∙ ticked-suc on names left rs i d new mails more less e same

-- all have ticked
ticked-all : (on : Bool) (names : Drawer) (rs : List ReplicaState) (i : ℕ) (mails : List Mail) → length rs ≤ i → (rs, mails) ≡ before (take i rs) (ticked on names (drop i rs) mails)
unfolding ticked
ticked-all on names rs i mails le =
    ap (λ ys. (ys, mails)) (sym (append-nil rs))
    ∙ ap (λ ys. before ys ([], mails)) (sym (take_all i rs le))
    ∙ ap (λ ys. before (take i rs) (ticked on names ys mails)) (sym (drop_all i rs le))

names-suc : (on : Bool) (names left : Drawer) (rs : List ReplicaState) (i : ℕ) (d new : ReplicaState) → i < length rs → left ≡ names_after_tick on names (get_or rs i d)
    → names_after_ticks on left (drop (suc i) (set rs i new)) ≡ names_after_ticks on names (drop i rs)
unfolding names_after_ticks
names-suc on names left [] i d new less same = absurd (omega arith)
names-suc on names left (r ∷ rs) zero d new less same = ap (λ (l : Drawer). names_after_ticks on l rs) same
names-suc on names left (r ∷ rs) (suc i) d new less same = names-suc on names left rs i d new (omega arith) same

-- the names that one more tick leaves
names-step : (on : Bool) (names left : Drawer) (rs : List ReplicaState) (i : ℕ) (d new : ReplicaState) → i < length rs → left ≡ names_after_tick on names (get_or rs i d)
    → names_after_ticks on left (drop (i + 1) (set rs i new)) ≡ names_after_ticks on names (drop i rs)
names-step on names left rs i d new less same =
    let n : i + 1 ≡ suc i = omega arith in
    ap (λ m. names_after_ticks on left (drop m (set rs i new))) n ∙ names-suc on names left rs i d new less same

-- the names that all ticks leave
names-all : (on : Bool) (names : Drawer) (rs : List ReplicaState) (i : ℕ) → length rs ≤ i → names ≡ names_after_ticks on names (drop i rs)
unfolding names_after_ticks
names-all on names rs i le = ap (λ ys. names_after_ticks on names ys) (sym (drop_all i rs le))

-- the node and its mails where the replicas before a place have ticked, once the others have too
abbrev pub ticked_from : ℕ → NodeState → List Mail → NodeState × List Mail
ticked_from i node mails =
    let after = before (take i node.replicas) (ticked node.policy node.draws (drop i node.replicas) mails) in
    (record node { draws = names_after_ticks node.policy node.draws (drop i node.replicas); replicas = after.0 }, after.1)

ticked-next : (i : ℕ) (d : ReplicaState) (node : NodeState) (mails : List Mail) → i < length node.replicas
    → ticked_from (i + 1) (ticked_at i d (node, mails)).0 (ticked_at i d (node, mails)).1 ≡ ticked_from i node mails
ticked-next i d node mails less =
    let on = node.policy in
    let names = node.draws in
    let rs = node.replicas in
    let left : Drawer = names_after_tick on names (get_or rs i d) in
    let after : Place = tick_row on names (get_or rs i d, mails) in
    ap (λ (p : List ReplicaState × List Mail). (record node { draws = names_after_ticks on left (drop (i + 1) (set rs i after.0)); replicas = p.0 }, p.1))
    (ticked-step on names left rs i d after.0 mails after.1 less refl refl)
    ∙ ap (λ (l : Drawer). let p = before (take i rs) (ticked on names (drop i rs) mails) in (record node { draws = l; replicas = p.0 }, p.1))
    (names-step on names left rs i d after.0 less refl)

one-of : (rs : List ReplicaState) (i : ℕ) → i < length rs → ReplicaState
one-of [] i less = absurd (omega arith)
one-of (r ∷ rs) i less = r

-- the replica at a place has ticked too
pub ticked-more : (i : ℕ) (node new : NodeState) (mails more : List Mail) → i < length node.replicas → ((d : ReplicaState) → (new, more) ≡ ticked_at i d (node, mails))
    → ticked_from (i + 1) new more ≡ ticked_from i node mails
ticked-more i node new mails more less e =
    let d = one-of node.replicas i less in
    ap (λ (p : NodeState × List Mail). ticked_from (i + 1) p.0 p.1) (e d) ∙ ticked-next i d node mails less

-- a tick keeps the number of replicas
pub as-many : (i : ℕ) (node new : NodeState) (mails more : List Mail) → i < length node.replicas → ((d : ReplicaState) → (new, more) ≡ ticked_at i d (node, mails))
    → length new.replicas ≡ length node.replicas
as-many i node new mails more less e =
    let d = one-of node.replicas i less in
    ap (λ (p : NodeState × List Mail). length p.0.replicas) (e d)
    ∙ length-set node.replicas i (tick_row node.policy node.draws (get_or node.replicas i d, mails)).0

-- all have ticked
pub ticked-whole : (i : ℕ) (node : NodeState) (mails : List Mail) → length node.replicas ≤ i → ticked_from i node mails ≡ (node, mails)
ticked-whole i node mails le =
    let on = node.policy in
    let names = node.draws in
    let rs = node.replicas in
    ap (λ (p : List ReplicaState × List Mail). (record node { draws = names_after_ticks on names (drop i rs); replicas = p.0 }, p.1)) (sym (ticked-all on names rs i mails le))
    ∙ ap (λ (l : Drawer). (record node { draws = l }, mails)) (sym (names-all on names rs i le))
