-- Names that a node draws one after another: each is the next, so none is drawn twice.
use Rattle.std.specs.List.{AllPairs}
use Rattle.std.proofs.Common.{◌≡◌, ◌<◌, ◌≤◌, ◌&&◌, ◌||◌, not, eqb, Bool, true, false, cond, List, [], ◌∷◌, ◌++◌, Option, Some, None, inl, inr, refl, sym, ◌∙◌, ap, subst, arith, All}
use Rattle.std.specs.Prelude.{is_some, is_none}
use Rattle.std.proofs.lemmas.Bool.{and_from, cases_Bool, cases_lt, cond-true, cond-false, eq-eqb}
use Rattle.std.proofs.lemmas.List.Elements.{All-nil, All-cons}
use Rattle.std.proofs.lemmas.List.Kept.{AllPairs-cons}
use Rattle.sc_base.specs.Definitions.{Among, Drawer, next_name, drawn_on, is_member}
use Rattle.sc_node_table.specs.Values.{Draw, OrderLine}
use Rattle.sc_base.proofs.Lemmas.{draw_is}
use Rattle.sc_node_table.specs.NodeDefinitions.{group_of_order, takes_name, untaken, names_after, wished_line, names_with, names_after_tick, ReplicaState, members, settled}
use Rattle.sc_law_entries.specs.names.NameDefinitions.{Owned, owned_by, drawn_for, waited, wished_at, drawn_wishing, owner_by}
use Rattle.sc_law_entries.proofs.NamesProofs.Owned.{owner_of_drawn, owner_of_other}

-- what a node draws: its next names, one after another
abbrev pub Draws : Drawer → Drawer → List Owned → Type 0
Draws before after [] = after ≡ before
Draws before after (owned ∷ more) = (owned.name ≡ next_name before) × Draws (drawn_on before) after more

-- what is drawn first and what is drawn then
pub draws_both : (before midway after : Drawer) (first later : List Owned) → Draws before midway first → Draws midway after later → Draws before after (first ++ later)
draws_both before midway after [] later f t = subst (λ (d : Drawer). Draws d after later) f t
draws_both before midway after (owned ∷ first) later f t = (f.0, draws_both (drawn_on before) midway after first later f.1 t)

-- the counter rises, and the node stays
pub draws_up : (before after : Drawer) (drawn : List Owned) → Draws before after drawn → (before.node ≡ after.node) × (before.next ≤ after.next)
draws_up before after [] d = (let next : after.next ≡ before.next = ap (λ (x : Drawer). x.next) d in (ap (λ (x : Drawer). x.node) (sym d), omega (arith, next)))
draws_up before after (owned ∷ more) d = (let up = draws_up (drawn_on before) after more d.1 in let most = up.1 in (up.0, omega (arith, most)))

-- each name from the counter before up to the counter after was drawn
pub drawn_between : (before after : Drawer) (drawn : List Owned) → Draws before after drawn → (name : Draw) → name.node ≡ before.node → before.next ≤ name.count → name.count < after.next → (group : Draw) × (owner_by drawn name ≡ Some group)
drawn_between before after [] d name of low high = (let next : after.next ≡ before.next = ap (λ (x : Drawer). x.next) d in absurd (omega (arith, low, high, next)))
drawn_between before after (owned ∷ more) d name of low high = elim (cases_lt before.next name.count) [
  | inl less ↦ (
      let apart : owned.name ≡ name → ⊥ = λ same. (let count : before.next ≡ name.count = ap (λ (x : Draw). x.count) (sym d.0 ∙ same) in absurd (omega (arith, count, less))) in
      let later = drawn_between (drawn_on before) after more d.1 name of (omega (arith, less)) high in
      (later.0, owner_of_other owned more name apart ∙ later.1))
  | inr most ↦ (
      let count : before.next ≡ name.count = omega (arith, most, low) in
      let same : owned.name ≡ name = d.0 ∙ draw_is (next_name before) name (and_from (eqb before.node name.node) (eqb before.next name.count) (eq-eqb before.node name.node (sym of)) (eq-eqb before.next name.count count)) in
      (owned.group, subst (λ (n : Draw). owner_by (owned ∷ more) n ≡ Some owned.group) same (owner_of_drawn owned more)))
]

-- none from the counter after on was
pub drawn_not_past : (before after : Drawer) (drawn : List Owned) → Draws before after drawn → (name : Draw) → after.next ≤ name.count → owner_by drawn name ≡ None
drawn_not_past before after [] d name past = refl
drawn_not_past before after (owned ∷ more) d name past =
    let up = (draws_up (drawn_on before) after more d.1).1 in
    owner_of_other owned more name (λ same. (let count : before.next ≡ name.count = ap (λ (x : Draw). x.count) (sym d.0 ∙ same) in absurd (omega (arith, count, past, up))))
    ∙ drawn_not_past (drawn_on before) after more d.1 name past

-- a drawn name is one of the node, from its counter on, and is owned by its group
pub record IsNext (before : Drawer) (drawn : List Owned) (owned : Owned) : Type 0 where
  pub of : owned.name.node ≡ before.node
  pub from : before.next ≤ owned.name.count
  pub own : owner_by drawn owned.name ≡ Some owned.group

-- so is each that is drawn
pub drawn_from : (before after : Drawer) (drawn : List Owned) → Draws before after drawn → (owned : Owned) → Among owned drawn → IsNext before drawn owned
drawn_from before after [] d owned a = absurd a
drawn_from before after (first ∷ more) d owned (inl same) =
    let count : first.name.count ≡ before.next = ap (λ (x : Draw). x.count) d.0 in
    subst (IsNext before (first ∷ more)) same (record { of = ap (λ (x : Draw). x.node) d.0; from = omega (arith, count); own = owner_of_drawn first more })
drawn_from before after (first ∷ more) d owned (inr a) =
    let later = drawn_from (drawn_on before) after more d.1 owned a in
    let low = later.from in
    record {
      of = later.of;
      from = omega (arith, low);
      own = owner_of_other first more owned.name (λ same. (let count : before.next ≡ owned.name.count = ap (λ (x : Draw). x.count) (sym d.0 ∙ same) in absurd (omega (arith, count, low)))) ∙ later.own;
    }

-- ---- no name twice

-- of two different names
abbrev pub Differ : Owned → Owned → Type 0
Differ one other = one.name ≡ other.name → ⊥

differ_from : (name : Draw) (before after : Drawer) (drawn : List Owned) → Draws before after drawn → name.count < before.next → All (λ (other : Owned). name ≡ other.name → ⊥) drawn
differ_from name before after [] d less = All-nil (λ (other : Owned). name ≡ other.name → ⊥)
differ_from name before after (owned ∷ more) d less =
    All-cons (λ (other : Owned). name ≡ other.name → ⊥) owned more
    (λ same. (let count : name.count ≡ before.next = ap (λ (x : Draw). x.count) (same ∙ d.0) in absurd (omega (arith, count, less))))
    (differ_from name (drawn_on before) after more d.1 (omega (arith, less)))

-- names that are drawn one after another differ
pub drawn_once : (before after : Drawer) (drawn : List Owned) → Draws before after drawn → AllPairs Differ drawn
drawn_once before after [] d = λ i j x lt within. absurd (omega (arith, within))
drawn_once before after (owned ∷ more) d =
    let count : owned.name.count ≡ before.next = ap (λ (x : Draw). x.count) d.0 in
    AllPairs-cons Differ owned more (differ_from owned.name (drawn_on before) after more d.1 (omega (arith, count))) (drawn_once (drawn_on before) after more d.1)

-- ---- what draws

-- an order draws the next name, or none
pub line_draws : (drawer : Drawer) (line : OrderLine) (r : ReplicaState) → Draws drawer (names_after drawer line r) (drawn_for drawer line (Some r))
line_draws drawer line r =
    let taken = takes_name line.order && is_none (untaken drawer line r) in
    let one = owned_by (next_name drawer) (group_of_order line.order) ∷ [] in
    elim (cases_Bool taken) [
      | inl t ↦ subst (Draws drawer (names_after drawer line r)) (sym (cond-true taken one [] t)) (refl, cond-true taken (drawn_on drawer) drawer t)
      | inr f ↦ subst (Draws drawer (names_after drawer line r)) (sym (cond-false taken one [] f)) (cond-false taken (drawn_on drawer) drawer f)
    ]

wish_draws : (drawer : Drawer) (o : Option OrderLine) (r : ReplicaState) → Draws drawer (names_with drawer o r) (drawn_wishing drawer o r)
wish_draws drawer None r = refl
wish_draws drawer (Some line) r = line_draws drawer line r

-- by whether a replica is away or not settled, the names that it leaves are those of what it orders
names_by : (away waits : Bool) (drawer : Drawer) (line : Option OrderLine) (r : ReplicaState) → cond away drawer (cond waits drawer (names_with drawer line r)) ≡ names_with drawer (cond away None (cond waits None line)) r
names_by true waits drawer line r = refl
names_by false true drawer line r = refl
names_by false false drawer line r = refl

-- so does a replica at a tick
pub tick_draws : (on : Bool) (drawer : Drawer) (r : ReplicaState) → Draws drawer (names_after_tick on drawer r) (drawn_wishing drawer (wished_at on r) (waited r))
tick_draws on drawer r =
    subst (λ (d : Drawer). Draws drawer d (drawn_wishing drawer (wished_at on r) (waited r)))
    (sym (names_by (is_some r.group.core.gone || not (is_member (members r) r.me)) (not (settled r)) drawer (wished_line on (waited r)) (waited r)))
    (wish_draws drawer (wished_at on r) (waited r))
