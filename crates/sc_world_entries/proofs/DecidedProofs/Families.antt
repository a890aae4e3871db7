-- The groups of rows, with what is kept of each.
use Rattle.std.proofs.Common.{◌≡◌, ℕ, zero, suc, ◌+◌, ◌<◌, ◌≤◌, ◌==◌, get_or, take, Bool, true, false, ◌||◌, List, [], ◌∷◌, ◌++◌, length, map, fold, Some, ◌⊎◌, inl, inr, refl, sym, ◌∙◌, ap, subst, arith, append-nil}
use Rattle.std.specs.Prelude.{find}
use Rattle.std.specs.List.{flat_map, list_any}
use Rattle.std.proofs.lemmas.Bool.{cases_Bool, cond-true, cond-false, eqb-true}
use Rattle.std.proofs.Math.Seq.{take-suc}
use Rattle.std.proofs.lemmas.List.{map-append, length_push}
use Rattle.std.proofs.lemmas.Grind.{flat_map-append, fold-append}
use Rattle.sc_base.specs.Among.{Each}
use Rattle.sc_base.specs.declared.names.Draw.{Draw}
use Rattle.sc_words.specs.declared.commands.cores.Base.{Base}
use Rattle.sc_words.specs.declared.commands.orders.OrderLine.{OrderLine}
use Rattle.sc_mail.specs.declared.bodies.Mail.{Mail}
use Rattle.sc_actor.specs.declared.rows.Row.{Row}
use Rattle.sc_group_table.specs.machine.Group.{group_of}
use Rattle.sc_meaning.specs.sound.Players.{as_nodes}
use Rattle.sc_meaning.specs.sound.Accepts.{accepts}
use Rattle.sc_meaning.specs.sound.GroupsOf.{children_of, children_by, is_birth_of, with_birth, with_next_children, with_descendants, groups_at, log_by}
use Rattle.sc_meaning.specs.sound.Logs.{rule_of, decided_log}
use Rattle.sc_world_logs.specs.Known.{IsKnown}
use Rattle.sc_world_entries.specs.decided.Found.{kept_log, is_kept_of, log_kept, AreKnown, AreTracked}
use Rattle.sc_world_entries.specs.declared.decided.births.Groups.{Groups}
use Rattle.sc_world_logs.specs.declared.known.Known.{Known}
use Rattle.sc_world_logs.proofs.Chosen.{log_is}
use Rattle.sc_words.proofs.PaxosProofs.ListLemmas.{Each-push}

-- ---- facts of each

each_prefix : {X : Type 0} (P : X → Type 0) (xs : List X) (x : X) → Each P (xs ++ x ∷ []) → Each P xs
each_prefix P [] x all = tt
each_prefix P (y ∷ xs) x all = (all.0, each_prefix P xs x all.1)

pub each_of : {X : Type 0} (P : X → Type 0) (xs : List X) → ((x : X) → P x) → Each P xs
each_of P [] all = tt
each_of P (x ∷ xs) all = (all x, each_of P xs all)

pub flat_same : {X Y : Type 0} (f g : X → List Y) (xs : List X) → Each (λ (x : X). f x ≡ g x) xs → flat_map f xs ≡ flat_map g xs
flat_same f g [] same = refl
flat_same {X} {Y} f g (x ∷ xs) same = ap (λ (ys : List Y). ys ++ flat_map f xs) same.0 ∙ ap (λ (ys : List Y). g x ++ ys) (flat_same f g xs same.1)

-- ---- what is kept of a group

-- its log is the decided one
pub known_log : (rows : List (Row Mail OrderLine)) (known : Known) → IsKnown rows known → known.log.items ≡ decided_log as_nodes known.base rows
known_log rows known is = sym (log_is (rule_of as_nodes known.base) (accepts known.base.core.id rows) known.log.items is.agrees.chosen is.ends)

-- the log that is kept of the group with a name is its decided log
pub kept_log_is : (rows : List (Row Mail OrderLine)) (knowns : List Known) (name : Draw) → Each (IsKnown rows) knowns
    → kept_log (find (is_kept_of name) knowns) ≡ log_by as_nodes rows (find (is_birth_of name) (map (λ (known : Known). known.base) knowns))
kept_log_is rows [] name all = refl
kept_log_is rows (known ∷ knowns) name all = elim (cases_Bool (is_kept_of name known)) [
  | inl t ↦
      ap kept_log (cond-true (is_kept_of name known) (Some known) (find (is_kept_of name) knowns) t) ∙ known_log rows known all.0
      ∙ ap (log_by as_nodes rows) (sym (cond-true (is_kept_of name known) (Some known.base) (find (is_birth_of name) (map (λ (k : Known). k.base) knowns)) t))
  | inr f ↦
      ap kept_log (cond-false (is_kept_of name known) (Some known) (find (is_kept_of name) knowns) f) ∙ kept_log_is rows knowns name all.1
      ∙ ap (log_by as_nodes rows) (sym (cond-false (is_kept_of name known) (Some known.base) (find (is_birth_of name) (map (λ (k : Known). k.base) knowns)) f))
]

pub log_in_is : (rows : List (Row Mail OrderLine)) (bases : List Base) (knowns : List Known) (name : Draw) → AreKnown rows bases knowns
    → log_kept name knowns ≡ log_by as_nodes rows (find (is_birth_of name) bases)
log_in_is rows bases knowns name known =
    kept_log_is rows knowns name known.each ∙ ap (λ (bs : List Base). log_by as_nodes rows (find (is_birth_of name) bs)) known.bases_are

-- whether a name is there
pub any_named : (knowns : List Known) (name : Draw) → list_any (is_kept_of name) knowns ≡ list_any (is_birth_of name) (map (λ (known : Known). known.base) knowns)
any_named [] name = refl
any_named (known ∷ knowns) name = ap (λ (b : Bool). is_kept_of name known || b) (any_named knowns name)

-- the children that are kept are those that the logs name
children_kept : (rows : List (Row Mail OrderLine)) (knowns : List Known) → Each (IsKnown rows) knowns
    → flat_map (λ (known : Known). known.children.items) knowns ≡ flat_map (children_by as_nodes rows) (map (λ (known : Known). known.base) knowns)
children_kept rows [] all = refl
children_kept rows (known ∷ knowns) all =
    ap (λ (ys : List Base). ys ++ flat_map (λ (k : Known). k.children.items) knowns) (all.0.children ∙ ap (children_of (group_of known.base)) (known_log rows known all.0))
    ∙ ap (λ (ys : List Base). children_by as_nodes rows known.base ++ ys) (children_kept rows knowns all.1)

pub children_are : (rows : List (Row Mail OrderLine)) (bases : List Base) (knowns : List Known) → AreKnown rows bases knowns
    → flat_map (λ (known : Known). known.children.items) knowns ≡ flat_map (children_by as_nodes rows) bases
children_are rows bases knowns known = children_kept rows knowns known.each ∙ ap (flat_map (children_by as_nodes rows)) known.bases_are

-- one more group
pub known_push : (rows : List (Row Mail OrderLine)) (bases : List Base) (knowns : List Known) (base : Base) (known : Known)
    → AreKnown rows bases knowns → IsKnown rows known → known.base ≡ base → AreKnown rows (bases ++ base ∷ []) (knowns ++ known ∷ [])
known_push rows bases knowns base known are is born = record {
  bases_are =
      map-append (λ (k : Known). k.base) knowns (known ∷ []) ∙ ap (λ (bs : List Base). bs ++ known.base ∷ []) are.bases_are
      ∙ ap (λ (b : Base). bases ++ b ∷ []) born;
  each = Each-push (IsKnown rows) knowns known are.each is;
}

-- a child whose name is there is not born
pub birth_was : (rows : List (Row Mail OrderLine)) (bases : List Base) (knowns : List Known) (child : Base) → AreKnown rows bases knowns → list_any (is_kept_of child.core.id) knowns ≡ true
    → with_birth bases child ≡ bases
birth_was rows bases knowns child are there =
    cond-true (list_any (is_birth_of child.core.id) bases) bases (bases ++ child ∷ [])
    (ap (list_any (is_birth_of child.core.id)) (sym are.bases_are) ∙ sym (any_named knowns child.core.id) ∙ there)

-- another one is
pub birth_is : (rows : List (Row Mail OrderLine)) (bases : List Base) (knowns : List Known) (child : Base) → AreKnown rows bases knowns → list_any (is_kept_of child.core.id) knowns ≡ false
    → with_birth bases child ≡ bases ++ child ∷ []
birth_is rows bases knowns child are there =
    cond-false (list_any (is_birth_of child.core.id) bases) bases (bases ++ child ∷ [])
    (ap (list_any (is_birth_of child.core.id)) (sym are.bases_are) ∙ sym (any_named knowns child.core.id) ∙ there)

-- ---- again and again

-- where the children of the groups are there, more rounds find no other
pub stable : (rows : List (Row Mail OrderLine)) (bases : List Base) (i n : ℕ) → i ≤ n → with_next_children as_nodes rows (with_descendants as_nodes rows i bases) ≡ with_descendants as_nodes rows i bases
    → with_descendants as_nodes rows n bases ≡ with_descendants as_nodes rows i bases
stable rows bases i zero le calm = (let none : zero ≡ i = omega (arith, le) in ap (λ (k : ℕ). with_descendants as_nodes rows k bases) none)
stable rows bases i (suc n) le calm = elim (last i n le) [
  | inl before ↦ ap (with_next_children as_nodes rows) (stable rows bases i n before calm) ∙ calm
  | inr here ↦ ap (λ (k : ℕ). with_descendants as_nodes rows k bases) here
]
  where
    last : (k m : ℕ) → k ≤ suc m → (k ≤ m) ⊎ (suc m ≡ k)
    last zero m l = inl (omega arith)
    last (suc zero) zero l = inr refl
    last (suc (suc k)) zero l = absurd (omega (arith, l))
    last (suc k) (suc m) l = elim (last k m (omega (arith, l))) [ inl b ↦ inl (omega (arith, b)) | inr e ↦ inr (ap suc e) ]

each_before : (P : Base → Type 0) (bases : List Base) (base : Base) → Each P (with_birth bases base) → Each P bases
each_before P bases base all = elim (cases_Bool (list_any (is_birth_of base.core.id) bases)) [
  | inl t ↦ subst (Each P) (cond-true (list_any (is_birth_of base.core.id) bases) bases (bases ++ base ∷ []) t) all
  | inr f ↦ each_prefix P bases base (subst (Each P) (cond-false (list_any (is_birth_of base.core.id) bases) bases (bases ++ base ∷ []) f) all)
]

each_earlier : (P : Base → Type 0) (bases children : List Base) → Each P (fold with_birth bases children) → Each P bases
each_earlier P bases [] all = all
each_earlier P bases (child ∷ children) all = each_before P bases child (each_earlier P (with_birth bases child) children all)

-- two journals whose logs name the same children
abbrev pub SameChildren : List (Row Mail OrderLine) → List (Row Mail OrderLine) → Base → Type 0
SameChildren rows after base = children_by as_nodes after base ≡ children_by as_nodes rows base

same_round : (rows after : List (Row Mail OrderLine)) (bases : List Base) → Each (SameChildren rows after) bases → with_next_children as_nodes after bases ≡ with_next_children as_nodes rows bases
same_round rows after bases same = ap (fold with_birth bases) (flat_same (children_by as_nodes after) (children_by as_nodes rows) bases same)

same_rounds : (rows after : List (Row Mail OrderLine)) (bases : List Base) (n : ℕ) → Each (SameChildren rows after) (with_descendants as_nodes rows n bases)
    → with_descendants as_nodes after n bases ≡ with_descendants as_nodes rows n bases
same_rounds rows after bases zero same = refl
same_rounds rows after bases (suc n) same =
    let before : List Base = with_descendants as_nodes rows n bases in
    let each : Each (SameChildren rows after) before = each_earlier (SameChildren rows after) before (flat_map (children_by as_nodes rows) before) same in
    ap (with_next_children as_nodes after) (same_rounds rows after bases n each) ∙ same_round rows after before each

-- the groups with one more row, where it makes no child
pub same_groups : (rows : List (Row Mail OrderLine)) (row : Row Mail OrderLine) (bases : List Base)
    → with_next_children as_nodes rows (groups_at as_nodes bases rows) ≡ groups_at as_nodes bases rows
    → Each (SameChildren rows (rows ++ row ∷ [])) (groups_at as_nodes bases rows)
    → (groups_at as_nodes bases (rows ++ row ∷ []) ≡ groups_at as_nodes bases rows)
    × (with_next_children as_nodes (rows ++ row ∷ []) (groups_at as_nodes bases rows) ≡ groups_at as_nodes bases rows)
same_groups rows row bases settled same =
    let after : List (Row Mail OrderLine) = rows ++ row ∷ [] in
    let one : length after ≡ suc (length rows) = length_push rows row ∙ omega arith in
    let still : with_next_children as_nodes after (groups_at as_nodes bases rows) ≡ groups_at as_nodes bases rows = same_round rows after (groups_at as_nodes bases rows) same ∙ settled in (
      ap (λ (n : ℕ). with_descendants as_nodes after n bases) one ∙ ap (with_next_children as_nodes after) (same_rounds rows after bases (length rows) same) ∙ still,
      still,
    )

-- one more of the first groups
pub first_push : (rows : List (Row Mail OrderLine)) (bases : List Base) (i : ℕ) (knowns : List Known) (base : Base) (known : Known) → i < length bases → base ≡ get_or bases i base
    → AreKnown rows (take i bases) knowns → IsKnown rows known → known.base ≡ base → AreKnown rows (take (i + 1) bases) (knowns ++ known ∷ [])
first_push rows bases i knowns base known within here are is born =
    let one : i + 1 ≡ suc i = omega arith in
    let prefix : take (i + 1) bases ≡ take i bases ++ base ∷ [] = ap (λ (n : ℕ). take n bases) one ∙ take-suc bases i base within ∙ ap (λ (b : Base). take i bases ++ b ∷ []) (sym here) in
    subst (λ (bs : List Base). AreKnown rows bs (knowns ++ known ∷ [])) (sym prefix) (known_push rows (take i bases) knowns base known are is born)

-- one more child
pub births_push : (bases children : List Base) (i : ℕ) (child : Base) → i < length children → child ≡ get_or children i child
    → fold with_birth bases (take (i + 1) children) ≡ with_birth (fold with_birth bases (take i children)) child
births_push bases children i child within here =
    let one : i + 1 ≡ suc i = omega arith in
    ap (fold with_birth bases) (ap (λ (n : ℕ). take n children) one ∙ take-suc children i child within ∙ ap (λ (b : Base). take i children ++ b ∷ []) (sym here))
    ∙ fold-append with_birth bases (take i children) (child ∷ [])

-- the children of one more group
pub children_push : (bases : List Base) (knowns : List Known) (i : ℕ) (known : Known) → i < length knowns → known ≡ get_or knowns i known
    → fold with_birth bases (flat_map (λ (k : Known). k.children.items) (take (i + 1) knowns)) ≡ fold with_birth (fold with_birth bases (flat_map (λ (k : Known). k.children.items) (take i knowns))) known.children.items
children_push bases knowns i known within here =
    let one : i + 1 ≡ suc i = omega arith in
    let of : Known → List Base = λ (k : Known). k.children.items in
    ap (λ (ks : List Known). fold with_birth bases (flat_map of ks)) (ap (λ (n : ℕ). take n knowns) one ∙ take-suc knowns i known within ∙ ap (λ (k : Known). take i knowns ++ k ∷ []) (sym here))
    ∙ ap (fold with_birth bases) (flat_map-append of (take i knowns) (known ∷ []) ∙ ap (λ (bs : List Base). flat_map of (take i knowns) ++ bs) (append-nil known.children.items))
    ∙ fold-append with_birth bases (flat_map of (take i knowns)) known.children.items

-- a list of no length is empty
pub none_long : (knowns : List Known) → (length knowns == 0) ≡ true → knowns ≡ []
none_long [] none = refl
none_long (known ∷ knowns) none = (let zero_long : length (known ∷ knowns) ≡ 0 = eqb-true (length (known ∷ knowns)) 0 none in absurd (omega (arith, zero_long)))

-- where none was born, the groups are as they were
pub none_born : (rows : List (Row Mail OrderLine)) (bases later : List Base) (knowns born : List Known) → born ≡ [] → AreKnown rows bases knowns → AreKnown rows later (knowns ++ born) → later ≡ bases
none_born rows bases later knowns born none known are =
    sym are.bases_are ∙ ap (map (λ (k : Known). k.base)) (ap (λ (ks : List Known). knowns ++ ks) none ∙ append-nil knowns) ∙ known.bases_are

-- the groups after a round that finds no other are all groups
pub found_all : (rows : List (Row Mail OrderLine)) (bases : List Base) (i : ℕ) (groups : Groups) → i ≤ length rows
    → AreKnown rows (with_next_children as_nodes rows (with_descendants as_nodes rows i bases)) groups.knowns.items
    → with_next_children as_nodes rows (with_descendants as_nodes rows i bases) ≡ with_descendants as_nodes rows i bases → AreTracked bases rows groups
found_all rows bases i groups within known calm =
    let last : groups_at as_nodes bases rows ≡ with_descendants as_nodes rows i bases = stable rows bases i (length rows) within calm in
    record {
      known = subst (λ (bs : List Base). AreKnown rows bs groups.knowns.items) (calm ∙ sym last) known;
      settled = λ t. ap (with_next_children as_nodes rows) last ∙ calm ∙ sym last;
    }

-- ---- no groups

none_descend : (rows : List (Row Mail OrderLine)) (n : ℕ) → with_descendants as_nodes rows n [] ≡ []
none_descend rows zero = refl
none_descend rows (suc n) = ap (with_next_children as_nodes rows) (none_descend rows n)

-- where there are no groups to begin with, none are found
pub none_known : (rows : List (Row Mail OrderLine)) (n : ℕ) (bases : List Base) (knowns : List Known) → bases ≡ [] → AreKnown rows (with_descendants as_nodes rows n bases) knowns → knowns ≡ []
none_known rows n bases [] none are = refl
none_known rows n bases (known ∷ knowns) none are = absurd (omega (arith, ap length (are.bases_are ∙ ap (with_descendants as_nodes rows n) none ∙ none_descend rows n)))
