-- The entries of an ordered map from slots, against the values by their slots.
use Rattle.std.proofs.Common.{◌≡◌, ℕ, ◌==◌, List, [], ◌∷◌, Some, if◌then◌else◌, inl, inr, refl, sym, ◌∙◌, ap, arith, nat_lt}
use Rattle.std.proofs.lemmas.Bool.{cases_order, eq-eqb, ne_eqb, lt-ltb, le-ltb}
use Rattle.std.specs.Ordering.{is_eq, match_ordering, nat_cmp}
use Rattle.std.specs.BTreeMap.{insert_entry, is_at}
use Rattle.std.specs.Map.{lookup, remove_entry}
use Rattle.sc_node_table.specs.NodeDefinitions.{at_slot, with_slot, without_slot}

-- a comparison of two numbers, by its three outcomes
put_here : {X : Type 0} (slot n : ℕ) (x : X) (es less more : List (ℕ × X))
    → match_ordering (nat_cmp slot n) less ((n, x) ∷ es) more ≡ (if n == slot then (slot, x) ∷ es else if nat_lt slot n then less else more)
put_here slot n x es less more = elim (cases_order slot n) [
  | inl e ↦ rw (le-ltb slot n (omega (arith, e)), eq-eqb slot n e, eq-eqb n slot (sym e), e) refl
  | inr (inl lt) ↦ rw (lt-ltb slot n lt, ne_eqb n slot (λ e. omega (arith, e, lt))) refl
  | inr (inr gt) ↦ rw (le-ltb slot n (omega (arith, gt)), ne_eqb slot n (λ e. omega (arith, e, gt)), ne_eqb n slot (λ e. omega (arith, e, gt))) refl
]

same_test : (slot n : ℕ) → is_eq (nat_cmp slot n) ≡ (n == slot)
same_test slot n = elim (cases_order slot n) [
  | inl e ↦ rw (le-ltb slot n (omega (arith, e)), eq-eqb slot n e, eq-eqb n slot (sym e)) refl
  | inr (inl lt) ↦ rw (lt-ltb slot n lt, ne_eqb n slot (λ e. omega (arith, e, lt))) refl
  | inr (inr gt) ↦ rw (le-ltb slot n (omega (arith, gt)), ne_eqb slot n (λ e. omega (arith, e, gt)), ne_eqb n slot (λ e. omega (arith, e, gt))) refl
]

-- the map with the value of a slot
pub put-with_slot : {X : Type 0} (es : List (ℕ × X)) (slot : ℕ) (x : X) → insert_entry nat_cmp es slot x ≡ with_slot es slot x
put-with_slot [] slot x = refl
put-with_slot (e ∷ es) slot x =
    put_here slot e.0 x es ((slot, x) ∷ e ∷ es) (e ∷ insert_entry nat_cmp es slot x)
    ∙ ap (λ more. if e.0 == slot then (slot, x) ∷ es else if nat_lt slot e.0 then (slot, x) ∷ e ∷ es else e ∷ more) (put-with_slot es slot x)

-- the value of a slot
pub found-at_slot : {X : Type 0} (es : List (ℕ × X)) (slot : ℕ) → lookup (is_at (nat_cmp slot)) es ≡ at_slot es slot
found-at_slot [] slot = refl
found-at_slot (e ∷ es) slot =
    ap (λ b. if b then Some e.1 else lookup (is_at (nat_cmp slot)) es) (same_test slot e.0)
    ∙ ap (λ o. if e.0 == slot then Some e.1 else o) (found-at_slot es slot)

-- the map without the value of a slot
pub removed-without_slot : {X : Type 0} (es : List (ℕ × X)) (slot : ℕ) → remove_entry (is_at (nat_cmp slot)) es ≡ without_slot es slot
removed-without_slot [] slot = refl
removed-without_slot (e ∷ es) slot =
    ap (λ b. if b then es else e ∷ remove_entry (is_at (nat_cmp slot)) es) (same_test slot e.0)
    ∙ ap (λ more. if e.0 == slot then es else e ∷ more) (removed-without_slot es slot)
