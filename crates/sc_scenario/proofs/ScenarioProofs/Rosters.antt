-- Lists that rise stay so when an element is put into its place.
use Rattle.std.proofs.Common.{◌≡◌, ℕ, ◌<◌, Bool, true, false, cond, refl, eqb, ltb, List, [], ◌∷◌, length, filter, None, Some, arith, is_none}
use Rattle.std.specs.List.{All}
use Rattle.std.proofs.lemmas.Bool.{eqb-false}
use Rattle.std.proofs.lemmas.List.Elements.{All-cons, All-append, All-filter}
use Rattle.sc_base.specs.Definitions.{IsRoster, is_member, with_member, add_error}
use Rattle.sc_base.proofs.Lemmas.{roster_with as roster_put}
use Rattle.sc_base.specs.declared.sets.MemberError.TheVariants.{Present, Full}

-- one node is a set
pub roster_one : (n : ℕ) → IsRoster (n ∷ [])
roster_one n = record { some = omega arith; most = omega arith; ascending = λ k within. absurd (omega arith) }

free_parts : (is full : Bool) → is_none (cond is (Some Present) (cond full (Some Full) None)) ≡ true → (is ≡ false) × (full ≡ false)
free_parts true full e = cc
free_parts false true e = cc
free_parts false false e = (refl, refl)

room : (members : List ℕ) (n : ℕ) → IsRoster members → is_none (add_error members n) ≡ true → length members < 9
room members n is free =
    let e : (is_member members n ≡ false) × (eqb (length members) 9 ≡ false) = free_parts (is_member members n) (eqb (length members) 9) free in
    let ne = eqb-false (length members) 9 e.1 in
    omega (arith, is.most, ne)

-- a node that is put into a set where it may stand
pub roster_with : (members : List ℕ) (n : ℕ) → IsRoster members → is_none (add_error members n) ≡ true → IsRoster (with_member members n)
roster_with members n is free =
    let parts = free_parts (is_member members n) (eqb (length members) 9) free in
    roster_put members n is parts.0 (room members n is free)

-- what holds of each member and of the node holds of each after it was put in
pub all_with : (P : ℕ → Type 0) (members : List ℕ) (n : ℕ) → All P members → P n → All P (with_member members n)
all_with P members n all here =
    All-append P (filter (λ x. ltb x n) members) (n ∷ filter (λ x. ltb n x) members) (All-filter (λ x. ltb x n) P members all) (All-cons P n (filter (λ x. ltb n x) members) here (All-filter (λ x. ltb n x) P members all))
