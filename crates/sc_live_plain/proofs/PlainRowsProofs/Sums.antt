-- What all of some owe together.
use Rattle.std.proofs.Common.{◌≡◌, ℕ, ◌*◌, ◌≤◌, List, [], ◌∷◌, map, inl, inr, refl, ap, arith}
use Rattle.std.specs.List.{sum_by}
use Rattle.std.proofs.lemmas.List.Sums.{sum_by-cons}
use Rattle.std.proofs.Math.Nat.{add-mul}
use Rattle.sc_base.specs.Definitions.{Among}

-- all of some owe no more than a share of each
pub shares : {X : Type 0} (f g : X → ℕ) (c : ℕ) (xs : List X) → ((x : X) → Among x xs → f x ≤ g x * c) → sum_by f xs ≤ sum_by g xs * c
shares f g c [] low = omega arith
shares f g c (x ∷ xs) low =
    let one = sum_by-cons f x xs in
    let other = sum_by-cons g x xs in
    let here = low x (inl refl) in
    let rest = shares f g c xs (λ y a. low y (inr a)) in
    let both = add-mul (g x) (sum_by g xs) c in
    let same = ap (λ n. n * c) other in
    omega (arith, one, here, rest, both, same)

-- what all owe is what each of those owes of whom they are made
pub sum_mapped : {X Y : Type 0} (f : Y → ℕ) (g : X → Y) (xs : List X) → sum_by f (map g xs) ≡ sum_by (λ x. f (g x)) xs
sum_mapped f g [] = refl
sum_mapped f g (x ∷ xs) = (let a = sum_by-cons f (g x) (map g xs) in let b = sum_by-cons (λ y. f (g y)) x xs in let rest = sum_mapped f g xs in omega (arith, a, b, rest))

-- where none owes anything, all owe nothing
pub none_together : {X : Type 0} (f : X → ℕ) (xs : List X) → ((x : X) → f x ≡ 0) → sum_by f xs ≡ 0
none_together f [] none = refl
none_together f (x ∷ xs) none = (let a = sum_by-cons f x xs in let here = none x in let rest = none_together f xs none in omega (arith, a, here, rest))
