-- Facts of each element of a list.
use Rattle.std.proofs.Common.{◌≡◌, ℕ, zero, suc, List, [], ◌∷◌, take, Some, refl}
use Rattle.std.specs.Prelude.{slice_get}
use Rattle.sc_base.specs.Definitions.{Each}

-- what holds of each element holds of each of the first
pub Each-take : {X : Type 0} (P : X → Type 0) (n : ℕ) (xs : List X) → Each P xs → Each P (take n xs)
Each-take P zero xs e = tt
Each-take P (suc n) [] e = tt
Each-take P (suc n) (x ∷ xs) e = (e.0, Each-take P n xs e.1)

-- what holds at each place holds of each element
pub each_got : {X : Type 0} (P : X → Type 0) (xs : List X) → ((k : ℕ) (x : X) → slice_get xs k ≡ Some x → P x) → Each P xs
each_got P [] f = tt
each_got P (x ∷ xs) f = (f 0 x refl, each_got P xs (λ k y e. f (suc k) y e))
