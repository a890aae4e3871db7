-- What is left of a list, and what its elements are mapped to.
use Rattle.std.proofs.Common.{ℕ, zero, suc, List, [], ◌∷◌, drop, map, inl, inr, ap}
use Rattle.sc_base.specs.Definitions.{Among, Each}

-- it holds of each that is left
pub Each-drop : {X : Type 0} (P : X → Type 0) (n : ℕ) (xs : List X) → Each P xs → Each P (drop n xs)
Each-drop P zero xs e = e
Each-drop P (suc n) [] e = tt
Each-drop P (suc n) (x ∷ xs) e = Each-drop P n xs e.1

-- what an element is mapped to stands in the mapped list
pub map_among : {X Y : Type 0} (f : X → Y) (xs : List X) (x : X) → Among x xs → Among (f x) (map f xs)
map_among f [] x a = absurd a
map_among f (y ∷ xs) x (inl e) = inl (ap f e)
map_among f (y ∷ xs) x (inr a) = inr (map_among f xs x a)
