-- Facts of lists and options that several proofs use.
use Rattle.std.proofs.Common.{◌≡◌, List, [], ◌∷◌, drop, Some, refl}
pub use Rattle.sc_law_walks.proofs.WalkLemmas.{map_among}

-- what is given twice is the same
pub some_is : {A : Type 0} {x y : A} → Some x ≡ Some y → x ≡ y
some_is e = cc

-- where none is dropped, all are left
pub at_zero : {X : Type 0} (xs : List X) → drop 0 xs ≡ xs
at_zero [] = refl
at_zero (x ∷ xs) = refl
