-- Facts of each two elements of a list, the earlier first.
use Rattle.std.proofs.Common.{suc, List, ◌∷◌, arith}
use Rattle.std.specs.List.{All, AllPairs}

-- what holds of each two holds of the first with each other
pub AllPairs-head : {X : Type 0} (R : X → X → Type 0) (x : X) (xs : List X) → AllPairs R (x ∷ xs) → All (R x) xs
AllPairs-head R x xs all k d lt = all 0 (suc k) d (omega arith) (omega (arith, lt))

-- and of each two of the others
pub AllPairs-tail : {X : Type 0} (R : X → X → Type 0) (x : X) (xs : List X) → AllPairs R (x ∷ xs) → AllPairs R xs
AllPairs-tail R x xs all i j d lt within = all (suc i) (suc j) d (omega (arith, lt)) (omega (arith, within))
