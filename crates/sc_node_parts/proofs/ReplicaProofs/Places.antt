-- A write or a removal at a place, against a recursion on the list that stops there.
use Rattle.std.proofs.Common.{◌≡◌, ℕ, ◌<◌, List, ◌∷◌, ◌++◌, length, get_or, take, drop, ap, ◌∙◌, suc}
use Rattle.std.specs.List.{remove}
use Rattle.std.proofs.Math.Seq.{drop-cons}

-- a removal there
pub remove_here : {X : Type 0} (f : List X → List X) (xs : List X) (i : ℕ) (d : X) → i < length xs
    → ((ys : List X) → f (get_or xs i d ∷ ys) ≡ ys) → take i xs ++ f (drop i xs) ≡ remove xs i
remove_here f xs i d h e =
    ap (λ ys. take i xs ++ f ys) (drop-cons xs i d h) ∙ ap (λ ys. take i xs ++ ys) (e (drop (suc i) xs))
