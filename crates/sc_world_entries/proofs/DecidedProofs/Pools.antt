-- What is left of a pool when one is taken out of it.
use Rattle.std.proofs.Common.{ℕ, zero, suc, ◌<◌, ◌-◌, List, [], ◌∷◌, length, get_or, set, take, arith}
use Rattle.std.specs.List.{swap_remove}
use Rattle.sc_base.specs.Among.{Each}

-- what holds of each holds at a place
pub each_at : {X : Type 0} (P : X → Type 0) (xs : List X) (i : ℕ) (d : X) → i < length xs → Each P xs → P (get_or xs i d)
each_at P [] i d lt all = absurd (omega (arith, lt))
each_at P (x ∷ xs) zero d lt all = all.0
each_at P (x ∷ xs) (suc i) d lt all = each_at P xs i d (omega (arith, lt)) all.1

each_set : {X : Type 0} (P : X → Type 0) (xs : List X) (i : ℕ) (x : X) → P x → Each P xs → Each P (set xs i x)
each_set P [] i x here all = tt
each_set P (y ∷ xs) zero x here all = (here, all.1)
each_set P (y ∷ xs) (suc i) x here all = (all.0, each_set P xs i x here all.1)

each_take : {X : Type 0} (P : X → Type 0) (xs : List X) (n : ℕ) → Each P xs → Each P (take n xs)
each_take P xs zero all = tt
each_take P [] (suc n) all = tt
each_take P (x ∷ xs) (suc n) all = (all.0, each_take P xs n all.1)

-- and of each that is left
pub each_left : {X : Type 0} (P : X → Type 0) (xs : List X) (i : ℕ) (d : X) → i < length xs → Each P xs → Each P (swap_remove xs i d)
each_left P xs i d lt all =
    let last = get_or xs (length xs - 1) d in
    each_take P (set xs i last) (length xs - 1) (each_set P xs i last (each_at P xs (length xs - 1) d (omega (arith, lt)) all) all)
