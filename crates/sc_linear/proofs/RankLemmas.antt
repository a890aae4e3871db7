-- How many numbers are below one, step by step.
use Rattle.std.proofs.Common.{◌≡◌, ℕ, ◌+◌, ◌<◌, ◌≤◌, cond, leb, List, [], ◌∷◌, length, get_or, drop, arith}
use Rattle.std.proofs.lemmas.List.{at_drop_more, at_drop_all}
use Rattle.std.proofs.lemmas.Bool.Decides.{nat_tests}
use Rattle.sc_linear.specs.Search.{rank_of}

pub rank_of-drop : (x : ℕ) (xs : List ℕ) (i d : ℕ) → i < length xs → rank_of x (drop i xs) ≡ cond (leb x (get_or xs i d)) 0 (rank_of x (drop (i + 1) xs) + 1)
rank_of-drop x xs i d below = at_drop_more (rank_of x) xs i d below

pub rank_of-all : (x : ℕ) (xs : List ℕ) (i : ℕ) → length xs ≤ i → rank_of x (drop i xs) ≡ 0
rank_of-all x xs i past = at_drop_all (rank_of x) xs i past

pub rank_of-within : (x : ℕ) (xs : List ℕ) → rank_of x xs ≤ length xs
rank_of-within x [] = omega arith
rank_of-within x (y ∷ ys) = let rest : rank_of x ys ≤ length ys = rank_of-within x ys in grind (arith, nat_tests)

pub ruleset steps = (rank_of-drop, rank_of-all, rank_of-within, nat_tests)
