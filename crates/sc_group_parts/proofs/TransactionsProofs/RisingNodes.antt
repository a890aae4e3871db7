-- Nodes that rise, put into a set one after another.
use Rattle.std.proofs.Common.{◌≡◌, ℕ, suc, ◌+◌, ◌<◌, ◌∙◌, false, eqb, ltb, List, [], ◌∷◌, ◌++◌, length, take, filter, ◌-◌, drop, get_or, None, ap, sym, subst, refl, arith}
use Rattle.std.specs.List.{All}
use Rattle.std.specs.List.Sorted.{IsStrictlyIncreasing}
use Rattle.std.proofs.lemmas.Bool.{cond-true, cond-false, lt-ltb, le-ltb, ne_eqb}
use Rattle.std.proofs.lemmas.List.{length-take-le, get_or-take, get_or_default, take_all}
use Rattle.std.proofs.lemmas.List.Elements.{All-tail, All-head, All-weaker}
use Rattle.std.proofs.lemmas.List.Folds.{list_any_none}
use Rattle.std.proofs.lemmas.List.Kept.{AllPairs-from_increasing}
use Rattle.sc_base.specs.Definitions.{is_member, with_member, add_error}

-- what all stand below a node are below it, and none is above
all_low : (xs : List ℕ) (n : ℕ) → All (λ x. x < n) xs → filter (λ x. ltb x n) xs ≡ xs
all_low [] n below = refl
all_low (x ∷ xs) n below =
    cond-true (ltb x n) (x ∷ filter (λ y. ltb y n) xs) (filter (λ y. ltb y n) xs) (lt-ltb x n (All-head (λ y. y < n) x xs below))
    ∙ ap (λ ys. x ∷ ys) (all_low xs n (All-tail (λ y. y < n) x xs below))

none_high : (xs : List ℕ) (n : ℕ) → All (λ x. x < n) xs → filter (λ x. ltb n x) xs ≡ []
none_high [] n below = refl
none_high (x ∷ xs) n below =
    let here : x < n = All-head (λ y. y < n) x xs below in
    cond-false (ltb n x) (x ∷ filter (λ y. ltb n y) xs) (filter (λ y. ltb n y) xs) (le-ltb n x (omega arith))
    ∙ none_high xs n (All-tail (λ y. y < n) x xs below)

-- a node above all comes last
pub with_last : (xs : List ℕ) (n : ℕ) → All (λ x. x < n) xs → with_member xs n ≡ xs ++ n ∷ []
with_last xs n below =
    ap (λ low. low ++ n ∷ filter (λ x. ltb n x) xs) (all_low xs n below)
    ∙ ap (λ high. xs ++ n ∷ high) (none_high xs n below)

-- and is not refused, where there is room
pub no_error : (xs : List ℕ) (n : ℕ) → All (λ x. x < n) xs → length xs < 9 → add_error xs n ≡ None
no_error xs n below room =
    let absent : is_member xs n ≡ false = list_any_none (λ x. eqb x n) xs (All-weaker (λ x. x < n) (λ x. eqb x n ≡ false) (λ x lt. ne_eqb x n (λ e. omega arith)) xs below) in
    let few : eqb (length xs) 9 ≡ false = ne_eqb (length xs) 9 (λ e. omega arith) in
    rw (absent, few) refl

-- what stands before a place in a rising list is below what stands there
pub earlier : (xs : List ℕ) (k : ℕ) → IsStrictlyIncreasing xs → k < length xs → All (λ x. x < get_or xs k 0) (take k xs)
earlier xs k up within = λ i d inside.
    let long = length-take-le k xs (omega arith) in
    let same = get_or-take k xs i d (omega arith) in
    let default = get_or_default xs i d 0 (omega arith) in
    let lt : get_or xs i 0 < get_or xs k 0 = AllPairs-from_increasing xs up i k 0 (omega arith) within in
    rw (same, default) lt

-- what stands at a place of a list after its first
pub place_after : (xs : List ℕ) (k : ℕ) → k < length (take (length xs - 1) (drop 1 xs)) → (k + 1 < length xs) × (get_or (take (length xs - 1) (drop 1 xs)) k 0 ≡ get_or xs (k + 1) 0)
place_after [] k within = absurd (omega arith)
place_after (x ∷ xs) k within =
    let whole : take (length (x ∷ xs) - 1) xs ≡ xs = take_all (length (x ∷ xs) - 1) xs (omega arith) in
    let inside : k < length xs = subst (λ ys. k < length ys) whole within in
    let next : k + 1 ≡ suc k = omega arith in
    (omega arith, ap (λ ys. get_or ys k 0) whole ∙ ap (λ n. get_or (x ∷ xs) n 0) (sym next))
