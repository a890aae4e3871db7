-- Positions keep the order of keys.
use Rattle.std.proofs.Common.{◌≡◌, ℕ, zero, suc, ◌+◌, ◌*◌, ◌^◌, ◌<◌, ◌≤◌, eqb, ltb, List, [], ◌∷◌, Bool, true, false, cond, Ordering, refl, sym, ap, ◌∙◌, arith}
use Rattle.std.specs.declared.cmp.Ordering.TheVariants.{Less, Equal, Greater}
use Rattle.std.specs.List.{list_all, AllByRecursion}
use Rattle.std.specs.Prelude.{nat_le}
use Rattle.std.specs.Ordering.{nat_cmp, ordering_then}
use Rattle.std.specs.Cmp.Lexicographic.{slice_cmp}
use Rattle.std.proofs.lemmas.Bool.{and_parts, ltb-true, eqb-true, leb-true}
use Rattle.std.proofs.Math.Nat.{mul-le-mul_right, suc-mul}
use Rattle.sc_base.specs.Definitions.{is_visible, pos_of}

-- the weight of a digit before n others
abbrev weight : ℕ → ℕ
weight zero = 1
weight (suc n) = 256 * weight n

-- the first n digits of a text as a number, filled up with zeros
abbrev prefix : ℕ → List ℕ → ℕ
prefix zero xs = 0
prefix (suc n) [] = 0
prefix (suc n) (x ∷ xs) = x * weight n + prefix n xs

-- each is a byte
abbrev pub Bytes : List ℕ → Type 0
Bytes xs = AllByRecursion (λ b. b < 256) xs

-- so it is in a text
pub are_bytes : (xs : List ℕ) → list_all is_visible xs ≡ true → Bytes xs
are_bytes [] e = tt
are_bytes (x ∷ xs) e =
    let parts = and_parts (is_visible x) (list_all is_visible xs) e in
    let most = leb-true x 126 (and_parts (nat_le 33 x) (nat_le x 126) parts.0).1 in
    (omega (arith, most), are_bytes xs parts.1)

some_weight : (n : ℕ) → 0 < weight n
some_weight zero = omega arith
some_weight (suc n) = let more = some_weight n in omega (arith, more)

prefix_below : (n : ℕ) (xs : List ℕ) → Bytes xs → prefix n xs < weight n
prefix_below zero xs b = omega arith
prefix_below (suc n) [] b = some_weight (suc n)
prefix_below (suc n) (x ∷ xs) b =
    let small = prefix_below n xs b.1 in
    let first : x * weight n ≤ 255 * weight n = mul-le-mul_right {m = x} {n = 255} (weight n) (let lt : x < 256 = b.0 in omega arith) in
    omega (arith, small, first)

none_less : (r : Ordering) → r ≡ Less → r ≡ Greater → ⊥
none_less r a b = let bad : Less ≡ Greater = sym a ∙ b in cc

-- the number of the lesser text is no greater
prefix_le : (n : ℕ) (xs ys : List ℕ) → Bytes xs → Bytes ys → slice_cmp nat_cmp xs ys ≡ Less → prefix n xs ≤ prefix n ys
prefix_le zero xs ys bx by_ e = omega arith
prefix_le (suc n) [] ys bx by_ e = omega arith
prefix_le (suc n) (x ∷ xs) [] bx by_ e = absurd (none_less Greater e refl)
prefix_le (suc n) (x ∷ xs) (y ∷ ys) bx by_ e = by (ltb x y) (eqb x y) refl refl e (prefix_le n xs ys bx.1 by_.1)
  where
    by : (less same : Bool) → ltb x y ≡ less → eqb x y ≡ same → ordering_then (cond less Less (cond same Equal Greater)) (slice_cmp nat_cmp xs ys) ≡ Less →
        (slice_cmp nat_cmp xs ys ≡ Less → prefix n xs ≤ prefix n ys) → x * weight n + prefix n xs ≤ y * weight n + prefix n ys
    by true same lt eq e more =
        let below : x < y = ltb-true x y lt in
        let small = prefix_below n xs bx.1 in
        let step : suc x * weight n ≤ y * weight n = mul-le-mul_right {m = suc x} {n = y} (weight n) (omega (arith, below)) in
        let next : suc x * weight n ≡ x * weight n + weight n = suc-mul x (weight n) in
        omega (arith, small, step, next)
    by false true lt eq e more =
        let first : x * weight n ≡ y * weight n = ap (λ k. k * weight n) (eqb-true x y eq) in
        let rest = more e in
        omega (arith, first, rest)
    by false false lt eq e more = absurd (none_less Greater e refl)

-- a position is the number of the first four
pos_prefix : (key : List ℕ) → pos_of key ≡ prefix 4 key
pos_prefix [] = refl
pos_prefix (a ∷ []) = omega arith
pos_prefix (a ∷ b ∷ []) = omega arith
pos_prefix (a ∷ b ∷ c ∷ []) = omega arith
pos_prefix (a ∷ b ∷ c ∷ d ∷ more) = omega arith

-- the lesser key has no greater position
pub pos_le : (a b : List ℕ) → Bytes a → Bytes b → slice_cmp nat_cmp a b ≡ Less → pos_of a ≤ pos_of b
pos_le a b in_a in_b less = let le = prefix_le 4 a b in_a in_b less in omega (arith, le, pos_prefix a, pos_prefix b)

-- a position is one of the ring
pub pos_small : (a : List ℕ) → Bytes a → pos_of a < 2 ^ 32
pos_small a in_a = let lt = prefix_below 4 a in_a in omega (arith, lt, pos_prefix a)
