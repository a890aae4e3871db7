-- How many rows there are, where each is of one of some numbers.
use Rattle.std.proofs.Common.{◌≡◌, ℕ, zero, suc, ◌+◌, ◌<◌, Bool, true, false, true≢false, eqb, eq-eqb, cond, ◌||◌, not, List, [], ◌∷◌, ◌++◌, length, map, sum_by, get_or, refl, sym, ap, ◌∙◌, arith, Contains}
use Rattle.std.proofs.lemmas.List.{append-nil}
use Rattle.std.proofs.lemmas.List.Sums.{sum_by-cons}
use Rattle.std.proofs.lemmas.Bool.{eqb-true, and_parts, or_parts, not-true}
use Rattle.sc_thread_ports.specs.turn.Turn.{StartsWith}
use Rattle.sc_actor.specs.declared.rows.Row.{Row}
use Rattle.sc_thread_ports.specs.exchange.BareRows.{rows_of}
use Rattle.sc_thread_drive.specs.Numbers.{is_in, apart}

-- a test of two numbers the other way round
pub flip : (a b : ℕ) → eqb a b ≡ eqb b a
flip a b = by (eqb a b) (eqb b a) refl refl
  where
    by : (p q : Bool) → eqb a b ≡ p → eqb b a ≡ q → eqb a b ≡ eqb b a
    by true q e f = e ∙ sym (eq-eqb b a (sym (eqb-true a b e)))
    by false true e f = absurd (true≢false (sym (eq-eqb a b (sym (eqb-true b a f))) ∙ e))
    by false false e f = e ∙ sym f

-- 1 where two numbers are the same
abbrev same : ℕ → ℕ → ℕ
same n w = cond (eqb n w) 1 0

same_none : (n : ℕ) (ws : List ℕ) → is_in n ws ≡ false → sum_by (same n) ws ≡ 0
same_none n [] e = refl
same_none n (w ∷ ws) e =
    let parts = or_parts (eqb n w) (is_in n ws) e in
    omega (arith, sum_by-cons (same n) w ws, same_none n ws parts.1, ap (λ b. cond {A = ℕ} b 1 0) parts.0)

same_one : (n : ℕ) (ws : List ℕ) → apart ws ≡ true → is_in n ws ≡ true → sum_by (same n) ws ≡ 1
same_one n [] far there = absurd (true≢false (sym there))
same_one n (w ∷ ws) far there = by (eqb n w) refl (same_one n ws parts.1)
  where
    parts : (not (is_in w ws) ≡ true) × (apart ws ≡ true)
    parts = and_parts (not (is_in w ws)) (apart ws) far

    by : (b : Bool) → eqb n w ≡ b → (is_in n ws ≡ true → sum_by (same n) ws ≡ 1) → sum_by (same n) (w ∷ ws) ≡ 1
    by true is rest =
        let number : n ≡ w = eqb-true n w is in
        let none : sum_by (same n) ws ≡ 0 = same_none n ws (ap (λ v. is_in v ws) number ∙ not-true (is_in w ws) parts.0) in
        omega (arith, sum_by-cons (same n) w ws, none, ap (λ b. cond {A = ℕ} b 1 0) is)
    by false is rest = omega (arith, sum_by-cons (same n) w ws, rest (ap (λ b. b || is_in n ws) (sym is) ∙ there), ap (λ b. cond {A = ℕ} b 1 0) is)

module _ {A : Type 0} where
  -- a sum of nothing
  pub sum_nothing : (ws : List A) → sum_by (λ (w : A). 0) ws ≡ 0
  sum_nothing [] = refl
  sum_nothing (w ∷ ws) = omega (arith, sum_by-cons (λ (v : A). 0) w ws, sum_nothing ws)

  pub sum_plus : (f g h : A → ℕ) (ws : List A) → ((w : A) → f w ≡ g w + h w) → sum_by f ws ≡ sum_by g ws + sum_by h ws
  sum_plus f g h [] each = refl
  sum_plus f g h (w ∷ ws) each = omega (arith, sum_by-cons f w ws, sum_by-cons g w ws, sum_by-cons h w ws, each w, sum_plus f g h ws each)

  -- a sum over what each element is taken to
  pub sum_map : {B : Type 0} (f : B → ℕ) (to : A → B) (ws : List A) → sum_by f (map to ws) ≡ sum_by (λ w. f (to w)) ws
  sum_map f to [] = refl
  sum_map f to (w ∷ ws) = omega (arith, sum_by-cons f (to w) (map to ws), sum_by-cons (λ v. f (to v)) w ws, sum_map f to ws)

  -- sums of equal numbers
  pub sum_each : (f h : A → ℕ) (ws : List A) → ((k : ℕ) (d : A) → k < length ws → f (get_or ws k d) ≡ h (get_or ws k d)) → sum_by f ws ≡ sum_by h ws
  sum_each f h [] each = refl
  sum_each f h (w ∷ ws) each =
      let first : f w ≡ h w = each 0 w (omega arith) in
      omega (arith, sum_by-cons f w ws, sum_by-cons h w ws, first, sum_each f h ws (λ k d lt. each (suc k) d (omega (arith, lt))))

module _ {M O : Type 0} where
  length_cons : (x : Row M O) (xs : List (Row M O)) (w : ℕ) → length (rows_of w (x ∷ xs)) ≡ same x.who w + length (rows_of w xs)
  length_cons x xs w = elim (eqb x.who w) as (λ b. length (cond b (x ∷ rows_of w xs) (rows_of w xs)) ≡ cond {A = ℕ} b 1 0 + length (rows_of w xs)) [ true ↦ omega arith | false ↦ omega arith ]

  rest_none : (n : ℕ) (x : Row M O) (xs : List (Row M O)) → rows_of n (x ∷ xs) ≡ [] → rows_of n xs ≡ []
  rest_none n x xs none = by (rows_of n xs) refl
    where
      by : (ys : List (Row M O)) → rows_of n xs ≡ ys → rows_of n xs ≡ []
      by [] e = e
      by (y ∷ ys) e = absurd (omega (arith, length_cons x xs n, ap length none, ap length e))

  -- each row is of one of the numbers
  abbrev AllIn : List ℕ → List (Row M O) → Type 0
  AllIn ws [] = Unit {0}
  AllIn ws (x ∷ xs) = (is_in x.who ws ≡ true) × AllIn ws xs

  -- each row is of a number in the list, where others have none
  pub all_in : (ws : List ℕ) (xs : List (Row M O)) → ((n : ℕ) → is_in n ws ≡ false → rows_of n xs ≡ []) → AllIn ws xs
  all_in ws [] closed = tt
  all_in ws (x ∷ xs) closed = (by (is_in x.who ws) refl, all_in ws xs (λ n out. rest_none n x xs (closed n out)))
    where
      by : (b : Bool) → is_in x.who ws ≡ b → is_in x.who ws ≡ true
      by true e = e
      by false e = absurd (omega (arith, length_cons x xs x.who, ap length (closed x.who e), ap (λ b. cond {A = ℕ} b 1 0) (eq-eqb x.who x.who refl)))

  -- the rows are as many as those of each number in all
  pub count_rows : (ws : List ℕ) (xs : List (Row M O)) → apart ws ≡ true → AllIn ws xs → length xs ≡ sum_by (λ w. length (rows_of w xs)) ws
  count_rows ws [] far all = sym (sum_nothing ws)
  count_rows ws (x ∷ xs) far all =
      let more = sum_plus (λ w. length (rows_of w (x ∷ xs))) (same x.who) (λ w. length (rows_of w xs)) ws (length_cons x xs) in
      omega (arith, more, same_one x.who ws far all.0, count_rows ws xs far all.1)

-- what is not in a list
pub not_in : (n : ℕ) (ws : List ℕ) → is_in n ws ≡ false → ¬ Contains ws n
not_in n [] out = λ c. absurd (omega (arith, c.1))
not_in n (w ∷ ws) out = λ c. at c.0 c.1 c.2 (not_in n ws parts.1)
  where
    parts : (eqb n w ≡ false) × (is_in n ws ≡ false)
    parts = or_parts (eqb n w) (is_in n ws) out

    at : (i : ℕ) → i < length (w ∷ ws) → get_or (w ∷ ws) i n ≡ n → (¬ Contains ws n) → ⊥
    at zero lt is rest = true≢false (sym (eq-eqb n w (sym is)) ∙ parts.0)
    at (suc i) lt is rest = rest (i, omega (arith, lt), is)

-- prefixes of one list
module _ {X : Type 0} where
  pub same_prefix : (xs ys zs : List X) → StartsWith zs xs → StartsWith zs ys → length xs ≡ length ys → xs ≡ ys
  same_prefix [] [] zs a b l = refl
  same_prefix [] (y ∷ ys) zs a b l = absurd (omega (arith, l))
  same_prefix (x ∷ xs) [] zs a b l = absurd (omega (arith, l))
  same_prefix (x ∷ xs) (y ∷ ys) [] a b l = (let bad : [] ≡ x ∷ (xs ++ a.0) = a.1 in cc)
  same_prefix (x ∷ xs) (y ∷ ys) (z ∷ zs) a b l =
      let e = a.1 in let f = b.1 in
      let first : z ≡ x = cc in
      let second : z ≡ y = cc in
      let left : zs ≡ xs ++ a.0 = cc in
      let right : zs ≡ ys ++ b.0 = cc in
      λ i. (sym first ∙ second) i ∷ same_prefix xs ys zs (a.0, left) (b.0, right) (omega (arith, l)) i

  -- a prefix as long as the list is the list
  pub whole_prefix : (xs zs : List X) → StartsWith zs xs → length zs ≡ length xs → zs ≡ xs
  whole_prefix xs zs a l = same_prefix zs xs zs ([], sym (append-nil zs)) a l
