-- The mail at a place, row by row.
use Rattle.std.proofs.Common.{◌≡◌, ℕ, zero, suc, ◌+◌, ◌-◌, ◌<◌, ◌≤◌, List, [], ◌∷◌, ◌++◌, length, drop, take, get_or, refl, sym, ap, ◌∙◌, arith, add-one}
use Rattle.std.specs.Prelude.{slice_get}
use Rattle.sc_actor.specs.declared.rows.Row.{Row}
use Rattle.sc_actor.specs.Definitions.{mails}

module _ {A : Type 0} where
  -- a place in the first of two lists
  pub get_first : (xs ys : List A) (i : ℕ) → i < length xs → slice_get (xs ++ ys) i ≡ slice_get xs i
  get_first [] ys i lt = absurd (omega arith)
  get_first (x ∷ xs) ys zero lt = refl
  get_first (x ∷ xs) ys (suc i) lt = get_first xs ys i (omega arith)

  -- a place in the second
  pub get_second : (xs ys : List A) (i : ℕ) → length xs ≤ i → slice_get (xs ++ ys) i ≡ slice_get ys (i - length xs)
  get_second [] ys i le = let z : i - 0 ≡ i = omega arith in ap (slice_get ys) (sym z)
  get_second (x ∷ xs) ys zero le = absurd (omega arith)
  get_second (x ∷ xs) ys (suc i) le = let z : suc i - suc (length xs) ≡ i - length xs = omega arith in get_second xs ys i (omega arith) ∙ ap (slice_get ys) (sym z)

  drop_at : (xs : List A) (i : ℕ) (x : A) → i < length xs → x ≡ get_or xs i x → drop i xs ≡ x ∷ drop (suc i) xs
  drop_at [] i x lt is = absurd (omega arith)
  drop_at (y ∷ xs) zero x lt is = ap (λ z. z ∷ xs) (sym is)
  drop_at (y ∷ xs) (suc i) x lt is = drop_at xs i x (omega arith) is

module _ {M O : Type 0} (rows : List (Row M O)) (i : ℕ) (row : Row M O) (lt : i < length rows) (is : row ≡ get_or rows i row) where
  split : mails (drop i rows) ≡ row.sent ++ mails (drop (suc i) rows)
  split = ap mails (drop_at rows i row lt is)

  -- a mail that the first row did not send stands in the rows behind it
  pub mail_later : (left : ℕ) → length row.sent ≤ left → slice_get (mails (drop i rows)) left ≡ slice_get (mails (drop (i + 1) rows)) (left - length row.sent)
  mail_later left past = rw add-one (ap (λ l. slice_get l left) split ∙ get_second row.sent (mails (drop (suc i) rows)) left past)

-- one row more of the first ones
module _ {M O : Type 0} where
  take_more : (rows : List (Row M O)) (i : ℕ) (row : Row M O) → i < length rows → row ≡ get_or rows i row → take (suc i) rows ≡ take i rows ++ row ∷ []
  take_more [] i row lt is = absurd (omega arith)
  take_more (r ∷ rows) zero row lt is = ap (λ x. x ∷ []) (sym is)
  take_more (r ∷ rows) (suc i) row lt is = ap (λ l. r ∷ l) (take_more rows i row (omega arith) is)

  -- one row more of the first rows
  pub take_row : (rows : List (Row M O)) (i : ℕ) (row : Row M O) → i < length rows → row ≡ get_or rows i row → take (i + 1) rows ≡ take i rows ++ row ∷ []
  take_row rows i row lt is = rw add-one (take_more rows i row lt is)

  -- the first rows are all, where there are no more
  pub take_whole : (rows : List (Row M O)) (i : ℕ) → length rows ≤ i → take i rows ≡ rows
  take_whole [] zero le = refl
  take_whole [] (suc i) le = refl
  take_whole (r ∷ rows) zero le = absurd (omega arith)
  take_whole (r ∷ rows) (suc i) le = ap (λ l. r ∷ l) (take_whole rows i (omega arith))

  -- there are no more first rows than rows
  pub few_taken : (rows : List (Row M O)) (i : ℕ) → length (take i rows) ≤ length rows
  few_taken [] zero = omega arith
  few_taken [] (suc i) = omega arith
  few_taken (r ∷ rows) zero = omega arith
  few_taken (r ∷ rows) (suc i) = omega (arith, few_taken rows i)
