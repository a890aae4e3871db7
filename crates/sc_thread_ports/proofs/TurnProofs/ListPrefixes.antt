-- Lists that begin with others, and the rows of one number.
use Rattle.std.proofs.Common.{◌≡◌, ◌≢◌, ℕ, zero, suc, ◌≤◌, eqb, nat_lt, true, false, if◌then◌else◌, List, [], ◌∷◌, ◌++◌, length, set, sym, refl, ap, ◌∙◌, subst, ◌⊎◌, ⊎_elim, inl, inr, arith, append_assoc, eq-eqb, ne_eqb}
use Rattle.std.proofs.lemmas.List.{append-nil}
use mathlib.Core.Option.{some, some-injective, some-ne-none}
use lib.ListN.{get_elem?}
use Rattle.atomic_table.proofs.Lists.{at_set}
use Rattle.sc_thread_ports.specs.turn.TurnDefinitions.{StartsWith, longer, shorter, rows_by, Status, put_status}

module _ {A : Type 0} where
  -- a list begins with itself
  pub starts_refl : (xs : List A) → StartsWith xs xs
  starts_refl xs = ([], sym (append-nil xs))

  -- each list begins with the empty one
  pub starts_nil : (xs : List A) → StartsWith xs []
  starts_nil xs = (xs, refl)

  -- what stands behind a list changes nothing of its beginning
  pub starts_more : (xs ys zs : List A) → StartsWith xs ys → StartsWith (xs ++ zs) ys
  starts_more xs ys zs p = (p.0 ++ zs, ap (λ l. l ++ zs) p.1 ∙ append_assoc ys p.0 zs)

  -- a list begins with what its beginning begins with
  pub starts_trans : (xs ys zs : List A) → StartsWith xs ys → StartsWith ys zs → StartsWith xs zs
  starts_trans xs ys zs p q = (q.0 ++ p.0, p.1 ∙ (ap (λ l. l ++ p.0) q.1 ∙ append_assoc zs q.0 p.0))

  -- of two beginnings of one list the shorter begins the longer
  pub starts_both : (xs bs rs ts : List A) → xs ++ rs ≡ bs ++ ts → length bs ≤ length xs → StartsWith xs bs
  starts_both xs [] rs ts e l = (xs, refl)
  starts_both [] (b ∷ bs) rs ts e l = absurd (omega arith)
  starts_both (a ∷ xs) (b ∷ bs) rs ts e l =
      let head : a ≡ b = cc in
      let tail : xs ++ rs ≡ bs ++ ts = cc in
      let p = starts_both xs bs rs ts tail (omega arith) in (p.0, (λ k. head k ∷ p.1 k))

  -- of two prefixes of one list, the shorter is a prefix of the longer
  pub starts_of_one : (log xs ys : List A) → StartsWith log xs → StartsWith log ys → length ys ≤ length xs → StartsWith xs ys
  starts_of_one log xs ys p q l = starts_both xs ys p.0 q.0 (sym p.1 ∙ q.1) l

  -- what holds of each element, after a change of one
  pub each_set : (P : ℕ → A → Type 0) (vs : List A) (me : ℕ) (w : A) → P me w → ((j : ℕ) (d : A) → j ≢ me → get_elem? vs j ≡ some d → P j d)
      → (j : ℕ) (d : A) → get_elem? (set vs me w) j ≡ some d → P j d
  each_set P vs me w mine others j d e = ⊎_elim (λ (t : (j ≡ me) × (w ≡ d)). subst (λ (x : ℕ × A). P x.0 x.1) (λ i. (sym t.0 i, t.1 i)) mine)
      (λ (t : (j ≢ me) × (get_elem? vs j ≡ some d)). others j d t.0 t.1) (at_set vs me j w d e)

  -- what stands at a place that was set
  pub set_at : (l : List A) (i : ℕ) (a b : A) → get_elem? l i ≡ some a → get_elem? (set l i b) i ≡ some b
  set_at [] i a b e = absurd (some-ne-none a (sym e))
  set_at (x ∷ xs) zero a b e = refl
  set_at (x ∷ xs) (suc i) a b e = set_at xs i a b e

  -- an element of a list one longer
  pub at_end : (l : List A) (a b : A) (j : ℕ) → get_elem? (l ++ a ∷ []) j ≡ some b → (get_elem? l j ≡ some b) ⊎ ((j ≡ length l) × (a ≡ b))
  at_end [] a b zero e = inr (refl, some-injective a b e)
  at_end [] a b (suc j) e = absurd (some-ne-none b (sym e))
  at_end (x ∷ xs) a b zero e = inl e
  at_end (x ∷ xs) a b (suc j) e = ⊎_elim (λ t. inl t) (λ t. inr (ap suc t.0, t.1)) (at_end xs a b j e)

  -- a list of one element, whose place was set
  pub set_only : (l : List A) (a : A) → length l ≡ 1 → set l 0 a ≡ a ∷ []
  set_only [] a e = absurd (omega arith)
  set_only (x ∷ []) a e = refl
  set_only (x ∷ y ∷ ys) a e = absurd (omega arith)

  -- the longer and the shorter of two beginnings begin the list too
  pub longer_begins : (log xs ys : List A) → StartsWith log xs → StartsWith log ys → StartsWith log (longer xs ys) × StartsWith log (shorter xs ys)
  longer_begins log xs ys p q = elim (nat_lt (length xs) (length ys)) as (λ b. StartsWith log (if b then ys else xs) × StartsWith log (if b then xs else ys)) [ true ↦ (q, p) | false ↦ (p, q) ]

module _ {E : Type 0} where
  -- the rows of a number, of a list in two parts
  pub rows_by-append : (n : ℕ) (xs ys : List (E × ℕ)) → rows_by n (xs ++ ys) ≡ rows_by n xs ++ rows_by n ys
  rows_by-append n [] ys = refl
  rows_by-append n (x ∷ xs) ys = let e = rows_by-append n xs ys in
      elim (eqb x.1 n) as (λ b. (if b then x.0 ∷ rows_by n (xs ++ ys) else rows_by n (xs ++ ys)) ≡ (if b then x.0 ∷ rows_by n xs else rows_by n xs) ++ rows_by n ys)
      [ true ↦ ap (λ l. x.0 ∷ l) e | false ↦ e ]

  -- a row of another number more
  pub rows_by_other : (n who : ℕ) (row : E) (xs : List (E × ℕ)) → who ≢ n → rows_by n (xs ++ (row, who) ∷ []) ≡ rows_by n xs
  rows_by_other n who row xs ne = rows_by-append n xs ((row, who) ∷ []) ∙ (ap (λ b. rows_by n xs ++ (if b then row ∷ [] else [])) (ne_eqb who n ne) ∙ append-nil (rows_by n xs))

  -- a row of this number more
  pub rows_by_same : (n : ℕ) (row : E) (xs : List (E × ℕ)) → rows_by n (xs ++ (row, n) ∷ []) ≡ rows_by n xs ++ row ∷ []
  rows_by_same n row xs = rows_by-append n xs ((row, n) ∷ []) ∙ ap (λ b. rows_by n xs ++ (if b then row ∷ [] else [])) (eq-eqb n n refl)

  none_before : (xs ys : List E) → xs ++ ys ≡ [] → xs ≡ []
  none_before [] ys e = refl
  none_before (x ∷ xs) ys e = cc

  -- a beginning has no row of a number of which the list has none
  pub rows_by_none : (n : ℕ) (log seen : List (E × ℕ)) → StartsWith log seen → rows_by n log ≡ [] → rows_by n seen ≡ []
  rows_by_none n log seen p e = none_before (rows_by n seen) (rows_by n p.0) (sym (rows_by-append n seen p.0) ∙ (ap (rows_by n) (sym p.1) ∙ e))

  -- what a number is at that was put so
  pub put_same : (f : ℕ → Status E) (k : ℕ) (x : Status E) → put_status f k x k ≡ x
  put_same f k x = ap (λ b. if b then x else f k) (eq-eqb k k refl)

  -- what the other numbers are at
  pub put_other : (f : ℕ → Status E) (k : ℕ) (x : Status E) (n : ℕ) → n ≢ k → put_status f k x n ≡ f n
  put_other f k x n ne = ap (λ b. if b then x else f n) (ne_eqb n k ne)
