-- Lists of which one element after another is changed.
use Rattle.std.proofs.Common.{◌≡◌, ◌≢◌, ℕ, zero, suc, ◌+◌, ◌<◌, ◌≤◌, List, [], ◌∷◌, ◌++◌, length, get_or, set, sum_by, take, drop, sym, refl, ap, ◌∙◌, subst, arith, get_or-set_other, get_or-set_same}
use mathlib.Core.Logic.{dite}
use native.Mathlib.Decide.{ℕ_discrete}
use Rattle.std.proofs.lemmas.List.{append-nil}
use Rattle.std.proofs.lemmas.List.Sums.{sum_by-cons}
use Rattle.std.proofs.Math.ListN.{drop_of_length-le}

module _ {A : Type 0} where
  -- within a list the default does not matter
  pub get_any : (xs : List A) (i : ℕ) (d e : A) → i < length xs → get_or xs i d ≡ get_or xs i e
  get_any [] i d e h = absurd (omega arith)
  get_any (x ∷ xs) zero d e h = refl
  get_any (x ∷ xs) (suc i) d e h = get_any xs i d e (omega arith)

  -- an element of a list that has this place
  pub one_of : (xs : List A) (k : ℕ) → k < length xs → A
  one_of [] k lt = absurd (omega arith)
  one_of (x ∷ xs) k lt = x

  -- the elements below a place are related to what they were
  abbrev pub AllBelow : (A → A → Type 0) → List A → List A → ℕ → Type 0
  AllBelow R before now i = (k : ℕ) (d : A) → k < i → R (get_or before k d) (get_or now k d)

  -- those from a place on are as they were
  abbrev pub IsLeft : List A → List A → ℕ → Type 0
  IsLeft before now i = (k : ℕ) (d : A) → i ≤ k → get_or now k d ≡ get_or before k d

  -- what holds of each changed element, once one more is changed
  pub changed_more : (R : A → A → Type 0) (before now : List A) (i : ℕ) (item new : A) → length now ≡ length before → i < length before → item ≡ get_or now i item
      → ((k : ℕ) (d : A) → k < i → R (get_or before k d) (get_or now k d)) → ((k : ℕ) (d : A) → i ≤ k → get_or now k d ≡ get_or before k d) → R item new
      → (k : ℕ) (d : A) → k < i + 1 → R (get_or before k d) (get_or (set now i new) k d)
  changed_more R before now i item new same inside is done left step k d lt = dite (ℕ_discrete k i)
      (λ e. let there : item ≡ get_or before k d = is ∙ (get_any now i item d (omega arith) ∙ (left i d (omega arith) ∙ ap (λ n. get_or before n d) (sym e))) in
      let here : new ≡ get_or (set now i new) k d = sym (ap (λ n. get_or (set now i new) n d) e ∙ get_or-set_same now i new d (omega arith)) in
      subst (λ (p : A × A). R p.0 p.1) (λ j. (there j, here j)) step)
      (λ ne. subst (λ (y : A). R (get_or before k d) y) (sym (get_or-set_other now i k new d ne)) (done k d (omega arith)))

  -- those behind a changed element are as they were
  pub left_more : (before now : List A) (i : ℕ) (new : A) → ((k : ℕ) (d : A) → i ≤ k → get_or now k d ≡ get_or before k d) → (k : ℕ) (d : A) → i + 1 ≤ k → get_or (set now i new) k d ≡ get_or before k d
  left_more before now i new left k d lt = let ne : k ≢ i = omega arith in get_or-set_other now i k new d ne ∙ left k d (omega arith)

  -- the element at hand is the one that was there before
  pub item_was : (before now : List A) (i : ℕ) (item : A) → length now ≡ length before → i < length before → item ≡ get_or now i item → ((k : ℕ) (d : A) → i ≤ k → get_or now k d ≡ get_or before k d) → item ≡ get_or before i item
  item_was before now i item same inside is left = is ∙ left i item (omega arith)

-- a slice of a whole vector, written back
pub whole_slice : {A : Type 0} (new old : List A) (n : ℕ) → length new ≡ length old → n ≡ length old → take n (new ++ drop (length new) old) ≡ new
whole_slice new old n same is =
    ap (λ l. take n (new ++ l)) (drop_of_length-le old (omega (arith, same))) ∙ (ap (take n) (append-nil new) ∙ take_whole new n (omega (arith, is, same)))
  where
    take_whole : {A : Type 0} (xs : List A) (i : ℕ) → length xs ≤ i → take i xs ≡ xs
    take_whole [] zero le = refl
    take_whole [] (suc i) le = refl
    take_whole (x ∷ xs) zero le = absurd (omega arith)
    take_whole (x ∷ xs) (suc i) le = ap (λ l. x ∷ l) (take_whole xs i (omega arith))

-- sums over lists
module _ {A : Type 0} where
  -- a sum of nothing
  pub sum_zero : (xs : List A) → sum_by (λ (x : A). 0) xs ≡ 0
  sum_zero [] = refl
  sum_zero (x ∷ xs) = omega (arith, sum_by-cons (λ (y : A). 0) x xs, sum_zero xs)

  -- each number has grown by another
  pub sum_with : (f g : A → ℕ) (xs ys : List A) → length ys ≡ length xs → ((k : ℕ) (d : A) → k < length xs → f (get_or ys k d) ≡ f (get_or xs k d) + g (get_or ys k d)) → sum_by f ys ≡ sum_by f xs + sum_by g ys
  sum_with f g [] [] l each = omega arith
  sum_with f g [] (y ∷ ys) l each = absurd (omega arith)
  sum_with f g (x ∷ xs) [] l each = absurd (omega arith)
  sum_with f g (x ∷ xs) (y ∷ ys) l each =
      let rest = sum_with f g xs ys (omega (arith, l)) (λ k d lt. each (suc k) d (omega (arith, lt))) in
      let first : f y ≡ f x + g y = each 0 x (omega arith) in
      omega (arith, sum_by-cons f x xs, sum_by-cons f y ys, sum_by-cons g y ys, rest, first)

  -- one element is another
  pub sum_set : (f : A → ℕ) (xs : List A) (i : ℕ) (old new : A) → i < length xs → old ≡ get_or xs i old → sum_by f (set xs i new) + f old ≡ sum_by f xs + f new
  sum_set f [] i old new lt is = absurd (omega arith)
  sum_set f (x ∷ xs) zero old new lt is = omega (arith, sum_by-cons f new xs, sum_by-cons f x xs, ap f is)
  sum_set f (x ∷ xs) (suc i) old new lt is = omega (arith, sum_by-cons f x (set xs i new), sum_by-cons f x xs, sum_set f xs i old new (omega arith) is)

  -- no number fell and their sum is the same, so each is
  pub sum_same : (f : A → ℕ) (xs ys : List A) → length ys ≡ length xs → ((k : ℕ) (d : A) → k < length xs → f (get_or xs k d) ≤ f (get_or ys k d)) → sum_by f ys ≡ sum_by f xs → (k : ℕ) (d : A) → k < length xs → f (get_or ys k d) ≡ f (get_or xs k d)
  sum_same f [] ys l each same k d lt = absurd (omega arith)
  sum_same f (x ∷ xs) [] l each same k d lt = absurd (omega arith)
  sum_same f (x ∷ xs) (y ∷ ys) l each same k d lt =
      let rest : (j : ℕ) (e : A) → j < length xs → f (get_or xs j e) ≤ f (get_or ys j e) = λ j e less. each (suc j) e (omega (arith, less)) in
      let tail : sum_by f xs ≤ sum_by f ys = sum_grows xs ys (omega (arith, l)) rest in
      let head : f x ≤ f y = each 0 x (omega arith) in
      by k lt (λ j less. sum_same f xs ys (omega (arith, l)) rest (omega (arith, same, sum_by-cons f x xs, sum_by-cons f y ys, tail, head)) j d less) (omega (arith, same, sum_by-cons f x xs, sum_by-cons f y ys, tail, head))
    where
      sum_grows : (us vs : List A) → length vs ≡ length us → ((j : ℕ) (e : A) → j < length us → f (get_or us j e) ≤ f (get_or vs j e)) → sum_by f us ≤ sum_by f vs
      sum_grows [] [] l each = omega arith
      sum_grows [] (v ∷ vs) l each = absurd (omega arith)
      sum_grows (u ∷ us) [] l each = absurd (omega arith)
      sum_grows (u ∷ us) (v ∷ vs) l each =
          let head : f u ≤ f v = each 0 u (omega arith) in
          omega (arith, sum_by-cons f u us, sum_by-cons f v vs, head, sum_grows us vs (omega (arith, l)) (λ j e less. each (suc j) e (omega (arith, less))))

      by : (k : ℕ) → k < suc (length xs) → ((j : ℕ) → j < length xs → f (get_or ys j d) ≡ f (get_or xs j d)) → f y ≡ f x → f (get_or (y ∷ ys) k d) ≡ f (get_or (x ∷ xs) k d)
      by zero lt rest head = head
      by (suc j) lt rest head = rest j (omega (arith, lt))

  -- none is above 1 and one is 0, so the sum is below the length
  pub sum_short : (f : A → ℕ) (xs : List A) → ((k : ℕ) (d : A) → k < length xs → f (get_or xs k d) ≤ 1) → (j : ℕ) → j < length xs → ((d : A) → f (get_or xs j d) ≡ 0) → sum_by f xs < length xs
  sum_short f [] each j lt none = absurd (omega arith)
  sum_short f (x ∷ xs) each zero lt none =
      let most = sum_most xs (λ k d less. each (suc k) d (omega (arith, less))) in
      omega (arith, sum_by-cons f x xs, none x, most)
    where
      sum_most : (ys : List A) → ((k : ℕ) (d : A) → k < length ys → f (get_or ys k d) ≤ 1) → sum_by f ys ≤ length ys
      sum_most [] each = omega arith
      sum_most (y ∷ ys) each =
          let first : f y ≤ 1 = each 0 y (omega arith) in
          omega (arith, sum_by-cons f y ys, first, sum_most ys (λ k d less. each (suc k) d (omega (arith, less))))
  sum_short f (x ∷ xs) each (suc j) lt none =
      let first : f x ≤ 1 = each 0 x (omega arith) in
      omega (arith, sum_by-cons f x xs, first, sum_short f xs (λ k d less. each (suc k) d (omega (arith, less))) j (omega (arith, lt)) none)
