-- Elements of lists, and what is found first.
use Rattle.std.proofs.Common.{◌≡◌, ◌≢◌, Bool, true, false, cond, List, [], ◌∷◌, ◌++◌, filter, Some, None, inl, inr, refl, sym, ◌∙◌, ap, subst, arith}
use Rattle.std.specs.List.{All, AllPairs, find}
use Rattle.std.proofs.lemmas.List.Elements.{All-tail}
use Rattle.std.proofs.lemmas.Bool.{cases_Bool, cond-true, cond-false}
use Rattle.sc_base.specs.Definitions.{Among, Each}
use Rattle.sc_base.proofs.Lemmas.{AllPairs-head, AllPairs-tail}

-- what holds of each holds of one among them
pub Each-among : {X : Type 0} (P : X → Type 0) (xs : List X) (x : X) → Each P xs → Among x xs → P x
Each-among P [] x e a = absurd a
Each-among P (y ∷ ys) x e (inl same) = subst P same e.0
Each-among P (y ∷ ys) x e (inr a) = Each-among P ys x e.1 a

pub Each-from : {X : Type 0} (P : X → Type 0) (xs : List X) → ((x : X) → Among x xs → P x) → Each P xs
Each-from P [] f = tt
Each-from P (x ∷ xs) f = (f x (inl refl), Each-from P xs (λ y a. f y (inr a)))

-- what follows from what holds of each
pub Each-weaker : {X : Type 0} (P Q : X → Type 0) → ((x : X) → P x → Q x) → (xs : List X) → Each P xs → Each Q xs
Each-weaker P Q f [] e = tt
Each-weaker P Q f (x ∷ xs) e = (f x e.0, Each-weaker P Q f xs e.1)

-- what holds of each of two lists
pub Each-append : {X : Type 0} (P : X → Type 0) (xs ys : List X) → Each P xs → Each P ys → Each P (xs ++ ys)
Each-append P [] ys e f = f
Each-append P (x ∷ xs) ys e f = (e.0, Each-append P xs ys e.1 f)

-- what holds of each, and of one more behind them
pub Each-push : {X : Type 0} (P : X → Type 0) (xs : List X) (x : X) → Each P xs → P x → Each P (xs ++ x ∷ [])
Each-push P xs x e here = Each-append P xs (x ∷ []) e (here, tt)

-- what holds of each of two lists in a row holds of each of the first, and of each of the second
pub Each-split : {X : Type 0} (P : X → Type 0) (xs ys : List X) → Each P (xs ++ ys) → Each P xs × Each P ys
Each-split P [] ys e = (tt, e)
Each-split P (x ∷ xs) ys e = (let rest = Each-split P xs ys e.1 in ((e.0, rest.0), rest.1))

-- what holds at each place holds of each
pub Each-from_All : {X : Type 0} (P : X → Type 0) (xs : List X) → All P xs → Each P xs
Each-from_All P [] all = tt
Each-from_All P (x ∷ xs) all = (all 0 x (omega arith), Each-from_All P xs (All-tail P x xs all))

-- where no two elements have one name, there is one of a name
pub one_of_name : {X N : Type 0} (name : X → N) (xs : List X) → AllPairs (λ x y. name x ≢ name y) xs → (x y : X) → Among x xs → Among y xs → name x ≡ name y → x ≡ y
one_of_name name [] all x y a b e = absurd a
one_of_name {X} name (z ∷ zs) all x y a b e =
    let apart = Each-from_All (λ (w : X). name z ≢ name w) zs (AllPairs-head (λ v w. name v ≢ name w) z zs all) in
    elim a [
      | inl is ↦ elim b [ inl its ↦ sym is ∙ its | inr m ↦ absurd (Each-among (λ (w : X). name z ≢ name w) zs y apart m (ap name is ∙ e)) ]
      | inr m ↦ elim b [
        | inl its ↦ absurd (Each-among (λ (w : X). name z ≢ name w) zs x apart m (ap name its ∙ sym e))
        | inr n ↦ one_of_name name zs (AllPairs-tail (λ v w. name v ≢ name w) z zs all) x y m n e
      ]
    ]

filter-yes : {X : Type 0} (p : X → Bool) (x : X) (xs : List X) → p x ≡ true → filter p (x ∷ xs) ≡ x ∷ filter p xs
filter-yes p x xs t = cond-true (p x) (x ∷ filter p xs) (filter p xs) t

filter-no : {X : Type 0} (p : X → Bool) (x : X) (xs : List X) → p x ≡ false → filter p (x ∷ xs) ≡ filter p xs
filter-no p x xs f = cond-false (p x) (x ∷ filter p xs) (filter p xs) f

-- what holds of each holds of those that pass a test
pub Each-filter : {X : Type 0} (P : X → Type 0) (p : X → Bool) (xs : List X) → Each P xs → Each P (filter p xs)
Each-filter P p [] e = tt
Each-filter P p (x ∷ xs) e =
    elim (cases_Bool (p x)) [
      | inl t ↦ subst (Each P) (sym (filter-yes p x xs t)) (e.0, Each-filter P p xs e.1)
      | inr f ↦ subst (Each P) (sym (filter-no p x xs f)) (Each-filter P p xs e.1)
    ]

-- those that pass a test pass it
pub Each-passes : {X : Type 0} (p : X → Bool) (xs : List X) → Each (λ x. p x ≡ true) (filter p xs)
Each-passes p [] = tt
Each-passes {X} p (x ∷ xs) =
    elim (cases_Bool (p x)) [
      | inl t ↦ subst (Each (λ (y : X). p y ≡ true)) (sym (filter-yes p x xs t)) (t, Each-passes p xs)
      | inr f ↦ subst (Each (λ (y : X). p y ≡ true)) (sym (filter-no p x xs f)) (Each-passes p xs)
    ]

-- one that passes is among those that pass
pub Among-filter : {X : Type 0} (p : X → Bool) (xs : List X) (x : X) → Among x xs → p x ≡ true → Among x (filter p xs)
Among-filter p [] x a t = absurd a
Among-filter p (y ∷ ys) x (inl e) t = subst (Among x) (sym (filter-yes p y ys (ap p e ∙ t))) (inl e)
Among-filter p (y ∷ ys) x (inr a) t =
    elim (cases_Bool (p y)) [
      | inl u ↦ subst (Among x) (sym (filter-yes p y ys u)) (inr (Among-filter p ys x a t))
      | inr u ↦ subst (Among x) (sym (filter-no p y ys u)) (Among-filter p ys x a t)
    ]

-- one among those that pass is one of all
pub from_filter : {X : Type 0} (p : X → Bool) (xs : List X) (x : X) → Among x (filter p xs) → Among x xs × (p x ≡ true)
from_filter p xs x a = (from_part p xs x a, Each-among (λ y. p y ≡ true) (filter p xs) x (Each-passes p xs) a)
  where
    from_part : {X : Type 0} (p : X → Bool) (xs : List X) (x : X) → Among x (filter p xs) → Among x xs
    from_part p [] x a = absurd a
    from_part p (y ∷ ys) x a =
        elim (cases_Bool (p y)) [
          | inl t ↦ elim (subst (Among x) (filter-yes p y ys t) a) [ inl e ↦ inl e | inr b ↦ inr (from_part p ys x b) ]
          | inr f ↦ inr (from_part p ys x (subst (Among x) (filter-no p y ys f) a))
        ]

-- what is found stands in the list and passes
pub find_found : {X : Type 0} (p : X → Bool) (xs : List X) (x : X) → find p xs ≡ Some x → Among x xs × (p x ≡ true)
find_found p [] x e = cc
find_found p (y ∷ ys) x e =
    elim (cases_Bool (p y)) [
      | inl t ↦ (let k = sym (cond-true (p y) (Some y) (find p ys) t) ∙ e in let same : y ≡ x = cc in (inl same, ap p (sym same) ∙ t))
      | inr f ↦ (let k = find_found p ys x (sym (cond-false (p y) (Some y) (find p ys) f) ∙ e) in (inr k.0, k.1))
    ]

-- nothing is found where nothing passes
pub find_nothing : {X : Type 0} (p : X → Bool) (xs : List X) → Each (λ x. p x ≡ false) xs → find p xs ≡ None
find_nothing p [] e = refl
find_nothing p (x ∷ xs) e = cond-false (p x) (Some x) (find p xs) e.0 ∙ find_nothing p xs e.1

-- what stands first is looked at first
pub find_past : {X : Type 0} (p : X → Bool) (xs ys : List X) → Each (λ x. p x ≡ false) xs → find p (xs ++ ys) ≡ find p ys
find_past p [] ys e = refl
find_past p (x ∷ xs) ys e = cond-false (p x) (Some x) (find p (xs ++ ys)) e.0 ∙ find_past p xs ys e.1

-- what is found before a list that has none
pub find_within : {X : Type 0} (p : X → Bool) (xs ys : List X) → find p ys ≡ None → find p (xs ++ ys) ≡ find p xs
find_within p [] ys e = e
find_within p (x ∷ xs) ys e = ap (λ o. cond (p x) (Some x) o) (find_within p xs ys e)

-- a part that keeps all that passes
pub find_filter : {X : Type 0} (p q : X → Bool) → ((x : X) → p x ≡ true → q x ≡ true) → (xs : List X) → find p (filter q xs) ≡ find p xs
find_filter p q f [] = refl
find_filter p q f (x ∷ xs) =
    elim (cases_Bool (q x)) [
      | inl t ↦ ap (find p) (filter-yes q x xs t) ∙ ap (λ o. cond (p x) (Some x) o) (find_filter p q f xs)
      | inr n ↦ (
          let out = elim (cases_Bool (p x)) as (λ _. p x ≡ false) [ inl t ↦ (let k = f x t in cc) | inr o ↦ o ] in
          ap (find p) (filter-no q x xs n) ∙ find_filter p q f xs ∙ sym (cond-false (p x) (Some x) (find p xs) out))
    ]
