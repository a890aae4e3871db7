-- Groups by their names.
use Rattle.std.proofs.Common.{◌≡◌, ℕ, zero, suc, ◌+◌, ◌<◌, ◌≤◌, Bool, true, false, List, [], ◌∷◌, length, get_or, take, cond, Some, None, refl, ap, sym, ◌∙◌, arith}
use Rattle.std.specs.Prelude.{find, slice_get}
use Rattle.std.proofs.lemmas.Option.{none-some}
use Rattle.std.proofs.lemmas.List.{take_all}

-- none of the first items passes a test, and one that does is the first that does
pub finds-here : {X : Type 0} (p : X → Bool) (xs : List X) (i : ℕ) (d : X) → i < length xs → find p (take i xs) ≡ None → p (get_or xs i d) ≡ true → find p xs ≡ slice_get xs i
finds-here p [] i d lt none is = absurd (omega (arith, lt))
finds-here p (x ∷ xs) zero d lt none is = ap (λ b. cond b (Some x) (find p xs)) is
finds-here {X} p (x ∷ xs) (suc i) d lt none is = by (p x) refl none (λ e. finds-here p xs i d (omega (arith, lt)) e is)
  where
    by : (b : Bool) → p x ≡ b → (cond b (Some x) (find p (take i xs))) ≡ None → (find p (take i xs) ≡ None → find p xs ≡ slice_get xs i) → find p (x ∷ xs) ≡ slice_get xs i
    by true t e later = absurd (none-some x (sym e))
    by false t e later = ap (λ b. cond b (Some x) (find p xs)) t ∙ later e

-- nor does the next one
pub finds-none : {X : Type 0} (p : X → Bool) (xs : List X) (i : ℕ) (d : X) → i < length xs → find p (take i xs) ≡ None → p (get_or xs i d) ≡ false → find p (take (suc i) xs) ≡ None
finds-none p [] i d lt none is = absurd (omega (arith, lt))
finds-none p (x ∷ xs) zero d lt none is = ap (λ b. cond b (Some x) None) is
finds-none {X} p (x ∷ xs) (suc i) d lt none is = by (p x) refl none (λ e. finds-none p xs i d (omega (arith, lt)) e is)
  where
    by : (b : Bool) → p x ≡ b → (cond b (Some x) (find p (take i xs))) ≡ None → (find p (take i xs) ≡ None → find p (take (suc i) xs) ≡ None) → find p (take (suc (suc i)) (x ∷ xs)) ≡ None
    by true t e later = absurd (none-some x (sym e))
    by false t e later = ap (λ b. cond b (Some x) (find p (take (suc i) xs))) t ∙ later e

-- ... at the place after it
pub finds-none-next : {X : Type 0} (p : X → Bool) (xs : List X) (i : ℕ) (d : X) → i < length xs → find p (take i xs) ≡ None → p (get_or xs i d) ≡ false → find p (take (i + 1) xs) ≡ None
finds-none-next p xs i d lt none is =
    let one : i + 1 ≡ suc i = omega arith in
    ap (λ n. find p (take n xs)) one ∙ finds-none p xs i d lt none is

-- where none passes in the whole list, none does
pub finds-none-all : {X : Type 0} (p : X → Bool) (xs : List X) (i : ℕ) → length xs ≤ i → find p (take i xs) ≡ None → find p xs ≡ None
finds-none-all p xs i le none = ap (find p) (sym (take_all i xs le)) ∙ none
