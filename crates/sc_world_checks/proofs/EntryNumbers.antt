-- No number of a client stands twice among entries.
use Rattle.std.proofs.Common.{◌≡◌, ℕ, zero, suc, ◌+◌, ◌<◌, Bool, true, false, List, length, take, get_or, ◌⊎◌, inl, inr, refl, sym, ◌∙◌, ap, subst, arith}
use Rattle.std.specs.List.{All, AllPairs}
use Rattle.std.proofs.lemmas.List.{get_or_default, get_or-take, length-take-le}
use Rattle.sc_words.specs.declared.ideal.Entry.{Entry}
use Rattle.sc_words.specs.ideal.History.{AreApart}

before_or_here : (i n : ℕ) → i < n + 1 → (i < n) ⊎ (i ≡ n)
before_or_here zero zero lt = inr refl
before_or_here zero (suc n) lt = inl (omega arith)
before_or_here (suc i) zero lt = absurd (omega (arith, lt))
before_or_here (suc i) (suc n) lt = elim (before_or_here i n (omega (arith, lt))) [ inl l ↦ inl (omega (arith, l)) | inr e ↦ inr (ap suc e) ]

-- each two before a place are apart, and so is the one there from those before it
pub more_pairs : (xs : List Entry) (n : ℕ) (x : Entry) (apart : Bool) → n < length xs → x ≡ get_or xs n x
    → ((apart ≡ true → All (λ (other : Entry). AreApart other x) (take n xs)) × (All (λ (other : Entry). AreApart other x) (take n xs) → apart ≡ true)) → apart ≡ true
    → ((i j : ℕ) (d : Entry) → i < j → j < n → AreApart (get_or xs i d) (get_or xs j d))
    → (i j : ℕ) (d : Entry) → i < j → j < n + 1 → AreApart (get_or xs i d) (get_or xs j d)
more_pairs xs n x apart within here tells is so_far i j d lt most = elim (before_or_here j n most) [
  | inl before ↦ so_far i j d lt before
  | inr last ↦ (
      let all : All (λ (other : Entry). AreApart other x) (take n xs) = tells.0 is in
      let long : length (take n xs) ≡ n = length-take-le n xs (omega (arith, within)) in
      let small : i < n = omega (arith, lt, last) in
      let one : AreApart (get_or (take n xs) i d) x = all i d (omega (arith, small, long)) in
      let other : get_or (take n xs) i d ≡ get_or xs i d = get_or-take n xs i d small in
      let this : x ≡ get_or xs j d = here ∙ get_or_default xs n x d within ∙ ap (λ (k : ℕ). get_or xs k d) (sym last) in
      subst (λ (y : Entry). AreApart (get_or xs i d) y) this (subst (λ (y : Entry). AreApart y x) other one))
]

-- one that is not apart from all before it is one of a pair
pub twice : (xs : List Entry) (n : ℕ) (x : Entry) (apart : Bool) → n < length xs → x ≡ get_or xs n x
    → ((apart ≡ true → All (λ (other : Entry). AreApart other x) (take n xs)) × (All (λ (other : Entry). AreApart other x) (take n xs) → apart ≡ true)) → apart ≡ false
    → (false ≡ true → AllPairs AreApart xs) × (AllPairs AreApart xs → false ≡ true)
twice xs n x apart within here tells not = (
  (λ t. let no : false ≡ true = t in cc),
  (λ all.
      let long : length (take n xs) ≡ n = length-take-le n xs (omega (arith, within)) in
      let each : All (λ (other : Entry). AreApart other x) (take n xs) =
      λ i d lt.
      let small : i < n = omega (arith, lt, long) in
      subst (λ (y : Entry). AreApart y x) (sym (get_or-take n xs i d small)) (subst (λ (y : Entry). AreApart (get_or xs i d) y) (get_or_default xs n d x within ∙ sym here) (all i n d small within)) in
      sym not ∙ tells.1 each),
)
