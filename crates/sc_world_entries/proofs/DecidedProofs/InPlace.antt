-- Groups that take in one acceptance, one after the other, each where it lies.
use Rattle.std.proofs.Common.{◌≡◌, ℕ, ◌+◌, ◌<◌, ◌≤◌, List, [], ◌∷◌, ◌++◌, length, get_or, set, take, drop, sym, ap, ◌∙◌, subst, arith, append-nil}
use Rattle.std.proofs.lemmas.List.{take_more, take_all, take_more_set, drop_more, drop-set-lt}
use Rattle.std.proofs.Math.Seq.{drop-length}
use Rattle.sc_world_logs.specs.declared.known.Known.{Known}

module _ (old now : List Known) (i : ℕ) (lt : i < length now) (long : length now ≡ length old) (left : drop i now ≡ drop i old) where
  -- the next one is as it was, and so are those behind it
  next_was : (d : Known) → (get_or now i d ≡ get_or old i d) × (drop (i + 1) now ≡ drop (i + 1) old)
  next_was d =
      let here = drop_more now i d lt in
      let there = drop_more old i d (omega (arith, lt, long)) in
      let both : (get_or now i d ∷ drop (i + 1) now) ≡ (get_or old i d ∷ drop (i + 1) old) = sym here ∙ (left ∙ there) in
      ((cc), (cc))

  pub left_next : (y : Known) → drop (i + 1) (set now i y) ≡ drop (i + 1) old
  left_next y = (let less : i < i + 1 = omega arith in drop-set-lt (i + 1) now i y less ∙ (next_was y).1)

  -- what holds of the groups so far and what became of them holds with one group more, where one more may be put behind
  pub taken_next : (S : List Known → List Known → Type 0) (x y : Known) → x ≡ get_or now i x → (S (take i old) (take i now) → S (take i old ++ x ∷ []) (take i now ++ y ∷ []))
      → S (take i old) (take i now) → S (take (i + 1) old) (take (i + 1) (set now i y))
  taken_next S x y is push so_far =
      let prefix : take (i + 1) old ≡ take i old ++ x ∷ [] = take_more old i x (omega (arith, lt, long)) ∙ ap (λ (k : Known). take i old ++ k ∷ []) (sym (is ∙ (next_was x).0)) in
      let new : take (i + 1) (set now i y) ≡ take i now ++ y ∷ [] = take_more_set now i y lt in
      subst (λ (ks : List Known). S ks (take (i + 1) (set now i y))) (sym prefix)
      (subst (λ (ks : List Known). S (take i old ++ x ∷ []) ks) (sym new) (push so_far))

-- and in the end of all
pub all_taken : (S : List Known → List Known → Type 0) (old now : List Known) (i : ℕ) → length now ≤ i → length now ≡ length old → S (take i old) (take i now) → S old now
all_taken S old now i le long so_far =
    let olds : take i old ≡ old = take_all i old (omega (arith, le, long)) in
    let nows : take i now ≡ now = take_all i now le in
    subst (λ (ks : List Known). S ks now) olds (subst (λ (ks : List Known). S (take i old) ks) nows so_far)

-- a whole slice is written back
pub whole_slice : (new old : List Known) (n : ℕ) → length new ≡ length old → n ≡ length old → take n (new ++ drop (length new) old) ≡ new
whole_slice new old n same is =
    let none : drop (length new) old ≡ [] = ap (λ k. drop k old) same ∙ drop-length old in
    ap (λ (l : List Known). take n (new ++ l)) none ∙ (ap (take n) (append-nil new) ∙ take_all n new (omega (arith, is, same)))
