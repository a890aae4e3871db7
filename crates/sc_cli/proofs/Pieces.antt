-- Pieces that a sink gains one after another.
use Rattle.std.proofs.Common.{◌≡◌, ℕ, zero, suc, ◌+◌, ◌<◌, min, List, [], ◌∷◌, ◌++◌, length, take, get_or, refl, sym, ◌∙◌, ap, append_assoc, append-nil, arith, add-one, subst, Option, Some, None}
use Rattle.std.proofs.Math.Seq.{take-append-add}
use Rattle.std.specs.List.{concat}
use Rattle.std.specs.Io.KnownBytes.{Appends}
use Rattle.sc_texts.specs.edges.Bytes.{AppendsPart, IsHanded}
use Rattle.sc_texts.proofs.EdgesProofs.Known.{Appends-trans}
use Rattle.sc_cli.specs.Causes.{BringsLines}

concat-take : (xs : List (List ℕ)) (i : ℕ) (x : List ℕ) → i < length xs → x ≡ get_or xs i x → concat (take (suc i) xs) ≡ concat (take i xs) ++ x
concat-take [] i x lt is = absurd (omega arith)
concat-take (y ∷ xs) zero x lt is = rw is (append-nil y)
concat-take (y ∷ xs) (suc i) x lt is = rw (concat-take xs i x (omega arith) is) (sym (append_assoc y (concat (take i xs)) x))

take_nil : (n : ℕ) → take {A = ℕ} n [] ≡ []
take_nil zero = refl
take_nil (suc n) = refl

prefix : (ys zs : List ℕ) (n : ℕ) → take (min n (length ys)) (ys ++ zs) ≡ take n ys
prefix [] zs n = let e : min n 0 ≡ 0 = omega arith in rw e (sym (take_nil n))
prefix (y ∷ ys) zs zero = let e : min 0 (suc (length ys)) ≡ 0 = omega arith in rw e refl
prefix (y ∷ ys) zs (suc n) = let e : min (suc n) (suc (length ys)) ≡ suc (min n (length ys)) = omega arith in rw e (ap (λ t. y ∷ t) (prefix ys zs n))

-- a prefix of one more piece is a prefix of the whole
part-take : (xs : List (List ℕ)) (i : ℕ) (x : List ℕ) (n : ℕ) → i < length xs → x ≡ get_or xs i x → (m : ℕ) × (take m (concat xs) ≡ concat (take i xs) ++ take n x)
part-take [] i x n lt is = absurd (omega arith)
part-take (y ∷ xs) zero x n lt is = (min n (length y), rw is (prefix y (concat xs) n))
part-take (y ∷ xs) (suc i) x n lt is =
    let rest = part-take xs i x n (omega arith) is in
    (length y + rest.0, take-append-add y (concat xs) rest.0 ∙ ap (λ t. y ++ t) rest.1 ∙ sym (append_assoc y (concat (take i xs)) (take n x)))

module _ (old mid new : Option (List ℕ)) (pieces : List (List ℕ)) (i : ℕ) (piece : List ℕ) (lt : i < length pieces) (is : piece ≡ get_or pieces i piece) (so_far : Appends old mid (concat (take i pieces))) where
  -- one piece more was put whole
  pub Appends-more : Appends mid new piece → Appends old new (concat (take (i + 1) pieces))
  Appends-more whole = rw (add-one, concat-take pieces i piece lt is) (Appends-trans old mid new (concat (take i pieces)) piece so_far whole)

  -- of one piece more a part was put, and so of all of them
  pub AppendsPart-more : AppendsPart mid new piece → AppendsPart old new (concat pieces)
  AppendsPart-more part =
      let m = part-take pieces i piece part.0 lt is in
      (m.0, rw m.1 (Appends-trans old mid new (concat (take i pieces)) (take part.0 piece) so_far part.1))

one-take : (xs : List (List ℕ)) (i : ℕ) (x : List ℕ) → i < length xs → x ≡ get_or xs i x → take (suc i) xs ≡ take i xs ++ x ∷ []
one-take [] i x lt is = absurd (omega arith)
one-take (y ∷ xs) zero x lt is = ap (λ t. t ∷ []) (sym is)
one-take (y ∷ xs) (suc i) x lt is = ap (λ t. y ∷ t) (one-take xs i x (omega arith) is)

-- one line more was brought by a call
pub BringsLines-more : (old mid new : Option (List (List ℕ))) (lines : List (List ℕ)) (i : ℕ) (line : List ℕ) → i < length lines → line ≡ get_or lines i line
    → BringsLines old mid (take i lines) → IsHanded mid new line → BringsLines old new (take (i + 1) lines)
BringsLines-more None mid new lines i line lt is so_far handed = tt
BringsLines-more (Some pieces) mid new lines i line lt is so_far handed =
    let last : new ≡ Some ((pieces ++ take i lines) ++ line ∷ []) = subst (λ o. IsHanded o new line) so_far handed in
    last ∙ ap Some (append_assoc pieces (take i lines) (line ∷ []) ∙ ap (λ t. pieces ++ t) (sym (one-take lines i line lt is) ∙ ap (λ (n : ℕ). take n lines) (let e : suc i ≡ i + 1 = omega arith in e)))
