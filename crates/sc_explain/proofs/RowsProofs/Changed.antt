-- What is the same did not change.
use Rattle.std.proofs.Common.{◌≡◌, ℕ, zero, suc, ◌+◌, ◌<◌, ◌||◌, Bool, true, false, not, List, [], ◌∷◌, ◌++◌, length, get_or, take, refl, sym, ◌∙◌, ap, append-nil, arith}
use Rattle.std.specs.List.{filter, list_any}
use Rattle.std.proofs.lemmas.Bool.{cond-true, cond-false, not_from_true, not_from_false}
use Rattle.std.proofs.lemmas.List.Elements.{filter_more}
use Rattle.sc_explain.specs.rows.Explained.{changed}

-- what stands at a place of a list is among it
pub any_at : {X : Type 0} (p : X → Bool) (xs : List X) (i : ℕ) (x : X) → i < length xs → x ≡ get_or xs i x → p x ≡ true → list_any p xs ≡ true
any_at p [] i x lt is holds = absurd (omega (arith, lt))
any_at p (y ∷ xs) zero x lt is holds = ap (λ b. b || list_any p xs) (ap p (sym is) ∙ holds)
any_at p (y ∷ xs) (suc i) x lt is holds = ap (λ b. p y || b) (any_at p xs i x (omega (arith, lt)) is holds) ∙ or_true (p y)
  where
    or_true : (b : Bool) → (b || true) ≡ true
    or_true true = refl
    or_true false = refl

-- what was said before adds nothing
pub said_before : {X : Type 0} (same : X → X → Bool) (before new : List X) (x : X) → list_any (same x) before ≡ true → new ≡ new ++ changed same before (x ∷ [])
said_before same before new x was =
    sym (ap (λ ys. new ++ ys) (cond-false (not (list_any (same x) before)) (x ∷ []) [] (not_from_true (list_any (same x) before) was)) ∙ append-nil new)

-- what was not said before is added
pub said_now : {X : Type 0} (same : X → X → Bool) (before new : List X) (x : X) → list_any (same x) before ≡ false → new ++ x ∷ [] ≡ new ++ changed same before (x ∷ [])
said_now same before new x was =
    ap (λ ys. new ++ ys) (sym (cond-true (not (list_any (same x) before)) (x ∷ []) [] (not_from_false (list_any (same x) before) was)))

-- what changed of one item more
pub changed_more : {X : Type 0} (same : X → X → Bool) (before xs : List X) (i : ℕ) (x : X) → i < length xs → x ≡ get_or xs i x
    → changed same before (take (i + 1) xs) ≡ changed same before (take i xs) ++ changed same before (x ∷ [])
changed_more {X} same before xs i x lt is =
    filter_more (λ (y : X). not (list_any (same y) before)) xs i x lt
    ∙ ap (λ (y : X). changed same before (take i xs) ++ changed same before (y ∷ [])) (sym is)

-- all that passes a test, where nothing does
none_pass : {X : Type 0} (p : X → Bool) (xs : List X) → ((i : ℕ) (x : X) → i < length xs → x ≡ get_or xs i x → p x ≡ false) → filter p xs ≡ []
none_pass p [] none = refl
none_pass {X} p (x ∷ xs) none =
    cond-false (p x) (x ∷ filter p xs) (filter p xs) (none zero x (omega arith) refl)
    ∙ none_pass p xs (λ i y lt is. none (suc i) y (omega (arith, lt)) is)

-- nothing changed of what is the same
pub unchanged : {X : Type 0} (same : X → X → Bool) → ((x : X) → same x x ≡ true) → (xs : List X) → changed same xs xs ≡ []
unchanged same itself xs = none_pass (λ x. not (list_any (same x) xs)) xs (λ i x lt is. ap not (any_at (same x) xs i x lt is (itself x)))
