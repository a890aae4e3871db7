-- A set of nodes that is built node by node.
use Rattle.std.proofs.Common.{◌≡◌, ℕ, zero, suc, ◌+◌, ◌<◌, ◌==◌, ◌||◌, true, false, cond, List, [], ◌∷◌, ◌++◌, length, take, get_or, filter, Some, None, Result, Ok, Err, MatchResult, nat_lt, refl, ap, ap₂, sym, ◌∙◌, subst, arith}
use Rattle.std.specs.List.Sorted.{IsStrictlyIncreasing}
use Rattle.std.specs.Result.{is_err}
use Rattle.std.proofs.lemmas.Bool.Decides.{nat_tests}
use Rattle.std.proofs.lemmas.List.{length-take-le, take_more}
use Rattle.sc_base.specs.Among.{Each}
use Rattle.sc_base.specs.Roster.{IsRoster, is_member, with_member}
use Rattle.sc_base.specs.Errors.{add_error}
use Rattle.sc_base.specs.declared.sets.MemberError.{MemberError}

is_below : (m n : ℕ) → m < n → nat_lt m n ≡ true
is_below m n below = grind (arith, nat_tests)

not_above : (m n : ℕ) → m < n → nat_lt n m ≡ false
not_above m n below = grind (arith, nat_tests)

is_other : (m n : ℕ) → m < n → (m == n) ≡ false
is_other m n below = grind (arith, nat_tests)

stays : (n : ℕ) (xs : List ℕ) → Each (λ x. x < n) xs → filter (λ m. nat_lt m n) xs ≡ xs
stays n [] all = refl
stays n (x ∷ xs) all = ap (λ b. cond b (x ∷ filter (λ m. nat_lt m n) xs) (filter (λ m. nat_lt m n) xs)) (is_below x n all.0) ∙ ap (λ l. x ∷ l) (stays n xs all.1)

none_above : (n : ℕ) (xs : List ℕ) → Each (λ x. x < n) xs → filter (λ m. nat_lt n m) xs ≡ []
none_above n [] all = refl
none_above n (x ∷ xs) all = ap (λ b. cond b (x ∷ filter (λ m. nat_lt n m) xs) (filter (λ m. nat_lt n m) xs)) (not_above x n all.0) ∙ none_above n xs all.1

absent : (n : ℕ) (xs : List ℕ) → Each (λ x. x < n) xs → is_member xs n ≡ false
absent n [] all = refl
absent n (x ∷ xs) all = ap (λ b. b || is_member xs n) (is_other x n all.0) ∙ absent n xs all.1

placed_last : (n : ℕ) (xs : List ℕ) → Each (λ x. x < n) xs → with_member xs n ≡ xs ++ n ∷ []
placed_last n xs all = ap₂ (λ l m. l ++ n ∷ m) (stays n xs all) (none_above n xs all)

rising_rest : (x : ℕ) (xs : List ℕ) → IsStrictlyIncreasing (x ∷ xs) → IsStrictlyIncreasing xs
rising_rest x xs up k within =
    let next : suc k + 1 ≡ suc (k + 1) = omega arith in
    subst (λ n. get_or xs k 0 < get_or (x ∷ xs) n 0) next (up (suc k) (omega arith))

above_first : (x : ℕ) (xs : List ℕ) (i : ℕ) → IsStrictlyIncreasing (x ∷ xs) → i < length xs → x < get_or xs i 0
above_first x xs zero up within = up 0 (omega arith)
above_first x xs (suc i) up within =
    let next : suc i + 1 ≡ suc (suc i) = omega arith in
    let later = subst (λ n. get_or xs i 0 < get_or (x ∷ xs) n 0) next (up (suc i) (omega arith)) in
    omega (arith, above_first x xs i up (omega arith), later)

earlier_below : (nodes : List ℕ) (i : ℕ) → IsStrictlyIncreasing nodes → i < length nodes → Each (λ x. x < get_or nodes i 0) (take i nodes)
earlier_below [] i up within = absurd (omega arith)
earlier_below (x ∷ xs) zero up within = tt
earlier_below (x ∷ xs) (suc i) up within = (above_first x xs i up (omega arith), earlier_below xs i (rising_rest x xs up) (omega arith))

no_error : (nodes : List ℕ) (i : ℕ) → IsRoster nodes → i < length nodes → add_error (take i nodes) (get_or nodes i 0) ≡ None
no_error nodes i roster within =
    let none = absent (get_or nodes i 0) (take i nodes) (earlier_below nodes i roster.ascending within) in
    let short : length (take i nodes) ≡ i = length-take-le i nodes (omega arith) in
    let few : (length (take i nodes) == 9) ≡ false = is_other (length (take i nodes)) 9 (omega (arith, roster.most)) in
    rw (none, few)

-- what adding a node answered
abbrev pub Added : List ℕ → List ℕ → ℕ → Result (Unit {0}) MemberError → Type 0
Added old new node result = MatchResult result (λ _. (add_error old node ≡ None) × (new ≡ with_member old node)) (λ error. (add_error old node ≡ Some error) × (new ≡ old))

-- the next node of ascending ones is added at the end
pub adds_next : (nodes old new : List ℕ) (i : ℕ) (result : Result (Unit {0}) MemberError) → IsRoster nodes → i < length nodes → old ≡ take i nodes → Added old new (get_or nodes i 0) result → (is_err result ≡ false) × (new ≡ take (i + 1) nodes)
adds_next nodes old new i (Ok u) roster within is added =
    let last = placed_last (get_or nodes i 0) (take i nodes) (earlier_below nodes i roster.ascending within) in
    (refl, added.1 ∙ (ap (λ l. with_member l (get_or nodes i 0)) is ∙ (last ∙ sym (take_more nodes i 0 within))))
adds_next nodes old new i (Err error) roster within is added =
    let none = ap (λ l. add_error l (get_or nodes i 0)) is ∙ no_error nodes i roster within in
    absurd (let clash : Some error ≡ None = sym added.0 ∙ none in cc)
