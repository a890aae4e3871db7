-- Which lines come before which.
use Rattle.std.proofs.Common.{◌≡◌, ℕ, zero, suc, ◌+◌, ◌<◌, ◌≤◌, true, List, [], ◌∷◌, length, get_or, take, Option, Some, None, refl, sym, ap, ◌∙◌, inl, inr, arith, lt-ltb, le-ltb, add-one}
use Rattle.std.proofs.lemmas.Bool.{cases_lt}
use Rattle.std.proofs.lemmas.List.{take_more}
use Rattle.std.proofs.lemmas.List.Sums.{fold_push}
use Rattle.sc_base.specs.Definitions.{Among}
use Rattle.sc_linear_law.specs.declared.requests.Request.{Request}
use Rattle.sc_linear_law.specs.LinearDefinitions.{Move, EachPair, is_before}
use Rattle.sc_linear_law.proofs.Game.{same_or_not}
use Rattle.sc_linear_law.proofs.ListFacts.{each_get, among_index}
use Rattle.sc_linear.specs.Standing.{answered_at}
use Rattle.sc_linear.specs.Moves.{IsMoves, line_after}
use Rattle.sc_linear.specs.Front.{reached, no_move, move_at}

pub pairs_get : {X : Type 0} (R : X → X → Type 0) (xs : List X) (i j : ℕ) (d : X) → EachPair R xs → i < j → j < length xs → R (get_or xs i d) (get_or xs j d)
pairs_get R [] i j d h less low = absurd (omega arith)
pairs_get R (x ∷ xs) i zero d h less low = absurd (omega arith)
pairs_get R (x ∷ xs) zero (suc j) d h less low = each_get (R x) xs j d h.0 (omega arith)
pairs_get R (x ∷ xs) (suc i) (suc j) d h less low = pairs_get R xs i j d h.1 (omega arith) (omega arith)

pub reached_more : (ms : List Move) (i : ℕ) → i < length ms → reached ms (i + 1) ≡ (move_at ms i).0 + 1
reached_more ms i low = ap line_after (take_more ms i no_move low) ∙ fold_push (λ (line : ℕ) (move : Move). move.0 + 1) 0 (take i ms) (move_at ms i)

module _ (rs : List Request) (ms : List Move) (h : IsMoves rs ms) where
  rising_at : (i j : ℕ) → i < j → j < length ms → (move_at ms i).0 < (move_at ms j).0
  rising_at i j less low = pairs_get (λ (a b : Move). a.0 < b.0) ms i j no_move h.rising less low

  -- two lines at one place are one
  one_line : (i j : ℕ) → i < length ms → j < length ms → (move_at ms i).0 ≡ (move_at ms j).0 → i ≡ j
  one_line i j li lj e = elim (cases_lt i j) [
    | inl less ↦ absurd (let r = rising_at i j less lj in omega arith)
    | inr ge ↦ elim (cases_lt j i) [ inl less ↦ absurd (let r = rising_at j i less li in omega arith) | inr le ↦ omega arith ]
  ]

  pub this_move : (i : ℕ) (m : Move) → i < length ms → Among m ms → m.0 ≡ (move_at ms i).0 → m ≡ move_at ms i
  this_move i m low here e =
      let r : (j : ℕ) × (j < length ms) × (get_or ms j no_move ≡ m) = among_index ms m no_move here in
      let same : r.0 ≡ i = one_line r.0 i r.1 low (ap (λ (k : Move). k.0) r.2 ∙ e) in
      sym r.2 ∙ ap (move_at ms) same

  -- the lines before an index lie before the line that is reached there
  pub earlier : (i j : ℕ) → j < i → i ≤ length ms → (move_at ms j).0 < reached ms i
  earlier zero j less low = absurd (omega arith)
  earlier (suc i) j less low =
      let r : reached ms (i + 1) ≡ (move_at ms i).0 + 1 = reached_more ms i (omega arith) in
      let s : reached ms (suc i) ≡ (move_at ms i).0 + 1 = ap (reached ms) (sym (add-one i)) ∙ r in
      elim (cases_lt j i) [
        | inl under ↦ (let k = rising_at j i under (omega arith) in omega arith)
        | inr ge ↦ (let same : j ≡ i = omega arith in let k : (move_at ms j).0 ≡ (move_at ms i).0 = ap (λ z. (move_at ms z).0) same in omega arith)
      ]

  -- a line on which something happens, before the line at an index, lies before the line that is reached there
  pub past : (i : ℕ) (m : Move) → i < length ms → Among m ms → m.0 < (move_at ms i).0 → m.0 < reached ms i
  past i m low here below =
      let r : (j : ℕ) × (j < length ms) × (get_or ms j no_move ≡ m) = among_index ms m no_move here in
      let l : (move_at ms r.0).0 ≡ m.0 = ap (λ (k : Move). k.0) r.2 in
      elim (cases_lt r.0 i) [
        | inl less ↦ (let k = earlier i r.0 less (omega arith) in omega arith)
        | inr ge ↦ elim (same_or_not i r.0) [
          | inl same ↦ absurd (let q : (move_at ms r.0).0 ≡ (move_at ms i).0 = ap (λ z. (move_at ms z).0) same in omega arith)
          | inr apart ↦ absurd (let k = rising_at i r.0 (omega arith) r.1 in omega arith)
        ]
      ]

  pub reached_low : (i : ℕ) → i < length ms → reached ms i ≤ (move_at ms i).0
  reached_low zero low = omega arith
  reached_low (suc i) low =
      let s : reached ms (suc i) ≡ (move_at ms i).0 + 1 = ap (reached ms) (sym (add-one i)) ∙ reached_more ms i (omega arith) in
      let k = rising_at i (suc i) (omega arith) low in
      omega arith

  same_before : (o : Option ℕ) (low high : ℕ) → low ≤ high → ((a : ℕ) → o ≡ Some a → a < high → a < low) → is_before o high ≡ is_before o low
  same_before None low high le back = refl
  same_before (Some a) low high le back = elim (cases_lt a low) [
    | inl less ↦ lt-ltb a high (omega arith) ∙ sym (lt-ltb a low less)
    | inr ge ↦ elim (cases_lt a high) [ inl below ↦ absurd (let k = back a refl below in omega arith) | inr above ↦ le-ltb a high above ∙ sym (le-ltb a low ge) ]
  ]

  -- from the line that is reached to the next line no request is answered
  pub quiet : (i x : ℕ) → i < length ms → x < length rs → is_before (answered_at rs x) (move_at ms i).0 ≡ is_before (answered_at rs x) (reached ms i)
  quiet i x low within = same_before (answered_at rs x) (reached ms i) (move_at ms i).0 (reached_low i low) (λ a e below. past i (a, true, x) low (h.ends x a within e) below)

  -- on a line only that request is answered, if one is
  pub only : (i x : ℕ) → i < length ms → x < length rs → (answered_at rs x ≡ Some (move_at ms i).0 → ⊥) → is_before (answered_at rs x) ((move_at ms i).0 + 1) ≡ is_before (answered_at rs x) (move_at ms i).0
  only i x low within none = same_before (answered_at rs x) (move_at ms i).0 ((move_at ms i).0 + 1) (omega arith) (λ a e below. elim (same_or_not (move_at ms i).0 a) [ inl same ↦ absurd (none (e ∙ ap Some same)) | inr apart ↦ omega arith ])
