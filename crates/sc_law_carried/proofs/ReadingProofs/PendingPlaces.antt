-- A mail that is under way stands among the pending mail of its receiver, at the place by which a line names it.
use Rattle.std.proofs.Common.{◌≡◌, ℕ, zero, suc, ◌+◌, ◌-◌, ◌<◌, List, [], ◌∷◌, ◌++◌, length, Bool, true, false, cond, eqb, eq-eqb, ◌&&◌, replicate, refl, sym, ◌∙◌, ap, subst, arith, get_or, None, Some}
use Rattle.std.specs.Prelude.{slice_get}
use Rattle.std.proofs.lemmas.Bool.{eqb-true, false≢true}
use Rattle.sc_actor.specs.declared.rows.Row.{Row}
use Rattle.sc_actor.specs.Definitions.{mails, copies, numbers, may_get, is_for, System, waiting, kth, numbers_of, IsUnderWay}
use Rattle.sc_actor.proofs.Lemmas.{counted}
use Rattle.sc_law_carried.specs.reading.ReadingDefinitions.{place_in}

-- behind a list the second one goes on
get_right : (xs ys : List ℕ) (k : ℕ) → slice_get (xs ++ ys) (length xs + k) ≡ slice_get ys k
get_right [] ys k = let e : length {A = ℕ} [] + k ≡ k = omega arith in ap (slice_get ys) e
get_right (x ∷ xs) ys k = let e : length (x ∷ xs) + k ≡ suc (length xs + k) = omega arith in ap (slice_get (x ∷ (xs ++ ys))) e ∙ get_right xs ys k

-- the place of a number is from 1 on
place_from_one : (number : ℕ) (xs : List ℕ) → (q : ℕ) × (place_in number xs ≡ suc q)
place_from_one number [] = (0, refl)
place_from_one number (x ∷ xs) = by (eqb x number) refl
  where
    by : (b : Bool) → eqb x number ≡ b → (q : ℕ) × (cond b 1 (suc (place_in number xs)) ≡ suc q)
    by true t = (0, refl)
    by false f = (place_in number xs, refl)

-- what stands in a list stands at its place
pub at_its_place : (number : ℕ) (xs : List ℕ) (k : ℕ) → slice_get xs k ≡ Some number → kth xs (place_in number xs) ≡ Some number
at_its_place number [] k e = cc
at_its_place number (x ∷ xs) k e = by (eqb x number) refl k e (λ k' e'. at_its_place number xs k' e')
  where
    by : (b : Bool) → eqb x number ≡ b → (k : ℕ) → slice_get (x ∷ xs) k ≡ Some number → ((k' : ℕ) → slice_get xs k' ≡ Some number → kth xs (place_in number xs) ≡ Some number) → kth (x ∷ xs) (cond b 1 (suc (place_in number xs))) ≡ Some number
    by true t k e more = ap Some (eqb-true x number t)
    by false f zero e more = let same : x ≡ number = cc in absurd (false≢true (sym f ∙ eq-eqb x number same))
    by false f (suc k) e more =
        let p = place_from_one number xs in
        ap (λ q. slice_get (x ∷ xs) q) p.1 ∙ (ap (kth xs) (sym p.1) ∙ more k e)

module _ {M : Type 0} (test : M → Bool) where
  -- a mail that passes the test and has a copy is among the numbers
  pub among_numbers : (first : ℕ) (sent : List M) (counts : List ℕ) (place : ℕ) (mail : M) → length counts ≡ length sent → slice_get sent place ≡ Some mail → test mail ≡ true → 0 < get_or counts place 0 →
      (k : ℕ) × (slice_get (numbers test first sent counts) k ≡ Some (first + place))
  among_numbers first [] counts place mail lengths at passes some = cc
  among_numbers first (m ∷ sent) [] place mail lengths at passes some = absurd (omega (arith, lengths))
  among_numbers first (m ∷ sent) (zero ∷ counts) zero mail lengths at passes some = absurd (omega (arith, some))
  among_numbers first (m ∷ sent) (suc c ∷ counts) zero mail lengths at passes some =
      let same : m ≡ mail = cc in
      let here : test m ≡ true = ap test same ∙ passes in
      let place : first ≡ first + 0 = omega arith in
      (0, ap (λ b. slice_get (cond b (replicate (suc c) first) [] ++ numbers test (suc first) sent counts) 0) here ∙ ap Some place)
  among_numbers first (m ∷ sent) (c ∷ counts) (suc place) mail lengths at passes some =
      let later = among_numbers (suc first) sent counts place mail (omega (arith, lengths)) at passes some in
      let sum : suc first + place ≡ first + suc place = omega arith in
      let front = cond (test m) (replicate c first) [] in
      (length front + later.0, get_right front (numbers test (suc first) sent counts) later.0 ∙ (later.1 ∙ ap Some sum))

module _ {A M O : Type 0} (s : System A M O) (rows : List (Row M O)) where
  -- a mail under way is pending for its receiver, at the place by which a line names it
  pub pending_at : (number : ℕ) (mail : M) (who : ℕ) → IsUnderWay s rows number mail → s.receiver mail ≡ who → kth (waiting s rows (Some who)) (place_in number (waiting s rows (Some who))) ≡ Some number
  pending_at zero mail who under to_who = let bad : None ≡ Some mail = under.sent in cc
  pending_at (suc place) mail who under to_who =
      let minus : suc place - 1 ≡ place = omega arith in
      let copy : 0 < get_or (copies rows) place 0 = subst (λ p. 0 < get_or (copies rows) p 0) minus under.copy in
      let may : may_get (numbers_of s.births) rows who ≡ true = subst (λ w. may_get (numbers_of s.births) rows w ≡ true) to_who under.may in
      let passes : is_for s.receiver (numbers_of s.births) rows (Some who) mail ≡ true = ap (λ b. b && may_get (numbers_of s.births) rows who) (eq-eqb (s.receiver mail) who to_who) ∙ may in
      let p = among_numbers (is_for s.receiver (numbers_of s.births) rows (Some who)) 1 (mails rows) (copies rows) place mail (counted rows) under.sent passes copy in
      let number : 1 + place ≡ suc place = omega arith in
      at_its_place (suc place) (waiting s rows (Some who)) p.0 (p.1 ∙ ap Some number)
