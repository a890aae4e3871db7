-- Sums over seats of which one changes.
use Rattle.std.proofs.Common.{◌≡◌, ℕ, ◌+◌, List, [], ◌∷◌, Bool, true, false, true≢false, cond, eqb, eq-eqb, not, find, refl, sym, ◌∙◌, ap, arith, Some, inl, inr, sum_by}
use Rattle.std.specs.List.{list_any}
use Rattle.std.proofs.lemmas.Bool.{eqb-true, and_parts, or_parts, not-true}
use Rattle.std.proofs.lemmas.List.Sums.{sum_by-cons}
use Rattle.sc_base.specs.Definitions.{Among}
use Rattle.sc_actor.specs.declared.actors.Seat.{Seat}
use Rattle.sc_actor.specs.Definitions.{are_apart}

module _ {A : Type 0} (f g : Seat A → ℕ) (who : ℕ) (others : (seat : Seat A) → eqb who seat.who ≡ false → g seat ≡ f seat) where
  flip : (a b : ℕ) → eqb a b ≡ false → eqb b a ≡ false
  flip a b e = by (eqb b a) refl
    where
      by : (x : Bool) → eqb b a ≡ x → eqb b a ≡ false
      by false e' = e'
      by true e' = absurd (true≢false (sym (eq-eqb a b (sym (eqb-true b a e'))) ∙ e))

  -- a sum over seats of which none has this number
  none_changes : (seats : List (Seat A)) → list_any (λ other. eqb other.who who) seats ≡ false → sum_by g seats ≡ sum_by f seats
  none_changes [] e = refl
  none_changes (seat ∷ seats) e =
      let parts = or_parts (eqb seat.who who) (list_any (λ other. eqb other.who who) seats) e in
      let rec = none_changes seats parts.1 in
      let here = others seat (flip seat.who who parts.0) in
      let a = sum_by-cons f seat seats in
      let b = sum_by-cons g seat seats in
      omega (arith, rec, here, a, b)

  -- a sum over seats that are apart changes by what one of them does
  pub one_changes : (seats : List (Seat A)) (seat : Seat A) → are_apart seats ≡ true → find (λ other. eqb other.who who) seats ≡ Some seat → sum_by g seats + f seat ≡ sum_by f seats + g seat
  one_changes [] seat apart e = cc
  one_changes (s ∷ seats) seat apart e = by (eqb s.who who) refl (one_changes seats seat) e
    where
      by : (b : Bool) → eqb s.who who ≡ b → (are_apart seats ≡ true → find (λ other. eqb other.who who) seats ≡ Some seat → sum_by g seats + f seat ≡ sum_by f seats + g seat) → cond b (Some s) (find (λ other. eqb other.who who) seats) ≡ Some seat → sum_by g (s ∷ seats) + f seat ≡ sum_by f (s ∷ seats) + g seat
      by true fact more found =
          let to : s.who ≡ who = eqb-true s.who who fact in
          let alone : list_any (λ other. eqb other.who who) seats ≡ false =
          ap (λ n. list_any (λ other. eqb other.who n) seats) (sym to) ∙ not-true (list_any (λ other. eqb other.who s.who) seats) (and_parts (not (list_any (λ other. eqb other.who s.who) seats)) (are_apart seats) apart).0 in
          let rest = none_changes seats alone in
          let same : s ≡ seat = cc in
          let a = sum_by-cons f s seats in
          let b = sum_by-cons g s seats in
          omega (arith, rest, a, b, ap f same, ap g same)
      by false fact more found =
          let rec = more (and_parts (not (list_any (λ other. eqb other.who s.who) seats)) (are_apart seats) apart).1 found in
          let here = others s (flip s.who who fact) in
          let a = sum_by-cons f s seats in
          let b = sum_by-cons g s seats in
          omega (arith, rec, here, a, b)

-- a seat among seats that are apart is found by its number
pub seat_found : {A : Type 0} (seats : List (Seat A)) (seat : Seat A) → are_apart seats ≡ true → Among seat seats → find (λ other. eqb other.who seat.who) seats ≡ Some seat
seat_found [] seat apart a = absurd a
seat_found {A} (s ∷ seats) seat apart (inl same) = ap (λ b. cond b (Some s) (find (λ other. eqb other.who seat.who) seats)) (eq-eqb s.who seat.who (ap (λ (x : Seat A). x.who) same)) ∙ ap Some same
seat_found {A} (s ∷ seats) seat apart (inr a) = by (eqb s.who seat.who) refl (seat_found seats seat (and_parts (not (list_any (λ other. eqb other.who s.who) seats)) (are_apart seats) apart).1 a)
  where
    none_there : (seats : List (Seat A)) → Among seat seats → list_any (λ other. eqb other.who s.who) seats ≡ false → s.who ≡ seat.who → ⊥
    none_there [] a none e = a
    none_there (x ∷ seats) (inl same) none e = true≢false (sym (eq-eqb x.who s.who (ap (λ (y : Seat A). y.who) same ∙ sym e)) ∙ (or_parts (eqb x.who s.who) (list_any (λ other. eqb other.who s.who) seats) none).0)
    none_there (x ∷ seats) (inr b) none e = none_there seats b (or_parts (eqb x.who s.who) (list_any (λ other. eqb other.who s.who) seats) none).1 e

    by : (b : Bool) → eqb s.who seat.who ≡ b → find (λ other. eqb other.who seat.who) seats ≡ Some seat → cond b (Some s) (find (λ other. eqb other.who seat.who) seats) ≡ Some seat
    by false e more = more
    by true e more =
        absurd (none_there seats a (not-true (list_any (λ other. eqb other.who s.who) seats) (and_parts (not (list_any (λ other. eqb other.who s.who) seats)) (are_apart seats) apart).0) (eqb-true s.who seat.who e))
