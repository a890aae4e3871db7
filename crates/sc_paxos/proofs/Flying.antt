-- At most one flight a slot.
use Rattle.std.proofs.Common.{◌≡◌, ◌≢◌, ℕ, eqb, List, [], ◌∷◌, ◌++◌, Option, Some, None, inl, inr, refl, sym, ◌∙◌, ap, subst}
use Rattle.std.proofs.lemmas.Bool.{cases_Bool, cond-true, cond-false, eqb-true, eqb-false, ne_eqb}
use Rattle.sc_words.specs.declared.paxos.flights.Flight.{Flight}
use Rattle.sc_base.specs.Definitions.{Each}
use Rattle.sc_words.specs.paxos.PaxosDefinitions.{flight_at, without_flight, with_voters}
use Rattle.sc_words.proofs.PaxosProofs.PaxosLemmas.{Each-append}
use Rattle.sc_paxos.specs.PaxosDefinitions.{IsOneEach}
use Rattle.sc_paxos.proofs.Places.{changed}

abbrev Other : {V : Type 0} → ℕ → Flight V → Type 0
Other slot f = f.slot ≢ slot

none_there : {V : Type 0} (slot : ℕ) (fs : List (Flight V)) → flight_at slot fs ≡ None → Each (Other slot) fs
none_there slot [] e = tt
none_there slot (f ∷ fs) e =
    elim (cases_Bool (eqb f.slot slot)) [
      | inl t ↦ (let other = sym (cond-true (eqb f.slot slot) (Some f) (flight_at slot fs) t) ∙ e in cc)
      | inr n ↦ (eqb-false f.slot slot n, none_there slot fs (sym (cond-false (eqb f.slot slot) (Some f) (flight_at slot fs) n) ∙ e))
    ]

nothing_there : {V : Type 0} (slot : ℕ) (fs : List (Flight V)) → Each (Other slot) fs → flight_at slot fs ≡ None
nothing_there slot [] e = refl
nothing_there slot (f ∷ fs) e = cond-false (eqb f.slot slot) (Some f) (flight_at slot fs) (ne_eqb f.slot slot e.0) ∙ nothing_there slot fs e.1

put_last : {V : Type 0} (slot : ℕ) (fs : List (Flight V)) (new : Flight V) → new.slot ≡ slot → Each (Other slot) fs → IsOneEach fs → IsOneEach (fs ++ new ∷ [])
put_last slot [] new same other is = (tt, tt)
put_last slot (f ∷ fs) new same other is =
    (Each-append (Other f.slot) fs (new ∷ []) is.0 ((λ e. other.0 (sym e ∙ same)), tt), put_last slot fs new same other.1 is.1)

-- one more flight at a free slot
pub one_with : {V : Type 0} (fs : List (Flight V)) (new : Flight V) → flight_at new.slot fs ≡ None → IsOneEach fs → IsOneEach (fs ++ new ∷ [])
one_with fs new free is = put_last new.slot fs new refl (none_there new.slot fs free) is

others_stay : {V : Type 0} (a slot : ℕ) (fs : List (Flight V)) → Each (Other a) fs → Each (Other a) (without_flight slot fs)
others_stay a slot [] e = tt
others_stay a slot (f ∷ fs) e =
    elim (cases_Bool (eqb f.slot slot)) [
      | inl t ↦ subst (Each (Other a)) (sym (cond-true (eqb f.slot slot) fs (f ∷ without_flight slot fs) t)) e.1
      | inr n ↦ subst (Each (Other a)) (sym (cond-false (eqb f.slot slot) fs (f ∷ without_flight slot fs) n)) (e.0, others_stay a slot fs e.1)
    ]

-- without the flight of a slot
pub one_without : {V : Type 0} (slot : ℕ) (fs : List (Flight V)) → IsOneEach fs → IsOneEach (without_flight slot fs)
one_without slot [] is = tt
one_without slot (f ∷ fs) is =
    elim (cases_Bool (eqb f.slot slot)) [
      | inl t ↦ subst IsOneEach (sym (cond-true (eqb f.slot slot) fs (f ∷ without_flight slot fs) t)) is.1
      | inr n ↦ subst IsOneEach (sym (cond-false (eqb f.slot slot) fs (f ∷ without_flight slot fs) n)) (others_stay f.slot slot fs is.0, one_without slot fs is.1)
    ]

-- without the flight of a slot nothing is in flight there
pub gone : {V : Type 0} (slot : ℕ) (fs : List (Flight V)) → IsOneEach fs → flight_at slot (without_flight slot fs) ≡ None
gone slot [] is = refl
gone slot (f ∷ fs) is =
    elim (cases_Bool (eqb f.slot slot)) [
      | inl t ↦ ap (flight_at slot) (cond-true (eqb f.slot slot) fs (f ∷ without_flight slot fs) t)
          ∙ nothing_there slot fs (subst (λ a. Each (Other a) fs) (eqb-true f.slot slot t) is.0)
      | inr n ↦ ap (flight_at slot) (cond-false (eqb f.slot slot) fs (f ∷ without_flight slot fs) n)
          ∙ cond-false (eqb f.slot slot) (Some f) (flight_at slot (without_flight slot fs)) n ∙ gone slot fs is.1
    ]

others_written : {V : Type 0} (a slot : ℕ) (voters : Option (List ℕ)) (fs : List (Flight V)) → Each (Other a) fs → Each (Other a) (with_voters slot voters fs)
others_written a slot voters [] e = tt
others_written a slot voters (f ∷ fs) e =
    elim (cases_Bool (eqb f.slot slot)) [
      | inl t ↦ subst (Each (Other a)) (sym (cond-true (eqb f.slot slot) (changed f voters ∷ fs) (f ∷ with_voters slot voters fs) t)) (e.0, e.1)
      | inr n ↦ subst (Each (Other a)) (sym (cond-false (eqb f.slot slot) (changed f voters ∷ fs) (f ∷ with_voters slot voters fs) n)) (e.0, others_written a slot voters fs e.1)
    ]

-- with other voters at a slot
pub one_written : {V : Type 0} (slot : ℕ) (voters : Option (List ℕ)) (fs : List (Flight V)) → IsOneEach fs → IsOneEach (with_voters slot voters fs)
one_written slot voters [] is = tt
one_written slot voters (f ∷ fs) is =
    elim (cases_Bool (eqb f.slot slot)) [
      | inl t ↦ subst IsOneEach (sym (cond-true (eqb f.slot slot) (changed f voters ∷ fs) (f ∷ with_voters slot voters fs) t)) (is.0, is.1)
      | inr n ↦ subst IsOneEach (sym (cond-false (eqb f.slot slot) (changed f voters ∷ fs) (f ∷ with_voters slot voters fs) n)) (others_written f.slot slot voters fs is.0, one_written slot voters fs is.1)
    ]
