-- The place of what is in flight at a slot.
use Rattle.std.proofs.Common.{◌≡◌, ℕ, suc, ◌+◌, ◌<◌, ◌≤◌, Bool, true, false, not, eqb, ltb, List, [], ◌∷◌, ◌++◌, length, take, drop, set, get_or, Option, Some, None, inl, inr, refl, sym, ◌∙◌, ap, subst, arith}
use Rattle.std.specs.List.{position, position_or_len}
use Rattle.std.proofs.lemmas.Bool.{cases_Bool, cond-true, cond-false, ltb-true, ltb-false, not_from_true, not_from_false}
use Rattle.sc_words.specs.declared.paxos.flights.Flight.{Flight}
use Rattle.sc_words.specs.paxos.PaxosDefinitions.{flight_at, without_flight, with_voters}

-- whether a flight is at a slot
abbrev pub At : {V : Type 0} → ℕ → Flight V → Bool
At slot flight = eqb flight.slot slot

abbrev place : {V : Type 0} → ℕ → List (Flight V) → ℕ
place slot xs = position_or_len (At slot) xs

-- a flight with other voters
abbrev pub changed : {V : Type 0} → Flight V → Option (List ℕ) → Flight V
changed flight voters = record flight { voters = voters }

-- what stands at a place is what is in flight at the slot
pub record IsPlace {V : Type 0} (slot : ℕ) (xs : List (Flight V)) (n : ℕ) : Type 0 where
  -- the slot's flight is what stands there
  pub found : (d : Flight V) → flight_at slot xs ≡ Some (get_or xs n d)
  -- without what stands there, nothing is in flight at the slot
  pub removed : take n xs ++ drop (suc n) xs ≡ without_flight slot xs
  -- other voters there are other voters at the slot
  pub written : (voters : Option (List ℕ)) (d : Flight V) → set xs n (changed (get_or xs n d) voters) ≡ with_voters slot voters xs

here : {V : Type 0} (slot : ℕ) (x : Flight V) (xs : List (Flight V)) → At slot x ≡ true → IsPlace slot (x ∷ xs) 0
here slot x xs t = record {
  found = λ d. cond-true (eqb x.slot slot) (Some x) (flight_at slot xs) t;
  removed = sym (cond-true (eqb x.slot slot) xs (x ∷ without_flight slot xs) t);
  written = λ voters d. sym (cond-true (eqb x.slot slot) (changed x voters ∷ xs) (x ∷ with_voters slot voters xs) t);
}

later : {V : Type 0} (slot : ℕ) (x : Flight V) (xs : List (Flight V)) (n : ℕ) → At slot x ≡ false → IsPlace slot xs n → IsPlace slot (x ∷ xs) (suc n)
later slot x xs n f is = record {
  found = λ d. cond-false (eqb x.slot slot) (Some x) (flight_at slot xs) f ∙ is.found d;
  removed = ap (λ ys. x ∷ ys) is.removed ∙ sym (cond-false (eqb x.slot slot) xs (x ∷ without_flight slot xs) f);
  written = λ voters d. ap (λ ys. x ∷ ys) (is.written voters d) ∙ sym (cond-false (eqb x.slot slot) (changed x voters ∷ xs) (x ∷ with_voters slot voters xs) f);
}

place_here : {V : Type 0} (slot : ℕ) (x : Flight V) (xs : List (Flight V)) → At slot x ≡ true → place slot (x ∷ xs) ≡ 0
place_here slot x xs t = cond-false (not (At slot x)) (1 + place slot xs) 0 (not_from_true (At slot x) t)

place_later : {V : Type 0} (slot : ℕ) (x : Flight V) (xs : List (Flight V)) → At slot x ≡ false → place slot (x ∷ xs) ≡ suc (place slot xs)
place_later slot x xs f = cond-true (not (At slot x)) (1 + place slot xs) 0 (not_from_false (At slot x) f) ∙ (omega arith)

is_place : {V : Type 0} (slot : ℕ) (xs : List (Flight V)) → place slot xs < length xs → IsPlace slot xs (place slot xs)
is_place slot [] lt = absurd (omega arith)
is_place {V} slot (x ∷ xs) lt =
    elim (cases_Bool (At slot x)) [
      | inl t ↦ subst (IsPlace slot (x ∷ xs)) (sym (place_here slot x xs t)) (here slot x xs t)
      | inr f ↦ (
          let e = place_later slot x xs f in
          subst (IsPlace slot (x ∷ xs)) (sym e) (later slot x xs (place slot xs) f (is_place slot xs (omega arith))))
    ]

-- nothing is in flight at the slot
pub record IsNowhere {V : Type 0} (slot : ℕ) (xs : List (Flight V)) : Type 0 where
  pub found : flight_at slot xs ≡ None
  pub removed : xs ≡ without_flight slot xs
  pub written : (voters : Option (List ℕ)) → xs ≡ with_voters slot voters xs

is_nowhere : {V : Type 0} (slot : ℕ) (xs : List (Flight V)) → length xs ≤ place slot xs → IsNowhere slot xs
is_nowhere slot [] le = record { found = refl; removed = refl; written = λ voters. refl }
is_nowhere {V} slot (x ∷ xs) le =
    elim (cases_Bool (At slot x)) [
      | inl t ↦ (let e = place_here slot x xs t in absurd (omega arith))
      | inr f ↦ (
          let e = place_later slot x xs f in
          let rest = is_nowhere slot xs (omega arith) in
          record {
            found = cond-false (eqb x.slot slot) (Some x) (flight_at slot xs) f ∙ rest.found;
            removed = ap (λ ys. x ∷ ys) rest.removed ∙ sym (cond-false (eqb x.slot slot) xs (x ∷ without_flight slot xs) f);
            written = λ voters. ap (λ ys. x ∷ ys) (rest.written voters) ∙ sym (cond-false (eqb x.slot slot) (changed x voters ∷ xs) (x ∷ with_voters slot voters xs) f);
          })
    ]

-- where a flight is found there is one at the slot
pub at_place : {V : Type 0} (slot : ℕ) (xs : List (Flight V)) (n : ℕ) → position (At slot) xs ≡ Some n → IsPlace slot xs n
at_place slot xs n e =
    elim (cases_Bool (ltb (place slot xs) (length xs))) [
      | inl t ↦ (
          let same : Some (place slot xs) ≡ Some n = sym (cond-true (ltb (place slot xs) (length xs)) (Some (place slot xs)) None t) ∙ e in
          let is : place slot xs ≡ n = cc in
          subst (IsPlace slot xs) is (is_place slot xs (ltb-true (place slot xs) (length xs) t)))
      | inr f ↦ (let other = sym (cond-false (ltb (place slot xs) (length xs)) (Some (place slot xs)) None f) ∙ e in cc)
    ]

-- where none is found there is none at the slot
pub at_none : {V : Type 0} (slot : ℕ) (xs : List (Flight V)) → position (At slot) xs ≡ None → IsNowhere slot xs
at_none slot xs e =
    elim (cases_Bool (ltb (place slot xs) (length xs))) [
      | inl t ↦ (let other = sym (cond-true (ltb (place slot xs) (length xs)) (Some (place slot xs)) None t) ∙ e in cc)
      | inr f ↦ is_nowhere slot xs (ltb-false (place slot xs) (length xs) f)
    ]
