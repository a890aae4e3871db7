-- Flights, ready commands, waiting calls and open slots with one of them taken out.
use Rattle.std.proofs.Common.{◌≡◌, ℕ, suc, ◌+◌, ◌≤◌, eqb, List, [], ◌∷◌, ◌++◌, length, Option, Some, None, inl, inr, refl, sym, ◌∙◌, ap, arith}
use Rattle.std.specs.Prelude.{slice_get}
use Rattle.std.specs.Option.{option_map}
use Rattle.std.proofs.lemmas.Bool.{cases_Bool, eqb-true, cond-true, cond-false, cond_both}
use Rattle.std.proofs.lemmas.List.{length_push}
use Rattle.sc_node_table.specs.Values.{Command, Flight}
use Rattle.sc_base.specs.Definitions.{Among, Each}
use Rattle.sc_words.specs.paxos.PaxosDefinitions.{without_flight}
use Rattle.sc_node_table.specs.NodeDefinitions.{rest_of, at_slot, without_slot, is_request_of, without_request}

-- what holds of each flight holds with one less
pub Each-without_flight : (P : Flight Command → Type 0) (slot : ℕ) (fs : List (Flight Command)) → Each P fs → Each P (without_flight slot fs)
Each-without_flight P slot [] e = tt
Each-without_flight P slot (f ∷ fs) e = cond_both (eqb f.slot slot) fs (f ∷ without_flight slot fs) (Each P) (λ _. e.1) (λ _. (e.0, Each-without_flight P slot fs e.1))

-- the other flights stay
pub among_without_flight : (slot : ℕ) (fs : List (Flight Command)) (f : Flight Command) → Among f fs → (f.slot ≡ slot → ⊥) → Among f (without_flight slot fs)
among_without_flight slot [] f a ne = absurd a
among_without_flight slot (g ∷ fs) f (inl same) ne =
    cond_both (eqb g.slot slot) fs (g ∷ without_flight slot fs) (Among f) (λ t. absurd (ne (ap (λ (x : Flight Command). x.slot) (sym same) ∙ eqb-true g.slot slot t))) (λ _. inl same)
among_without_flight slot (g ∷ fs) f (inr a) ne =
    cond_both (eqb g.slot slot) fs (g ∷ without_flight slot fs) (Among f) (λ _. a) (λ _. inr (among_without_flight slot fs f a ne))

-- what holds of each value by its slot holds with one less
pub Each-without_slot : (P : ℕ × Command → Type 0) (es : List (ℕ × Command)) (slot : ℕ) → Each P es → Each P (without_slot es slot)
Each-without_slot P [] slot e = tt
Each-without_slot P (x ∷ es) slot e = cond_both (eqb x.0 slot) es (x ∷ without_slot es slot) (Each P) (λ _. e.1) (λ _. (e.0, Each-without_slot P es slot e.1))

-- the other slots stay
pub among_without_slot : (es : List (ℕ × Command)) (slot : ℕ) (x : ℕ × Command) → Among x es → (x.0 ≡ slot → ⊥) → Among x (without_slot es slot)
among_without_slot [] slot x a ne = absurd a
among_without_slot (y ∷ es) slot x (inl same) ne =
    cond_both (eqb y.0 slot) es (y ∷ without_slot es slot) (Among x) (λ t. absurd (ne (ap (λ (p : ℕ × Command). p.0) (sym same) ∙ eqb-true y.0 slot t))) (λ _. inl same)
among_without_slot (y ∷ es) slot x (inr a) ne =
    cond_both (eqb y.0 slot) es (y ∷ without_slot es slot) (Among x) (λ _. a) (λ _. inr (among_without_slot es slot x a ne))

-- the value of a slot is one of them
pub slot_among : (es : List (ℕ × Command)) (slot : ℕ) (c : Command) → at_slot es slot ≡ Some c → Among (slot, c) es
slot_among [] slot c e = cc
slot_among (x ∷ es) slot c e =
    elim (cases_Bool (eqb x.0 slot)) [
      | inl t ↦ (
          let got : Some x.1 ≡ Some c = sym (cond-true (eqb x.0 slot) (Some x.1) (at_slot es slot) t) ∙ e in
          let same : x.1 ≡ c = cc in
          inl (ap (λ n. (n, x.1)) (eqb-true x.0 slot t) ∙ ap (λ d. (slot, d)) same))
      | inr f ↦ inr (slot_among es slot c (sym (cond-false (eqb x.0 slot) (Some x.1) (at_slot es slot) f) ∙ e))
    ]

-- what holds of each call holds with one less
pub Each-without_request : (P : Command → Type 0) (cs : List Command) (client : ℕ) → Each P cs → Each P (without_request cs client)
Each-without_request P [] client e = tt
Each-without_request P (c ∷ cs) client e = cond_both (is_request_of client c) cs (c ∷ without_request cs client) (Each P) (λ _. e.1) (λ _. (e.0, Each-without_request P cs client e.1))

-- one is left out at the start and one put at the end
pub rest_length : {X : Type 0} (xs : List X) (x : X) → 1 ≤ length xs → length (rest_of xs ++ x ∷ []) ≡ length xs
rest_length [] x le = absurd (omega (arith, le))
rest_length (y ∷ xs) x le = (let e = length_push xs x in omega (arith, e))

-- the rest is one less
pub rest_count : {X : Type 0} (xs : List X) → 1 ≤ length xs → length (rest_of xs) + 1 ≡ length xs
rest_count [] le = absurd (omega (arith, le))
rest_count (y ∷ xs) le = omega arith

-- a place of the rest is the next of all
pub rest_get : {X : Type 0} (xs : List X) (k : ℕ) (x : X) → slice_get (rest_of xs) k ≡ Some x → slice_get xs (suc k) ≡ Some x
rest_get [] k x e = cc
rest_get (y ∷ xs) k x e = e

-- a value in flight is that of a flight
pub flying_found : (slot : ℕ) (o : Option (Flight Command)) (c : Command) → option_map (λ (flight : Flight Command). flight.value) o ≡ Some c → (flight : Flight Command) × (o ≡ Some flight) × (flight.value ≡ c)
flying_found slot None c e = cc
flying_found slot (Some f) c e = (f, refl, cc)
