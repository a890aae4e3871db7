-- What is in flight or ready at a slot, where one slot changes.
use Rattle.std.proofs.Common.{◌≡◌, ℕ, eqb, ltb, Bool, true, false, cond, List, [], ◌∷◌, Option, Some, None, refl, sym, ◌∙◌, ap}
use Rattle.std.specs.Option.{option_map}
use Rattle.std.proofs.lemmas.Bool.{ne_eqb, eq-eqb, eqb-true}
use Rattle.sc_node_table.specs.Values.{Command, Flight}
use Rattle.sc_words.specs.paxos.PaxosDefinitions.{flight_at, without_flight, with_voters}
use Rattle.sc_node_table.specs.NodeDefinitions.{at_slot, with_slot, without_slot}

-- ---- a slot that is over

pub flight_out : (slot other : ℕ) (fs : List (Flight Command)) → (other ≡ slot → ⊥) → flight_at other (without_flight slot fs) ≡ flight_at other fs
flight_out slot other [] ne = refl
flight_out slot other (f ∷ fs) ne = by (eqb f.slot slot) refl (flight_out slot other fs ne)
  where
    by : (b : Bool) → eqb f.slot slot ≡ b → flight_at other (without_flight slot fs) ≡ flight_at other fs → flight_at other (cond b fs (f ∷ without_flight slot fs)) ≡ cond (eqb f.slot other) (Some f) (flight_at other fs)
    by true t rest = sym (ap (λ b. cond b (Some f) (flight_at other fs)) (ne_eqb f.slot other (λ e. ne (sym e ∙ eqb-true f.slot slot t))))
    by false t rest = ap (λ o. cond (eqb f.slot other) (Some f) o) rest

pub slot_out : (slot other : ℕ) (es : List (ℕ × Command)) → (other ≡ slot → ⊥) → at_slot (without_slot es slot) other ≡ at_slot es other
slot_out slot other [] ne = refl
slot_out slot other (e ∷ es) ne = by (eqb e.0 slot) refl (slot_out slot other es ne)
  where
    by : (b : Bool) → eqb e.0 slot ≡ b → at_slot (without_slot es slot) other ≡ at_slot es other → at_slot (cond b es (e ∷ without_slot es slot)) other ≡ cond (eqb e.0 other) (Some e.1) (at_slot es other)
    by true t rest = sym (ap (λ b. cond b (Some e.1) (at_slot es other)) (ne_eqb e.0 other (λ fact. ne (sym fact ∙ eqb-true e.0 slot t))))
    by false t rest = ap (λ o. cond (eqb e.0 other) (Some e.1) o) rest

-- ---- a slot that becomes ready

pub slot_in : (slot : ℕ) (command : Command) (es : List (ℕ × Command)) → at_slot (with_slot es slot command) slot ≡ Some command
slot_in slot command [] = ap (λ b. cond b (Some command) None) (eq-eqb slot slot refl)
slot_in slot command (e ∷ es) = by (eqb e.0 slot) refl (ltb slot e.0) (slot_in slot command es)
  where
    here : (l : List (ℕ × Command)) → at_slot ((slot, command) ∷ l) slot ≡ Some command
    here l = ap (λ b. cond b (Some command) (at_slot l slot)) (eq-eqb slot slot refl)

    by : (b : Bool) → eqb e.0 slot ≡ b → (c : Bool) → at_slot (with_slot es slot command) slot ≡ Some command
        → at_slot (cond b ((slot, command) ∷ es) (cond c ((slot, command) ∷ e ∷ es) (e ∷ with_slot es slot command))) slot ≡ Some command
    by true t c rest = here es
    by false f true rest = here (e ∷ es)
    by false f false rest = ap (λ b. cond b (Some e.1) (at_slot (with_slot es slot command) slot)) f ∙ rest

pub slot_over : (slot other : ℕ) (command : Command) (es : List (ℕ × Command)) → (other ≡ slot → ⊥) → at_slot (with_slot es slot command) other ≡ at_slot es other
slot_over slot other command [] ne = ap (λ b. cond b (Some command) None) (ne_eqb slot other (λ e. ne (sym e)))
slot_over slot other command (e ∷ es) ne = by (eqb e.0 slot) refl (ltb slot e.0) (slot_over slot other command es ne)
  where
    past : (l : List (ℕ × Command)) → at_slot ((slot, command) ∷ l) other ≡ at_slot l other
    past l = ap (λ b. cond b (Some command) (at_slot l other)) (ne_eqb slot other (λ fact. ne (sym fact)))

    by : (b : Bool) → eqb e.0 slot ≡ b → (c : Bool) → at_slot (with_slot es slot command) other ≡ at_slot es other
        → at_slot (cond b ((slot, command) ∷ es) (cond c ((slot, command) ∷ e ∷ es) (e ∷ with_slot es slot command))) other ≡ cond (eqb e.0 other) (Some e.1) (at_slot es other)
    by true t c rest = past es ∙ sym (ap (λ b. cond b (Some e.1) (at_slot es other)) (ne_eqb e.0 other (λ fact. ne (sym fact ∙ eqb-true e.0 slot t))))
    by false f true rest = past (e ∷ es)
    by false f false rest = ap (λ o. cond (eqb e.0 other) (Some e.1) o) rest

-- ---- a slot at which others voted

pub polled_here : (slot : ℕ) (voters : Option (List ℕ)) (fs : List (Flight Command)) → flight_at slot (with_voters slot voters fs) ≡ option_map (λ (f : Flight Command). record f { voters = voters }) (flight_at slot fs)
polled_here slot voters [] = refl
polled_here slot voters (f ∷ fs) = by (eqb f.slot slot) refl (polled_here slot voters fs)
  where
    new : Flight Command
    new = record f { voters = voters }

    by : (b : Bool) → eqb f.slot slot ≡ b → flight_at slot (with_voters slot voters fs) ≡ option_map (λ (g : Flight Command). record g { voters = voters }) (flight_at slot fs)
        → flight_at slot (cond b (new ∷ fs) (f ∷ with_voters slot voters fs)) ≡ option_map (λ (g : Flight Command). record g { voters = voters }) (cond b (Some f) (flight_at slot fs))
    by true t rest = ap (λ b. cond b (Some new) (flight_at slot fs)) t
    by false t rest = ap (λ b. cond b (Some f) (flight_at slot (with_voters slot voters fs))) t ∙ rest

pub polled_out : (slot other : ℕ) (voters : Option (List ℕ)) (fs : List (Flight Command)) → (other ≡ slot → ⊥) → flight_at other (with_voters slot voters fs) ≡ flight_at other fs
polled_out slot other voters [] ne = refl
polled_out slot other voters (f ∷ fs) ne = by (eqb f.slot slot) refl (polled_out slot other voters fs ne)
  where
    new : Flight Command
    new = record f { voters = voters }

    by : (b : Bool) → eqb f.slot slot ≡ b → flight_at other (with_voters slot voters fs) ≡ flight_at other fs → flight_at other (cond b (new ∷ fs) (f ∷ with_voters slot voters fs)) ≡ cond (eqb f.slot other) (Some f) (flight_at other fs)
    by true t rest = (let past = ne_eqb f.slot other (λ e. ne (sym e ∙ eqb-true f.slot slot t)) in ap (λ b. cond b (Some new) (flight_at other fs)) past ∙ sym (ap (λ b. cond b (Some f) (flight_at other fs)) past))
    by false t rest = ap (λ o. cond (eqb f.slot other) (Some f) o) rest
