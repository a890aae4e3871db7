-- A leader at which one entry is in flight, alone: a vote lowers what is owed.
use Rattle.std.proofs.Common.{◌≡◌, ℕ, eqb, Bool, true, false, cond, List, [], ◌∷◌, Option, Some, None, sym, ◌∙◌, ap, subst}
use Rattle.std.proofs.lemmas.Bool.{cond-true, eq-eqb}
use Rattle.sc_node_table.specs.Values.{Command, Flight}
use Rattle.sc_words.specs.paxos.PaxosDefinitions.{flight_at}
use Rattle.sc_node_table.specs.NodeDefinitions.{Place, next, with_slot, without_slot}
use Rattle.sc_live_steps.specs.calm.CalmDefinitions.{AreBounded, FliesAlone, readied_at, MayPump, ExecutesFreely, DecidesFreely, Ways}
use Rattle.sc_live_steps.proofs.CalmStepsProofs.PaidEntries.{execution_owes, lone_paid}

-- the one that flies is found
only_flight : (slot : ℕ) (flight other : Flight Command) → flight_at slot (flight ∷ []) ≡ Some other → flight ≡ other
only_flight slot flight other e = by (eqb flight.slot slot) e
  where
    by : (b : Bool) → ◌≡◌ {A = Option (Flight Command)} (cond b (Some flight) None) (Some other) → flight ≡ other
    by true fact = cc
    by false fact = cc

-- nothing is ready behind one that becomes ready alone
none_behind : (slot at : ℕ) (command : Command) → slot ≡ at → without_slot (with_slot [] slot command) at ≡ []
none_behind slot at command e = cond-true (eqb slot at) [] ((slot, command) ∷ []) (eq-eqb slot at e)

pub lone_decides : (ways : Ways) (slot : ℕ) (flight : Flight Command) (place : Place) → AreBounded ways → FliesAlone slot flight place.0 → DecidesFreely ways slot place
lone_decides ways slot flight (r, mails) bounded alone = λ other runs room here e.
    (let same : flight ≡ other = only_flight slot flight other (ap (flight_at slot) (sym alone.flights) ∙ e) in
    let may : MayPump (readied_at slot flight.value r) = record { unbound = alone.may.unbound; few = alone.may.few } in
    let none : without_slot (with_slot r.ready slot flight.value) (next r) ≡ [] = ap (λ (es : List (ℕ × Command)). without_slot (with_slot es slot flight.value) (next r)) alone.ready ∙ none_behind slot (next r) flight.value here in
    let all = lone_paid flight.value (readied_at slot flight.value r, mails) (alone.paid here) none may (alone.leaves here) in
    let le = execution_owes ways flight.value (readied_at slot flight.value r, mails) bounded all in
    subst (λ (x : Flight Command). ExecutesFreely ways x.value (readied_at slot x.value r, mails)) same le)
