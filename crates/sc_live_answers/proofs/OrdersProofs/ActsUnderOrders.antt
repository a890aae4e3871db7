-- An act that is in flight or ready at the leader of a group is work of the order that is under way: something is to come to it.
use Rattle.std.proofs.Common.{◌≡◌, ℕ, eqb, true, true≢false, List, [], ◌∷◌, ◌++◌, Option, Some, None, inl, inr, refl, sym, ◌∙◌, ap}
use Rattle.std.specs.Option.{option_map}
use Rattle.std.proofs.lemmas.Bool.{cases_Bool, cond-true, cond-false}
use Rattle.sc_base.specs.Definitions.{Among}
use Rattle.sc_node_table.specs.Values.{Command, Noop, Call, Flight}
use Rattle.sc_words.specs.paxos.PaxosDefinitions.{flight_at}
use Rattle.sc_words.proofs.PaxosProofs.PaxosLemmas.{find_found}
use Rattle.sc_node_table.specs.NodeDefinitions.{is_act, ReplicaState, listed, at_slot}
use Rattle.sc_live_steps.specs.orders.OrderDefinitions.{work_by, works_in, works_flying, works_ready, works, Work}
use Rattle.sc_live_steps.proofs.OrderStepsProofs.OrderStepLemmas.{among-left, among-right}
use Rattle.sc_live_answers.proofs.LedGroupsProofs.JoiningMembers.{HasAct}

abbrev IsWork : Command → Type 0
IsWork command = (work : Work) × (work_by command ≡ Some work)

act_works : (command : Command) → is_act command ≡ true → IsWork command
act_works Noop e = absurd (true≢false (sym e))
act_works (Call client seq op) e = absurd (true≢false (sym e))
act_works _ e = (_, refl)

listed_among : (work : Work) (o : Option Work) → o ≡ Some work → Among work (listed o)
listed_among work None e = cc
listed_among work (Some other) e = inl cc

flight_among : (work : Work) (flights : List (Flight Command)) (flight : Flight Command) → Among flight flights → work_by flight.value ≡ Some work → Among work (works_flying flights)
flight_among work [] flight fact e = absurd fact
flight_among work (first ∷ flights) flight (inl same) e = among-left work (listed (work_by first.value)) (works_flying flights) (listed_among work (work_by first.value) (ap (λ (f : Flight Command). work_by f.value) same ∙ e))
flight_among work (first ∷ flights) flight (inr more) e = among-right work (listed (work_by first.value)) (works_flying flights) (flight_among work flights flight more e)

abbrev Flies : Command → Option (Flight Command) → Type 0
Flies command o = (flight : Flight Command) × (o ≡ Some flight) × (flight.value ≡ command)

flies : (command : Command) (o : Option (Flight Command)) → option_map (λ (flight : Flight Command). flight.value) o ≡ Some command → Flies command o
flies command None e = cc
flies command (Some flight) e = (flight, refl, cc)

ready_among : (work : Work) (command : Command) (slot : ℕ) (ready : List (ℕ × Command)) → at_slot ready slot ≡ Some command → work_by command ≡ Some work → Among work (works_ready ready)
ready_among work command slot [] e fact = cc
ready_among work command slot (entry ∷ ready) e fact = elim (cases_Bool (eqb entry.0 slot)) [
  | inl t ↦ (let some : Some entry.1 ≡ Some command = sym (cond-true (eqb entry.0 slot) (Some entry.1) (at_slot ready slot) t) ∙ e in let same : entry.1 ≡ command = cc in
      among-left work (listed (work_by entry.1)) (works_ready ready) (listed_among work (work_by entry.1) (ap work_by same ∙ fact)))
  | inr f ↦ among-right work (listed (work_by entry.1)) (works_ready ready) (ready_among work command slot ready (sym (cond-false (eqb entry.0 slot) (Some entry.1) (at_slot ready slot) f) ∙ e) fact)
]

-- an act is work
pub has_work : (r : ReplicaState) → HasAct r → (work : Work) × Among work (works r)
has_work r (slot, command, low, inl flew, act) =
    let w = act_works command act in
    let f = flies command (flight_at slot r.leader.flights) flew in
    let there = flight_among w.0 r.leader.flights f.0 (find_found (λ (flight : Flight Command). eqb flight.slot slot) r.leader.flights f.0 f.1).0 (ap work_by f.2 ∙ w.1) in
    (w.0, among-right w.0 (works_in r.acts) (works_in r.backlog ++ (works_flying r.leader.flights ++ works_ready r.ready)) (among-right w.0 (works_in r.backlog) (works_flying r.leader.flights ++ works_ready r.ready) (among-left w.0 (works_flying r.leader.flights) (works_ready r.ready) there)))
has_work r (slot, command, low, inr ready, act) =
    let w = act_works command act in
    let there = ready_among w.0 command slot r.ready ready w.1 in
    (w.0, among-right w.0 (works_in r.acts) (works_in r.backlog ++ (works_flying r.leader.flights ++ works_ready r.ready)) (among-right w.0 (works_in r.backlog) (works_flying r.leader.flights ++ works_ready r.ready) (among-right w.0 (works_flying r.leader.flights) (works_ready r.ready) there)))
