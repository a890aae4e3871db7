-- What calls leave of a replica as they are executed and offered: what it saw and promised, and what it leads with but for its flights.
use Rattle.sc_live_steps.proofs.CalmStepsProofs.PumpInvariants.{pump_kept, frame as frame_of}
use Rattle.std.proofs.Common.{◌≡◌, ℕ, ◌&&◌, eqb, true, List, [], ◌∷◌, ◌++◌, length, Option, Some, None, refl, sym, ◌∙◌, ap, subst}
use Rattle.std.proofs.lemmas.Bool.{cond_both, eqb-true, and_parts}
use Rattle.std.specs.Prelude.{nat_le}
use Rattle.sc_base.specs.Definitions.{Among, Each, same_ballot, is_majority, is_member}
use Rattle.sc_node_table.specs.Values.{Ballot, Op, Command, Call, Core, AnswerBody, Mail, Counted, Chosen, NotYet, Flight, Report}
use Rattle.sc_words.specs.paxos.PaxosDefinitions.{LeaderState, flight_at, without_flight_at, kept_voters, voters_after, with_voters, vote_at}
use Rattle.sc_words.proofs.PaxosProofs.PaxosLemmas.{Each-among, find_found, from_filter}
use Rattle.sc_group_table.specs.machine.MachineDefinitions.{applied}
use Rattle.sc_node_table.specs.NodeDefinitions.{entered, executed_one, has_room, next_ready, executed, pumped, queued_number, without_request, ReplicaState, Place, Executed, childless, next, set_at, forgotten, queued, requested, refused_at, request_row, at_slot, with_slot, without_slot, leads, readied, vote_tallied, voted, accepted_row}
use Rattle.sc_law_walks.proofs.WalkLemmas.{cleared, executed_place, either_way}
use Rattle.sc_live_plain.specs.PlainDefinitions.{Frame, IsFrame, Requests, IsPlainCommand, IsPlainCall, IsPlainFlight, IsPlainGroup}
use Rattle.sc_live_plain.proofs.PlainLemmas.{at_found, out_each, with_each, recorded_after, counted_call, call_is, IsServed, call_plain, entered_frame}
use Rattle.sc_live_steps.proofs.FollowingProofs.FollowingLemmas.{entered_keeps}

-- ---- what a pump leaves

-- a request leaves the other parts of a replica
pub request_kept : (client seq : ℕ) (op : Op) (r : ReplicaState) (mails : List Mail) → frame_of (request_row client seq op (r, mails)).0 ≡ frame_of r
unfolding request_row requested queued
request_kept client seq op r mails = answered (refused_at r.group.core.gone op r)
  where
    waits : (o : Option ℕ) → frame_of (queued o client seq op (r, mails)).0 ≡ frame_of r
    waits None = pump_kept (record r { backlog = r.backlog ++ Call client seq op ∷ [] }, mails)
    waits (Some other) =
        either_way (λ (p : Place). frame_of p.0 ≡ frame_of r) (nat_le seq other) (r, mails) (pumped (record r { backlog = without_request r.backlog client ++ Call client seq op ∷ [] }, mails)) refl
        (pump_kept (record r { backlog = without_request r.backlog client ++ Call client seq op ∷ [] }, mails))

    answered : (o : Option AnswerBody) → frame_of (requested o client seq op (r, mails)).0 ≡ frame_of r
    answered (Some answer) = refl
    answered None = waits (queued_number r.backlog client)

-- ---- what a replica saw, promised and leads with

-- what a leader knows but for its flights
abbrev pub knows : LeaderState Command → LeaderState Command
knows leader = record leader { flights = [] }

-- it stays, and nothing new is accepted
pub record Leaves (r after : ReplicaState) : Type 0 where
  pub top : after.top ≡ r.top
  pub promised : after.acceptor.promised ≡ r.acceptor.promised
  pub leader : knows after.leader ≡ knows r.leader
  pub accepted : (report : Report Command) → Among report after.acceptor.accepted → Among report r.acceptor.accepted

pub leaves_itself : (r : ReplicaState) → Leaves r r
leaves_itself r = record { top = refl; promised = refl; leader = refl; accepted = λ report a. a }

pub leaves_bare : (r after : ReplicaState) → frame_of after ≡ frame_of r → Leaves r after
leaves_bare r after e =
    let l : Leaves r (frame_of after) = subst (Leaves r) (sym e) (record { top = refl; promised = refl; leader = refl; accepted = λ report a. a }) in
    record { top = l.top; promised = l.promised; leader = l.leader; accepted = l.accepted }

-- an entry that is executed leaves it
pub leaves_entry : (first r : ReplicaState) (mails : List Mail) (command : Command) → Leaves first r → Leaves first (cleared (next r) (entered command r, mails)).0
unfolding entered forgotten
leaves_entry first r mails command l = record {
  top = l.top;
  promised = l.promised;
  leader = l.leader;
  accepted = λ report a. l.accepted report (from_filter _ r.acceptor.accepted report a).0;
}

-- ---- a vote

-- a replica with the value of a flight chosen
abbrev pub with_chosen : ℕ → Flight Command → ReplicaState → ReplicaState
with_chosen slot flight r = record r { leader = without_flight_at slot r.leader; ready = with_slot r.ready slot flight.value }

-- a vote is noted, or the value of its flight is chosen, and is executed at once if it is next
module _ (F : Place → Type 0) (r : ReplicaState) (from : ℕ) (ballot : Ballot) (slot : ℕ) (stays : F (r, [])) (noted : (voters : Option (List ℕ)) → F (record r { leader = record r.leader { flights = with_voters slot voters r.leader.flights } }, []))
    (chosen : (flight : Flight Command) → flight_at slot r.leader.flights ≡ Some flight → F (with_chosen slot flight r, []))
    (executes : (flight : Flight Command) → flight_at slot r.leader.flights ≡ Some flight → slot ≡ next r → F (executed true flight.value (with_chosen slot flight r, [])).0) where
  abbrev FAfter : Executed → Type 0
  FAfter step = F step.0

  readies : (flight : Flight Command) → flight_at slot r.leader.flights ≡ Some flight → F (readied slot flight.value (record r { leader = without_flight_at slot r.leader }, [])).0
  unfolding readied
  readies flight e =
      cond_both (eqb slot (next r) && has_room (with_chosen slot flight r)) (executed true flight.value (with_chosen slot flight r, [])) (childless (with_chosen slot flight r, [])) FAfter
      (λ t. executes flight e (eqb-true slot (next r) (and_parts (eqb slot (next r)) (has_room (with_chosen slot flight r)) t).0)) (λ _. chosen flight e)

  tallies : (set : List ℕ) (o : Option (Flight Command)) → flight_at slot r.leader.flights ≡ o → F (vote_tallied slot (vote_at from slot set o r.leader) (r, [])).0
  tallies set None e = stays
  tallies set (Some flight) e =
      let voters : Option (List ℕ) = voters_after set from flight.voters in
      either_way (λ (x : Counted Command × LeaderState Command). F (vote_tallied slot x (r, [])).0) (is_majority set (kept_voters voters)) (Chosen flight.value, without_flight_at slot r.leader)
      (NotYet (length (kept_voters voters)), record r.leader { flights = with_voters slot voters r.leader.flights }) (readies flight e) (noted voters)

  votes : (o : Option (List ℕ)) → F (voted from ballot slot o (r, [])).0
  votes None = stays
  votes (Some set) =
      either_way (λ (x : Counted Command × LeaderState Command). F (vote_tallied slot x (r, [])).0) (same_ballot ballot r.leader.ballot) (vote_at from slot set (flight_at slot r.leader.flights) r.leader) (NotYet 0, r.leader)
      (tallies set (flight_at slot r.leader.flights) refl) stays

  pub vote_row : F (accepted_row from ballot slot (r, [])).0
  unfolding accepted_row
  vote_row = either_way FAfter (leads ballot r) (voted from ballot slot (set_at slot r) (r, [])) (childless (r, [])) (votes (set_at slot r)) stays

-- ---- a leader that executes calls

module _ (begun : Requests) (frame : Frame) (fact : IsFrame frame) (first : ReplicaState) where
  -- one that leads, where calls alone are ready
  pub record Goes (r : ReplicaState) : Type 0 where
    pub group : IsPlainGroup begun frame r.group
    pub me_is : r.me ≡ frame.lead
    pub running : r.running ≡ true
    pub ready : Each (λ entry. IsPlainCommand begun frame entry.1) r.ready
    pub leaves : Leaves first r

  abbrev F : Place → Type 0
  F place = Goes place.0

  -- what is ready next is a call, if anything is
  abbrev O : Option Command → Type 0
  O o = (command : Command) → o ≡ Some command → IsPlainCommand begun frame command

  bared : (r : ReplicaState) → Goes r → Goes (frame_of r)
  bared r g = record { group = g.group; me_is = g.me_is; running = g.running; ready = g.ready; leaves = record { top = g.leaves.top; promised = g.leaves.promised; leader = g.leaves.leader; accepted = g.leaves.accepted } }

  unbared : (r : ReplicaState) → Goes (frame_of r) → Goes r
  unbared r g = record { group = g.group; me_is = g.me_is; running = g.running; ready = g.ready; leaves = record { top = g.leaves.top; promised = g.leaves.promised; leader = g.leaves.leader; accepted = g.leaves.accepted } }

  pub pumps : (place : Place) → F place → F (pumped place)
  pumps place g = unbared (pumped place).0 (subst Goes (sym (pump_kept place)) (bared place.0 g))

  next_is_call : (place : Place) → F place → O (next_ready place.0)
  next_is_call (r, mails) g =
      either_way O (r.running && has_room r) (at_slot r.ready (next r)) None
      (λ command e. Each-among (λ (entry : ℕ × Command). IsPlainCommand begun frame entry.1) r.ready (next r, command) g.ready (at_found r.ready (next r) command e).1) (λ command e. cc)

  pub entry_goes : (r : ReplicaState) (mails : List Mail) (client seq : ℕ) (op : Op) → IsPlainCall begun frame client seq op → Goes r → F (executed_one true (Call client seq op) (r, mails))
  unfolding entered forgotten
  entry_goes r mails client seq op call g =
      let serves = call_plain begun frame fact client seq op r.group call g.group in
      let core = entered_frame begun frame client seq op r serves in
      subst F (sym (counted_call client seq op serves.answer r mails serves.answer_is (ap (λ (c : Core). c.members) (core ∙ sym g.group.core_is)) ((entered_keeps (Call client seq op) r).0 ∙ g.running) (ap (λ (c : Core). c.gone) core ∙ fact.stands)
      (ap (λ (c : Core). is_member c.members (entered (Call client seq op) r).me) core ∙ ap (is_member frame.core.members) ((entered_keeps (Call client seq op) r).3 ∙ g.me_is) ∙ fact.leads)))
      (goes_after serves (recorded_after r (entered (Call client seq op) r) client seq op serves.answer mails))
    where
      goes_after : IsServed begun frame client seq op (applied r.group (Call client seq op)) → (sent : List Mail) → F (cleared (next r) (entered (Call client seq op) r, sent))
      goes_after serves sent = (let l = leaves_entry first r sent (Call client seq op) g.leaves in record {
        group = serves.group;
        me_is = g.me_is;
        running = g.running;
        ready = out_each (λ (entry : ℕ × Command). entry.0) (λ s es. without_slot es s) (λ s. refl) (λ s x es. refl) (λ (entry : ℕ × Command). IsPlainCommand begun frame entry.1) (next r) r.ready g.ready;
        leaves = record { top = l.top; promised = l.promised; leader = l.leader; accepted = l.accepted };
      })

  entries_go : (command : Command) (place : Place) → O (Some command) → F place → F (executed_one true command place)
  entries_go command (r, mails) o g =
      let plain = o command refl in
      let c = call_is begun frame fact 0 0 [] (λ x y. ⊥) command plain in
      subst (λ (x : Command). F (executed_one true x (r, mails))) (sym c.3) (entry_goes r mails c.0 c.1 c.2 (subst (IsPlainCommand begun frame) c.3 plain) g)

  -- all that is executed at once, with what is offered then
  all_go : (command : Command) (place : Place) → IsPlainCommand begun frame command → F place → F (executed true command place).0
  all_go command place plain g = executed_place F O next_is_call entries_go pumps true command place (entries_go command place (λ other e. (let same : command ≡ other = cc in subst (IsPlainCommand begun frame) same plain)) g)

  -- ---- a vote is counted

  module _ (r : ReplicaState) (g : Goes r) (flights : Each (IsPlainFlight begun frame) r.leader.flights) (from : ℕ) (ballot : Ballot) (slot : ℕ) where
    chosen : (flight : Flight Command) → flight_at slot r.leader.flights ≡ Some flight → IsPlainCommand begun frame flight.value × Goes (with_chosen slot flight r)
    chosen flight e =
        let flies = Each-among (IsPlainFlight begun frame) r.leader.flights flight flights (find_found (λ (f : Flight Command). eqb f.slot slot) r.leader.flights flight e).0 in (
          flies.is_call,
          record {
            group = g.group;
            me_is = g.me_is;
            running = g.running;
            ready = with_each slot flight.value (λ (x : ℕ × Command). IsPlainCommand begun frame x.1) r.ready flies.is_call g.ready;
            leaves = record { top = g.leaves.top; promised = g.leaves.promised; leader = g.leaves.leader; accepted = g.leaves.accepted };
          },
        )

    pub vote_goes : Goes (accepted_row from ballot slot (r, [])).0.0
    vote_goes =
        vote_row F r from ballot slot g
        (λ voters. record { group = g.group; me_is = g.me_is; running = g.running; ready = g.ready; leaves = record { top = g.leaves.top; promised = g.leaves.promised; leader = g.leaves.leader; accepted = g.leaves.accepted } })
        (λ flight e. (chosen flight e).1) (λ flight e here. (let x = chosen flight e in all_go flight.value (with_chosen slot flight r, []) x.0 x.1))
