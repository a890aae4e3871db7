-- What a leader's table does when it executes an entry that its votes chose, in terms of marks (`Mark` in `Following.antt`).
use Rattle.std.specs.Prelude.{◌≡◌, ℕ, ◌+◌, true, false, List, [], ◌++◌, length, Option, Some, None, ◌⊎◌}
use Rattle.sc_node_table.specs.Values.{Command, Route}
use Rattle.sc_base.specs.Definitions.{IsRoster, is_member}
use Rattle.sc_node_table.specs.NodeDefinitions.{entered, executed_one, ReplicaState, Place, name_of, next, members, slots_ahead, without_slot}
use Rattle.sc_words.specs.paxos.PaxosDefinitions.{new_leader, without_flight_at}
use Rattle.sc_live_steps.specs.following.MailUnderWay.{Course, Sets, members_at}
use Rattle.sc_live_steps.specs.following.PaxosTables.{marks_for}
use Rattle.sc_live_steps.specs.following.Offers.{MayOffer}
use Rattle.sc_live_steps.specs.following.LeaderRows.{reported_of}

-- The replica leads in this course's ballot; its group stands, it is a member, and its members and open slots are those that `at` and the course say.
pub record IsLed (at : Sets) (course : Course) (r : ReplicaState) : Type 0 where
  pub running : r.running ≡ true
  pub stands : r.group.core.gone ≡ None
  pub first : r.leader.is_first ≡ course.is_first
  pub mine : course.ballot.node ≡ r.me
  pub member : is_member (members r) r.me ≡ true
  pub was : members_at at (next r) ≡ members r
  pub ahead : length r.sets ≡ slots_ahead
  pub roster : IsRoster (members r)
  pub may : MayOffer at course r

-- The command for the replica's next slot: after it the group has the members that `at` says, one to nine nodes, and keeps its name.
pub record IsNext (at : Sets) (command : Command) (r : ReplicaState) : Type 0 where
  pub fact : members_at at (next r + 1) ≡ members (entered command r)
  pub roster : IsRoster (members (entered command r))
  pub named : name_of (entered command r) ≡ name_of r

-- The replica after it executes the command and leads on: nothing is in flight or ready at that slot any more, and its queues are these.
abbrev pub led_on : Command → List Command → List Command → ReplicaState → ReplicaState
led_on command acts backlog r = record (entered command r) { leader = without_flight_at (next r) r.leader; ready = without_slot r.ready (next r); acts = acts; backlog = backlog }

-- The replica after it executes the command and stops leading: nothing is in flight, ready or queued, and it takes `hint` for the leader.
abbrev pub led_off : Command → Option ℕ → ReplicaState → ReplicaState
led_off command hint r = record (entered command r) { running = false; leader = new_leader r.leader.ballot (next (entered command r)); ready = []; acts = []; backlog = []; hint = hint }

-- The replica executes the command and leads on: its group stands, and it is still a member.
pub record IsOn (command : Command) (r after : ReplicaState) : Type 0 where
  pub stands : (entered command r).group.core.gone ≡ None
  pub stays : is_member (members (entered command r)) r.me ≡ true
  pub acts : List Command
  pub backlog : List Command
  pub fact : after ≡ led_on command acts backlog r

-- The replica executes the command and stops leading: its group is gone, or it is no member any more.
pub record IsOff (command : Command) (r after : ReplicaState) : Type 0 where
  pub over : ((into : Route) × ((entered command r).group.core.gone ≡ Some into)) ⊎ (((entered command r).group.core.gone ≡ None) × (is_member (members (entered command r)) r.me ≡ false))
  pub hint : Option ℕ
  pub fact : after ≡ led_off command hint r

-- The leader sends what `reported_of` says of the entry, and no other Paxos mail; then it leads on or stops.
pub record LeadsPast (at : Sets) (course : Course) (command : Command) (place after : Place) : Type 0 where
  pub sends : (who : ℕ) → marks_for (name_of place.0) who after.1 ≡ marks_for (name_of place.0) who place.1 ++ reported_of at course (next place.0) who
  pub state : IsOn command place.0 after.0 ⊎ IsOff command place.0 after.0

-- A leader's table does what `LeadsPast` says, by each entry that it counted.
abbrev pub EntriesLead : Type 0
EntriesLead = (at : Sets) (course : Course) (command : Command) (place : Place) → IsLed at course place.0 → IsNext at command place.0 → LeadsPast at course command place (executed_one true command place)
