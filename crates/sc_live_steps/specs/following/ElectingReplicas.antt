-- The row of a replica's table by which it elects itself, as a row of kind `Elects`.
use Rattle.std.specs.Prelude.{◌≡◌, ℕ, suc, ◌+◌, ◌<◌, ◌≤◌, ◌==◌, true, false, [], length, if◌then◌else◌, Some, None, is_some}
use Rattle.sc_base.specs.Definitions.{most_nodes, IsRoster, is_member, least_of}
use Rattle.sc_node_table.specs.Values.{Command, Base, Learn}
use Rattle.sc_words.specs.paxos.PaxosDefinitions.{below}
use Rattle.sc_node_table.specs.NodeDefinitions.{entered, ReplicaState, Place, name_of, next, members, first_ballot, born_replica, last_slot, mailed, slots_ahead}
use Rattle.sc_live_steps.specs.following.MailUnderWay.{Mark, Teaches, Progress, Sets, members_at}
use Rattle.sc_live_steps.specs.following.LeaderTables.{voters_of, IsLeadOf}
use Rattle.sc_live_steps.specs.following.Offers.{AreAt}
use Rattle.sc_live_steps.specs.following.FlightOrder.{IsOrderly}
use Rattle.sc_live_steps.specs.following.LeaderRows.{IsCount, Takes, Elects, begun}
use Rattle.sc_live_steps.specs.following.PaxosTables.{marks_for, StepsBy, IsInTime, MayElect, next_ballot}

-- The replica is to lead next: no node leads its group, which stands, and `command` is the last entry. The replica agrees with the group's progress,
-- the members after the entry are one to nine nodes, all members are numbers of nodes, and the replica's next ballot is later than the group's.
pub record MayLeadNext (at : Sets) (now : Progress) (slot : ℕ) (command : Command) (r : ReplicaState) : Type 0 where
  pub idle : now.course.running ≡ false
  pub stands : now.course.gone ≡ false
  pub last : suc slot ≡ now.course.newest
  pub bound : now.course.bound ≡ now.course.newest
  pub promise : now.promise r.me ≡ r.acceptor.promised
  pub later : below now.course.ballot (next_ballot r) ≡ true
  pub sets : AreAt at (suc slot) (entered command r).sets
  pub ahead : length (entered command r).sets ≡ slots_ahead
  pub members_are : members_at at (suc slot) ≡ members (entered command r)
  pub roster : IsRoster (members (entered command r))
  pub nodes : (s who : ℕ) → is_member (at s) who ≡ true → (1 ≤ who) × (who ≤ most_nodes)

-- The progress after this replica elected itself: it leads in its own ballot, and all other nodes are where they were.
abbrev pub elected_by : ℕ → Progress → ReplicaState → Progress
elected_by me now r = record {
  next = λ who. if who == me then next r else now.next who;
  promise = λ who. if who == me then r.acceptor.promised else now.promise who;
  course = record { newest = next r; bound = now.course.bound; ballot = r.leader.ballot; is_first = false; running = true; gone = is_some r.group.core.gone; voters = voters_of r; counted = λ node. is_member r.leader.promisers node };
}

-- The replica's row is of kind `Elects`; after it the replica leads in the new progress, and what it has in flight and ready is in order.
pub record ElectsInto (at : Sets) (now : Progress) (slot : ℕ) (r : ReplicaState) (after : Place) : Type 0 where
  pub self_election : Elects at now (elected_by r.me now after.0) r.me (Some (Teaches slot)) (λ who. marks_for (name_of r) who after.1)
  pub leads : IsLeadOf at (elected_by r.me now after.0) after.0
  pub orderly : IsOrderly after.0

-- A replica that learns the last entry and is to lead next elects itself, as `ElectsInto` says.
abbrev pub ElectionsLead : Type 0
ElectionsLead =
    (at : Sets) (now : Progress) (from slot : ℕ) (command : Command) (r : ReplicaState) → IsInTime (Teaches slot) r → r.running ≡ false → r.leader.flights ≡ [] → slot ≤ last_slot → MayElect (entered command r) → name_of (entered command r) ≡ name_of r
    → MayLeadNext at now slot command r → ElectsInto at now slot r (mailed from (Learn (name_of r) slot command) (r, [])).0

-- The first leader of a new group leads in the group's first progress, and what it has in flight and ready is in order.
abbrev pub LeadersBegin : Type 0
LeadersBegin =
    (at : Sets) (me : ℕ) (base : Base) → ((slot : ℕ) → slot < 1 + slots_ahead → at slot ≡ base.core.members) → base.core.first ≡ me → is_member base.core.members me ≡ true → base.core.gone ≡ None → IsRoster base.core.members
    → IsLeadOf at (begun base.core.members (first_ballot base.core)) (born_replica slots_ahead me base) × IsOrderly (born_replica slots_ahead me base)

-- The progress after a row that changes only this replica's next slot and its promise.
abbrev pub moved_by : ℕ → Progress → ReplicaState → Progress
moved_by me now r = record now { next = λ who. if who == me then next r else now.next who; promise = λ who. if who == me then r.acceptor.promised else now.promise who }

-- A step of a replica that follows its mark is a row of kind `Takes`, if the replica is where the progress says,
-- the mark is no vote or promise where the replica leads, and not the last entry where the replica is to lead next.
abbrev pub StepsTake : Type 0
StepsTake =
    (at : Sets) (now : Progress) (mark : Mark) (r : ReplicaState) (after : Place) → now.next r.me ≡ next r → now.promise r.me ≡ r.acceptor.promised → StepsBy mark r after → (now.course.running ≡ true → r.me ≡ now.course.ballot.node → IsCount mark → ⊥)
    → (now.course.running ≡ false → now.course.gone ≡ false → r.me ≡ least_of (members_at at now.course.newest) → next after.0 < now.course.newest)
    → Takes at now (moved_by r.me now after.0) r.me (Some mark) (λ who. marks_for (name_of r) who after.1)
