-- What a leader has in flight and ready, and that it has nothing in a quiet journal (no mail pending).
use Rattle.std.specs.Prelude.{◌≡◌, ℕ, ◌≤◌, true, false, List, [], None, Some}
use Rattle.sc_base.specs.Definitions.{Each, IsRoster}
use Rattle.sc_node_table.specs.Values.{Base, Seat}
use Rattle.sc_actor.specs.Definitions.{is_quiet}
use Rattle.sc_live_orderly.specs.OrderlyDefinitions.{is_born, AreInTime}
use Rattle.sc_node_table.specs.NodeDefinitions.{next_ready, ReplicaState, next, last_slot}
use Rattle.sc_meaning.specs.sound.SoundDefinitions.{Player}
use Rattle.sc_live_steps.specs.calm.CalmDefinitions.{players, LeadsAtRest, Rows}
use Rattle.sc_live_steps.specs.following.FollowingDefinitions.{Course, Sets, SlotLeaders}
use Rattle.sc_live_journals.specs.rows.RowDefinitions.{view_at, marks_at}
use Rattle.sc_live_journals.specs.groups.WellLedGroups.{Ends, IsWellLed}
use Rattle.sc_live_journals.specs.groups.GreatestBallots.{IsTopKept}

-- What is in flight and ready is at slots that are not executed, and nothing is ready at the replica's next slot.
pub record IsCleared (r : ReplicaState) : Type 0 where
  pub flights : Each (λ flight. next r ≤ flight.slot) r.leader.flights
  pub ready : Each (λ entry. next r ≤ entry.0) r.ready
  pub done : next_ready r ≡ None

-- The leader has nothing in flight or ready, and leads at rest (`LeadsAtRest`).
pub record RestsCleared (lead : ReplicaState) : Type 0 where
  pub flights : lead.leader.flights ≡ []
  pub ready : lead.ready ≡ []
  pub leads : LeadsAtRest lead

-- In a quiet journal the leader of a group that is well led and stands has nothing in flight or ready, and leads at rest.
-- Premises: its next slot is not behind the last one, `IsCleared` and `IsTopKept` hold of it, and no Paxos mail of the group is under way to a number that no player has.
abbrev pub QuietLeadersRest : Type 0
QuietLeadersRest =
    (at : Sets) (over : Ends) (by : SlotLeaders) (words : ℕ → ℕ → ℕ × ℕ) (births : List (Seat Player)) (rows : Rows) (base : Base) (course : Course) (lead : ReplicaState) → ((slot : ℕ) → IsRoster (at slot)) → AreInTime (players words births) rows
    → is_quiet (players words births) rows ≡ true → ((who : ℕ) → is_born (players words births) who ≡ false → marks_at (players words births) rows base.core.id who ≡ []) → IsWellLed at over by words births rows base course
    → course.gone ≡ false → view_at births rows base.core.id course.ballot.node ≡ Some lead → next lead ≤ last_slot → IsCleared lead → IsTopKept course.ballot.node lead → RestsCleared lead
