-- Each replica in any journal of a scenario keeps what is said of its greatest ballot and its slots, and so a leader rests in a quiet journal.
use Rattle.std.specs.Prelude.{◌≡◌, ℕ, ◌≤◌, true, false, List, [], Some}
use Rattle.sc_base.specs.Definitions.{Each, IsRoster}
use Rattle.sc_node_table.specs.Values.{Draw, Base, Node, Client, Seat}
use Rattle.sc_actor.specs.Definitions.{is_quiet}
use Rattle.sc_live_orderly.specs.OrderlyDefinitions.{is_born, AreInTime}
use Rattle.sc_scenario.specs.declared.scenario.scenarios.Scenario.{Scenario}
use Rattle.sc_node_table.specs.NodeDefinitions.{ReplicaState, next, last_slot}
use Rattle.sc_meaning.specs.sound.SoundDefinitions.{Player, births, as_nodes}
use Rattle.sc_live_steps.specs.calm.CalmDefinitions.{players, Rows}
use Rattle.sc_live_steps.specs.following.FollowingDefinitions.{Course, Sets, SlotLeaders}
use Rattle.sc_live_journals.specs.rows.RowDefinitions.{view_at, marks_at, IsSeat}
use Rattle.sc_live_journals.specs.groups.QuietLeaders.{RestsCleared}
use Rattle.sc_live_journals.specs.groups.WellLedGroups.{Ends, IsWellLed}
use Rattle.sc_live_journals.specs.groups.GreatestBallots.{IsTopKept}
use Rattle.sc_live_journals.specs.groups.Slots.{IsSlotKept, IsSlotKeptNode}

-- The player has this number, and `IsTopKept` and `IsSlotKept` hold of each of its replicas.
abbrev pub IsKeptPlayer : ℕ → Player → Type 0
IsKeptPlayer who (Node node) = (node.me ≡ who) × Each (IsTopKept who) node.replicas × IsSlotKeptNode node
IsKeptPlayer who (Client client) = Unit {0}

-- `IsKeptPlayer` holds of each of these players at its birth.
abbrev pub AreKeptBorn : List (Seat Player) → Type 0
AreKeptBorn births = (seat : Seat Player) → IsSeat births seat → IsKeptPlayer seat.who seat.actor

-- `IsKeptPlayer` holds of each player of a scenario at its birth.
abbrev pub ScenariosAreKeptBorn : Type 0
ScenariosAreKeptBorn = (scenario : Scenario) → AreKeptBorn (births as_nodes scenario)

-- If players are kept at their births, `IsTopKept` and `IsSlotKept` hold of each replica after any rows.
abbrev pub ReplicasAreKept : Type 0
ReplicasAreKept = (births : List (Seat Player)) (rows : Rows) (name : Draw) (who : ℕ) (r : ReplicaState) → AreKeptBorn births → view_at births rows name who ≡ Some r → IsTopKept who r × IsSlotKept r

-- In a quiet journal the leader of a group that is well led and stands rests (`RestsCleared`), if its next slot is not behind the last one and players are kept at their births.
abbrev pub KeptLeadersRest : Type 0
KeptLeadersRest =
    (at : Sets) (over : Ends) (by : SlotLeaders) (words : ℕ → ℕ → ℕ × ℕ) (births : List (Seat Player)) (rows : Rows) (base : Base) (course : Course) (lead : ReplicaState) → AreKeptBorn births → ((slot : ℕ) → IsRoster (at slot)) → AreInTime (players words births) rows
    → is_quiet (players words births) rows ≡ true → ((who : ℕ) → is_born (players words births) who ≡ false → marks_at (players words births) rows base.core.id who ≡ []) → IsWellLed at over by words births rows base course
    → course.gone ≡ false → view_at births rows base.core.id course.ballot.node ≡ Some lead → next lead ≤ last_slot → RestsCleared lead
