-- Hints rise in quiet prefixes of a calm journal: what each row keeps of each group, and what follows in quiet.
use Rattle.std.specs.Prelude.{◌≡◌, ℕ, false, [], Some, None}
use Rattle.sc_node_table.specs.Values.{Base, OrderLine, Seat, Event}
use Rattle.sc_live_orderly.specs.OrderlyDefinitions.{AreInTime}
use Rattle.sc_scenario.specs.declared.scenario.scenarios.Scenario.{Scenario}
use Rattle.sc_node_table.specs.NodeDefinitions.{ReplicaState}
use Rattle.sc_meaning.specs.sound.SoundDefinitions.{Player, births, as_nodes}
use Rattle.sc_live_steps.specs.calm.CalmDefinitions.{players, RisesAt, Rows}
use Rattle.sc_live_steps.specs.following.FollowingDefinitions.{Sets, SlotLeaders}
use Rattle.sc_live_journals.specs.rows.RowDefinitions.{view_at, marks_at, IsSeat, with_event}
use Rattle.sc_live_journals.specs.groups.GroupDefinitions.{Ends}
use Rattle.sc_live_journals.specs.logs.LogDefinitions.{logged_sets, IsGroupOf}
use Rattle.sc_live_answers.specs.LedGroups.{over_at}
use Rattle.sc_live_answers.specs.SlotLeaders.{slot_leaders_at}
use Rattle.sc_live_answers.specs.GroupMail.{IsSentThrough, IsSentStep}
use Rattle.sc_live_answers.specs.RoundBounds.{HasMembers}
use Rattle.sc_live_answers.specs.HintInvariant.{IsRisingOn}

-- each group of a lawful journal of a valid scenario is as `IsRisingOn` says at the births
abbrev pub GroupsBeginRising : Type 0
GroupsBeginRising =
    (words : ℕ → ℕ → ℕ × ℕ) (scenario : Scenario) (journal : Rows) (base : Base) → IsGroupOf as_nodes words scenario journal base
    → (t : IsSentThrough (logged_sets as_nodes base journal) (over_at as_nodes base journal) (slot_leaders_at as_nodes scenario base journal) words (births as_nodes scenario) [] base)
    → IsRisingOn (logged_sets as_nodes base journal) (slot_leaders_at as_nodes scenario base journal) words (births as_nodes scenario) [] base t.course

-- `IsRisingOn` holds after one row more, in the course after that row
abbrev pub NextRowsRise : Type 0
NextRowsRise =
    (words : ℕ → ℕ → ℕ × ℕ) (at : Sets) (over : Ends) (by : SlotLeaders) (scenario : Scenario) (rows : Rows) (seat : Seat Player) (event : Event OrderLine) (base : Base) → AreInTime (players words (births as_nodes scenario)) (with_event rows seat event) → IsSeat (births as_nodes scenario) seat
    → (t : IsSentThrough at over by words (births as_nodes scenario) rows base) → (s : IsSentStep at over by words (births as_nodes scenario) rows seat event base t.course)
    → IsRisingOn at by words (births as_nodes scenario) rows base t.course → IsRisingOn at by words (births as_nodes scenario) (with_event rows seat event) base s.through.course

-- where no mail of a group is under way, and its first members have their replicas, hints rise in it: a replica that does not run names the node of the greatest ballot that it saw, and the replica there runs, is gone, or saw a later round
abbrev pub QuietHintsRise : Type 0
QuietHintsRise =
    (words : ℕ → ℕ → ℕ × ℕ) (at : Sets) (over : Ends) (by : SlotLeaders) (scenario : Scenario) (prefix : Rows) (base : Base) (t : IsSentThrough at over by words (births as_nodes scenario) prefix base) → IsRisingOn at by words (births as_nodes scenario) prefix base t.course
    → ((who : ℕ) → marks_at (players words (births as_nodes scenario)) prefix base.core.id who ≡ []) → HasMembers (births as_nodes scenario) prefix base
    → (node : ℕ) (r : ReplicaState) → view_at (births as_nodes scenario) prefix base.core.id node ≡ Some r → r.running ≡ false → r.group.core.gone ≡ None → RisesAt (view_at (births as_nodes scenario) prefix) base.core.id r
