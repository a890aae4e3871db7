-- Groups begin well led (`IsWellLed`).
use Rattle.std.specs.Prelude.{◌≡◌, ℕ, ◌+◌, ◌<◌, true, false, List, [], None}
use Rattle.sc_base.specs.Definitions.{Among, IsRoster, is_member}
use Rattle.sc_node_table.specs.Values.{Base, Seat}
use Rattle.sc_scenario.specs.scenario.Definitions.{IsBounded}
use Rattle.sc_scenario.specs.declared.scenario.scenarios.Scenario.{Scenario}
use Rattle.sc_node_table.specs.NodeDefinitions.{slots_ahead}
use Rattle.sc_meaning.specs.sound.SoundDefinitions.{Player, births, as_nodes}
use Rattle.sc_live_steps.specs.calm.CalmDefinitions.{players, Rows}
use Rattle.sc_live_steps.specs.following.FollowingDefinitions.{Sets, SlotLeaders}
use Rattle.sc_live_journals.specs.rows.RowDefinitions.{view_at, marks_at, begun_course}
use Rattle.sc_live_journals.specs.groups.WellLedGroups.{Ends, IsWellLed}

-- The log of a group begins with its first members and with the group standing; the members of each slot are one to nine numbers, ascending.
pub record BeginsSo (at : Sets) (over : Ends) (base : Base) : Type 0 where
  pub sets : (slot : ℕ) → slot < 1 + slots_ahead → at slot ≡ base.core.members
  pub stands : over 1 ≡ false
  pub early : over 0 ≡ false
  pub rosters : (slot : ℕ) → IsRoster (at slot)

-- Each group of a bounded scenario is well led at its birth.
abbrev pub ScenariosBeginLed : Type 0
ScenariosBeginLed =
    (at : Sets) (over : Ends) (by : SlotLeaders) (words : ℕ → ℕ → ℕ × ℕ) (scenario : Scenario) (base : Base) → IsBounded scenario → Among base scenario.groups → BeginsSo at over base
    → IsWellLed at over by words (births as_nodes scenario) [] base (begun_course base)

-- A group that is still to be created is well led, if its first leader is one of its members, no node has a replica of it, and no Paxos mail of it is under way.
abbrev pub ChildrenBeginLed : Type 0
ChildrenBeginLed =
    (at : Sets) (over : Ends) (by : SlotLeaders) (words : ℕ → ℕ → ℕ × ℕ) (seats : List (Seat Player)) (rows : Rows) (base : Base) → BeginsSo at over base → is_member base.core.members base.core.first ≡ true
    → ((who : ℕ) → view_at seats rows base.core.id who ≡ None) → ((who : ℕ) → marks_at (players words seats) rows base.core.id who ≡ []) → IsWellLed at over by words seats rows base (begun_course base)
