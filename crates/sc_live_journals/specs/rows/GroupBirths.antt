-- How groups begin, over players: those of a scenario at its birth, and the child of a split before any node has a replica of it.
use Rattle.std.specs.Prelude.{◌≡◌, ℕ, true, List, [], None}
use Rattle.sc_base.specs.Definitions.{Among, is_member}
use Rattle.sc_node_table.specs.Values.{Base, Seat}
use Rattle.sc_scenario.specs.scenario.Definitions.{IsBounded}
use Rattle.sc_scenario.specs.declared.scenario.scenarios.Scenario.{Scenario}
use Rattle.sc_meaning.specs.sound.SoundDefinitions.{Player, births, as_nodes}
use Rattle.sc_live_steps.specs.calm.CalmDefinitions.{players, Rows}
use Rattle.sc_live_journals.specs.rows.Groups.{view_at, marks_at, begun_course, IsFollowedAt}

-- After these rows the group follows its first leader, with the members that it began with, as at its birth.
abbrev pub BeginsFollowing : (ℕ → ℕ → ℕ × ℕ) → List (Seat Player) → Rows → Base → Type 0
BeginsFollowing words seats rows base = IsFollowedAt (λ slot. base.core.members) words seats rows base (begun_course base)

-- Each group of a bounded scenario begins following: its members' nodes have replicas that have executed nothing, its first leader leads, and no mail is under way.
abbrev pub ScenariosBeginFollowing : Type 0
ScenariosBeginFollowing = (words : ℕ → ℕ → ℕ × ℕ) (scenario : Scenario) (base : Base) → IsBounded scenario → Among base scenario.groups → BeginsFollowing words (births as_nodes scenario) [] base

-- A group that is still to be created begins following, if its first leader is one of its members, no node has a replica of it yet, and no Paxos mail of it is under way.
abbrev pub ChildrenBeginFollowing : Type 0
ChildrenBeginFollowing =
    (words : ℕ → ℕ → ℕ × ℕ) (seats : List (Seat Player)) (rows : Rows) (base : Base) → is_member base.core.members base.core.first ≡ true
    → ((who : ℕ) → view_at seats rows base.core.id who ≡ None) → ((who : ℕ) → marks_at (players words seats) rows base.core.id who ≡ []) → BeginsFollowing words seats rows base
