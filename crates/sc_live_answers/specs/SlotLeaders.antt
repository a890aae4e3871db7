-- Who leads a group at each slot, read off a journal, and that groups of journals whose rows come in time have leaders.
use Rattle.std.specs.Prelude.{◌≡◌, ℕ, ◌-◌, ◌^◌, ◌<◌, ◌≤◌, nat_lt, Bool, false, List, [], ◌∷◌, ◌++◌, if◌then◌else◌, Option, Some, None, ◌⊎◌}
use Rattle.sc_base.specs.Definitions.{Among, is_member, least_of}
use Rattle.sc_node_table.specs.Values.{Draw, Base, Seat, OrderLine, Event}
use Rattle.sc_live_orderly.specs.OrderlyDefinitions.{AreInTime, IsCalmEvent}
use Rattle.sc_scenario.specs.declared.scenario.scenarios.Scenario.{Scenario}
use Rattle.sc_node_table.specs.NodeDefinitions.{ReplicaState, next, last_slot}
use Rattle.sc_meaning.specs.sound.SoundDefinitions.{Ahead, Player, births, as_nodes}
use Rattle.sc_live_steps.specs.calm.CalmDefinitions.{players}
use Rattle.sc_law_entries.specs.logs.LogDefinitions.{Rows}
use Rattle.sc_live_steps.specs.following.FollowingDefinitions.{members_at, Course, SlotLeaders}
use Rattle.sc_live_journals.specs.rows.RowDefinitions.{view_at, IsSeat}
use Rattle.sc_live_journals.specs.logs.LogDefinitions.{logged_sets, IsGroupOf}
use Rattle.sc_live_journals.specs.groups.GroupDefinitions.{IsLedOn, IsWellLed, IsSentSo, IsRowOf, IsLedStep}
use Rattle.sc_live_answers.specs.LedGroups.{over_at, HasLeaders}

-- whether there is a replica and it has executed the slot
abbrev pub has_executed : ℕ → Option ReplicaState → Bool
has_executed slot None = false
has_executed slot (Some r) = nat_lt slot (next r)

-- the player of the first of these rows, behind those before them, after which the player's own replica of the group has executed the slot; or None
abbrev pub first_to : List (Seat Player) → Draw → ℕ → Rows → Rows → Option ℕ
first_to births name slot before [] = None
first_to births name slot before (row ∷ rows) =
    if has_executed slot (view_at births (before ++ row ∷ []) name row.who) then Some row.who else first_to births name slot (before ++ row ∷ []) rows

-- this player, if it is one of these members, and else the least of them
abbrev pub slot_leader_of : List ℕ → Option ℕ → ℕ
slot_leader_of members None = least_of members
slot_leader_of members (Some who) = if is_member members who then who else least_of members

-- who leads a group at each slot, by a journal: the first to execute the slot, if that is a member there, and else the least member
abbrev pub slot_leaders_at : Ahead → Scenario → Base → Rows → SlotLeaders
slot_leaders_at ahead scenario base journal slot = slot_leader_of (members_at (logged_sets ahead base journal) slot) (first_to (births ahead scenario) base.core.id slot [] journal)

-- after each prefix of a journal each replica of the group has slots and rounds left
abbrev pub AreFew : Ahead → Scenario → Rows → Base → Type 0
AreFew ahead scenario journal base =
    (rows more : Rows) (who : ℕ) (r : ReplicaState) → journal ≡ rows ++ more → view_at (births ahead scenario) rows base.core.id who ≡ Some r → (next r ≤ last_slot) × (r.top.round < 2 ^ 32 - 1)

-- each group of a lawful journal of a valid scenario is one of the scenario, or no node has a replica of it at the births
abbrev pub GroupsAreBornOrNot : Type 0
GroupsAreBornOrNot = (words : ℕ → ℕ → ℕ × ℕ) (scenario : Scenario) (journal : Rows) (base : Base) → IsGroupOf as_nodes words scenario journal base
    → Among base scenario.groups ⊎ ((who : ℕ) → view_at (births as_nodes scenario) [] base.core.id who ≡ None)

-- each group of a lawful journal of a valid scenario is well led at the births, whoever leads later
abbrev pub GroupsBeginLed : Type 0
GroupsBeginLed = (words : ℕ → ℕ → ℕ × ℕ) (by : SlotLeaders) (scenario : Scenario) (journal : Rows) (base : Base) → IsGroupOf as_nodes words scenario journal base
    → IsLedOn (logged_sets as_nodes base journal) (over_at as_nodes base journal) by words (births as_nodes scenario) [] base

-- each group of a lawful journal of a valid scenario is well led, and has leaders, after a prefix of the journal, where its rows come in time and the group's mail is as `IsSentSo` says
abbrev pub GroupsAreLed : Type 0
GroupsAreLed =
    (words : ℕ → ℕ → ℕ × ℕ) (scenario : Scenario) (journal prefix more : Rows) (base : Base) → IsGroupOf as_nodes words scenario journal base → AreInTime (players words (births as_nodes scenario)) journal → AreFew as_nodes scenario journal base → journal ≡ prefix ++ more
    → IsSentSo (births as_nodes scenario) prefix base
    → IsLedOn (logged_sets as_nodes base journal) (over_at as_nodes base journal) (slot_leaders_at as_nodes scenario base journal) words (births as_nodes scenario) prefix base × HasLeaders as_nodes (slot_leaders_at as_nodes scenario base journal) scenario journal prefix base

-- each row of a prefix of a journal, where its rows come in time and the group's mail is as `IsSentSo` says, is a row of the group of a known kind, from the course before it to the course after it
abbrev pub LedRowsGoOn : Type 0
LedRowsGoOn =
    (words : ℕ → ℕ → ℕ × ℕ) (scenario : Scenario) (journal prefix more : Rows) (base : Base) → IsGroupOf as_nodes words scenario journal base → AreInTime (players words (births as_nodes scenario)) journal → AreFew as_nodes scenario journal base → journal ≡ prefix ++ more
    → IsSentSo (births as_nodes scenario) prefix base
    → (rows : Rows) (seat : Seat Player) (event : Event OrderLine) → IsRowOf prefix rows seat event → IsSeat (births as_nodes scenario) seat → IsCalmEvent (players words (births as_nodes scenario)) rows seat.who event
    → (course : Course) × IsWellLed (logged_sets as_nodes base journal) (over_at as_nodes base journal) (slot_leaders_at as_nodes scenario base journal) words (births as_nodes scenario) rows base course
    × IsLedStep (logged_sets as_nodes base journal) (over_at as_nodes base journal) (slot_leaders_at as_nodes scenario base journal) words (births as_nodes scenario) rows seat event base course
