-- Members of groups learn all entries in journals whose rows come in time.
use Rattle.std.specs.Prelude.{◌≡◌, ℕ, [], ◌++◌}
use Rattle.sc_node_table.specs.Values.{Base}
use Rattle.sc_live_orderly.specs.OrderlyDefinitions.{AreInTime}
use Rattle.sc_scenario.specs.declared.scenario.scenarios.Scenario.{Scenario}
use Rattle.sc_meaning.specs.sound.SoundDefinitions.{births, as_nodes}
use Rattle.sc_live_steps.specs.calm.CalmDefinitions.{players}
use Rattle.sc_law_entries.specs.logs.LogDefinitions.{Rows}
use Rattle.sc_live_steps.specs.following.FollowingDefinitions.{SlotLeaders}
use Rattle.sc_live_journals.specs.logs.LogDefinitions.{logged_sets, IsGroupOf}
use Rattle.sc_live_journals.specs.groups.GroupDefinitions.{IsTaughtOn, IsSentSo, HasOneLog}
use Rattle.sc_live_answers.specs.LedGroups.{over_at}
use Rattle.sc_live_answers.specs.SlotLeaders.{slot_leaders_at, AreFew}

-- at the births the members of each group of a lawful journal of a valid scenario learn all entries, whoever leads later
abbrev pub GroupsBeginTaught : Type 0
GroupsBeginTaught = (words : ℕ → ℕ → ℕ × ℕ) (by : SlotLeaders) (scenario : Scenario) (journal : Rows) (base : Base) → IsGroupOf as_nodes words scenario journal base
    → IsTaughtOn (logged_sets as_nodes base journal) (over_at as_nodes base journal) by words (births as_nodes scenario) [] base

-- the members of each group of a lawful journal of a valid scenario learn all entries after a prefix of the journal, where its rows come in time and the group's mail is as `IsSentSo` says; and the group has one log there
abbrev pub GroupsAreTaught : Type 0
GroupsAreTaught =
    (words : ℕ → ℕ → ℕ × ℕ) (scenario : Scenario) (journal prefix more : Rows) (base : Base) → IsGroupOf as_nodes words scenario journal base → AreInTime (players words (births as_nodes scenario)) journal → AreFew as_nodes scenario journal base → journal ≡ prefix ++ more
    → IsSentSo (births as_nodes scenario) prefix base
    → IsTaughtOn (logged_sets as_nodes base journal) (over_at as_nodes base journal) (slot_leaders_at as_nodes scenario base journal) words (births as_nodes scenario) prefix base
    × HasOneLog (logged_sets as_nodes base journal) (over_at as_nodes base journal) (slot_leaders_at as_nodes scenario base journal) (births as_nodes scenario) prefix base
