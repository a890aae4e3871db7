-- What holds of every lawful journal of a valid scenario.
use Rattle.std.specs.Prelude.{◌≡◌, ℕ}
use Rattle.sc_node_table.specs.NodeDefinitions.{slots_ahead}
use Rattle.sc_meaning.specs.sound.SoundDefinitions.{Ahead, Lawful, IsSoundThroughout}
use Rattle.sc_scenario.specs.scenario.Definitions.{IsValid}
use Rattle.sc_scenario.specs.declared.scenario.scenarios.Scenario.{Scenario}
use Rattle.sc_law_entries.specs.logs.LogDefinitions.{Rows, AreItsLogs}

-- each prefix of a lawful journal of a valid scenario is sound, whatever its orders are and whatever words storms draw, where as many slots are open as a created child has
abbrev pub ValidJournalsAreSound : Type 0
ValidJournalsAreSound = (ahead : Ahead) → ahead.slots ≡ slots_ahead → (words : ℕ → ℕ → ℕ × ℕ) (scenario : Scenario) → IsValid scenario
    → (journal : Rows) → Lawful ahead words scenario journal → IsSoundThroughout ahead scenario journal

-- the entries of a lawful journal of a valid scenario are the logs of its groups
abbrev pub ValidEntriesAreLogs : Type 0
ValidEntriesAreLogs = (ahead : Ahead) → ahead.slots ≡ slots_ahead → (words : ℕ → ℕ → ℕ × ℕ) (scenario : Scenario) → IsValid scenario
    → (journal : Rows) → Lawful ahead words scenario journal → AreItsLogs ahead scenario.groups journal
