-- What machines do, whatever the network does, is lawful and sound.
use Rattle.std.specs.Prelude.{◌≡◌, ℕ, List, filter, map, not}
use Rattle.sc_node_table.specs.Values.{OrderLine, Mail}
use Rattle.sc_node_table.specs.NodeDefinitions.{slots_ahead}
use Rattle.sc_meaning.specs.sound.SoundDefinitions.{Ahead, IsSoundThroughout}
use Rattle.sc_scenario.specs.declared.scenario.scenarios.Scenario.{Scenario}
use Rattle.sc_law_groups.specs.whole.WholeDefinitions.{IsWellFormed}
use Rattle.sc_law_carried.specs.reading.ReadingDefinitions.{with_lines_of, IsLawfulRead}
use Rattle.sc_law_carried.specs.deeds.Deeds.{Deed}
use Rattle.sc_law_carried.specs.deeds.Carriers.{AreCarried}
use Rattle.sc_law_carried.specs.deeds.CarriedRows.{rows_of, deed_row, is_repeat}

-- without the repeats of the network the rows of deeds are the deeds, one row each, in their order
abbrev pub RowsAreDeeds : Type 0
RowsAreDeeds = (deeds : List (Deed Mail OrderLine)) → filter (λ row. not (is_repeat row.event)) (rows_of deeds) ≡ map deed_row deeds

-- the rows of carried deeds are a lawful journal of the scenario with the schedule that is read off them
abbrev pub CarriedDeedsAreLawful : Type 0
CarriedDeedsAreLawful = (ahead : Ahead) (words : ℕ → ℕ → ℕ × ℕ) (scenario : Scenario) (deeds : List (Deed Mail OrderLine))
    → AreCarried ahead scenario deeds → IsLawfulRead ahead words scenario (rows_of deeds)

-- so each prefix of them is sound, where the scenario is well formed and as many slots are open as a created child has
abbrev pub CarriedDeedsAreSound : Type 0
CarriedDeedsAreSound = (ahead : Ahead) → ahead.slots ≡ slots_ahead → (scenario : Scenario) → IsWellFormed scenario → (deeds : List (Deed Mail OrderLine))
    → AreCarried ahead scenario deeds → IsSoundThroughout ahead (with_lines_of scenario (rows_of deeds)) (rows_of deeds)
