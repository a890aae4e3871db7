-- The journals of a calm scenario at its budget have few rows, so that slots and rounds are left in each.
use Rattle.std.specs.Prelude.{ℕ, ◌+◌, ◌^◌, ◌≤◌, List, length}
use Rattle.sc_node_table.specs.Values.{OrderLine, Mail, Row}
use Rattle.sc_live_orderly.specs.OrderlyDefinitions.{deliveries, AreInTime}
use Rattle.sc_scenario.specs.declared.scenario.scenarios.Scenario.{Scenario}
use Rattle.sc_scenario.specs.scenario.Definitions.{IsValid}
use Rattle.sc_meaning.specs.sound.SoundDefinitions.{births, as_nodes, Lawful}
use Rattle.sc_live_steps.specs.calm.CalmDefinitions.{players}
use Rattle.sc_live_plain.specs.PlainDefinitions.{orders_of, IsCalmAtBudget}
use Rattle.sc_live_answers.specs.LineEnds.{calm_deliveries_of}

-- a lawful journal of a valid calm scenario at its budget that gives an order has at most 2^28 rows, where they come in time and make at most one delivery more than `calm_deliveries_of`
abbrev pub CalmJournalsAreShort : Type 0
CalmJournalsAreShort =
    (words : ℕ → ℕ → ℕ × ℕ) (scenario : Scenario) (journal : List (Row Mail OrderLine)) → IsValid scenario → IsCalmAtBudget scenario → 1 ≤ orders_of scenario → Lawful as_nodes words scenario journal
    → AreInTime (players words (births as_nodes scenario)) journal → deliveries journal ≤ calm_deliveries_of scenario + 1 → length journal ≤ 2 ^ 28
