-- The lines of a calm scenario at its budget end quiet, where its journals find what the potential needs.
use Rattle.std.specs.Prelude.{◌≡◌, ℕ, ◌+◌, ◌*◌, false, List, []}
use Rattle.sc_node_table.specs.Values.{OrderLine, Mail, Row}
use Rattle.sc_actor.specs.Definitions.{unsettled}
use Rattle.sc_scenario.specs.declared.scenario.scenarios.Scenario.{Scenario}
use Rattle.sc_scenario.specs.scenario.Definitions.{IsValid}
use Rattle.sc_meaning.specs.sound.SoundDefinitions.{births, schedule, as_nodes, system_of, Lawful}
use Rattle.sc_live_steps.specs.calm.CalmDefinitions.{Chart, players, KeepCalm, RestCalm, Rows}
use Rattle.sc_live_plain.specs.PlainDefinitions.{orders_of, calm_budget_of, IsCalmAtBudget}
use Rattle.sc_live_answers.specs.BudgetAtBirth.{IsFirstChart}

-- an upper bound of the deliveries of a calm scenario at its budget with N orders: the budget, and 242 + 4 * (N + 1) for each order
abbrev pub calm_deliveries_of : Scenario → ℕ
calm_deliveries_of scenario = calm_budget_of scenario + orders_of scenario * (242 + 4 * (orders_of scenario + 1))

-- there are charts, one for each lawful journal of a scenario with at most `calm_deliveries_of` deliveries, by which each row finds what the potential needs, and by which quiet journals rest
pub record AreCharted (words : ℕ → ℕ → ℕ × ℕ) (scenario : Scenario) (charts : Rows → Chart) : Type 0 where
  pub first : IsFirstChart scenario (charts [])
  pub keeps : KeepCalm (players words (births as_nodes scenario)) (schedule scenario) charts (calm_deliveries_of scenario)
  pub rests : RestCalm words (births as_nodes scenario) (schedule scenario) charts (calm_deliveries_of scenario)

-- in each lawful journal of a valid calm scenario at its budget that has charts as `AreCharted` says no line of deliveries is cut off with mail pending
abbrev pub CalmLinesEndQuiet : Type 0
CalmLinesEndQuiet =
    (words : ℕ → ℕ → ℕ × ℕ) (scenario : Scenario) (charts : Rows → Chart) (journal : List (Row Mail OrderLine))
    → IsValid scenario → IsCalmAtBudget scenario → AreCharted words scenario charts → Lawful as_nodes words scenario journal
    → unsettled (system_of as_nodes words scenario) (schedule scenario) journal ≡ false
