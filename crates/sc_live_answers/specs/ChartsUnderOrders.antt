-- The charts of a calm journal follow one another while an order is under way.
use Rattle.std.specs.Prelude.{◌≡◌, ℕ, true}
use Rattle.sc_base.specs.Definitions.{Each}
use Rattle.sc_node_table.specs.Values.{Seat, Event, OrderLine}
use Rattle.sc_actor.specs.Definitions.{is_quiet, value}
use Rattle.sc_live_orderly.specs.OrderlyDefinitions.{AreInTime}
use Rattle.sc_scenario.specs.declared.scenario.scenarios.Scenario.{Scenario}
use Rattle.sc_meaning.specs.sound.SoundDefinitions.{Player, player_table, births, as_nodes}
use Rattle.sc_live_steps.specs.calm.CalmDefinitions.{players, MayFollow, Rows}
use Rattle.sc_live_journals.specs.rows.RowDefinitions.{with_event}
use Rattle.sc_live_journals.specs.charts.ChartDefinitions.{chart_at, WaitsForNone}
use Rattle.sc_live_steps.specs.orders.OrderDefinitions.{Stage, IsAt}
use Rattle.sc_live_journals.specs.scenes.SceneDefinitions.{StageAfter, scene_at}
use Rattle.sc_live_answers.specs.ChartQuestions.{AllLeadAlone}

-- the chart after a row of an order may follow the chart before it, where the stage after the row is that before it or one to which the row leads, each replica that runs leads its group alone before and after the row, and no client waits once the journal is quiet
abbrev pub OrderChartsFollow : Type 0
OrderChartsFollow =
    (words : ℕ → ℕ → ℕ × ℕ) (scenario : Scenario) (rows : Rows) (far sent : ℕ) (seat : Seat Player) (event : Event OrderLine) (stage : Stage) → AreInTime (players words (births as_nodes scenario)) (with_event rows seat event)
    → IsAt stage (scene_at (births as_nodes scenario) rows) → StageAfter (births as_nodes scenario) rows seat event stage → AllLeadAlone (births as_nodes scenario) rows → AllLeadAlone (births as_nodes scenario) (with_event rows seat event)
    → (is_quiet (players words (births as_nodes scenario)) (with_event rows seat event) ≡ true → Each (λ other. WaitsForNone (value player_table other (with_event rows seat event))) (births as_nodes scenario))
    → MayFollow (players words (births as_nodes scenario)) (with_event rows seat event) (chart_at far sent (players words (births as_nodes scenario)) rows) (chart_at far sent (players words (births as_nodes scenario)) (with_event rows seat event))
