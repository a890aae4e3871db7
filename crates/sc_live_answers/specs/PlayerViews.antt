-- The replicas of players are those of the nodes.
use Rattle.std.specs.Prelude.{◌≡◌, ℕ}
use Rattle.sc_node_table.specs.Values.{Draw}
use Rattle.sc_scenario.specs.scenario.Definitions.{IsBounded}
use Rattle.sc_scenario.specs.declared.scenario.scenarios.Scenario.{Scenario}
use Rattle.sc_meaning.specs.sound.SoundDefinitions.{births, as_nodes}
use Rattle.sc_live_steps.specs.calm.CalmDefinitions.{Rows}
use Rattle.sc_live_journals.specs.rows.RowDefinitions.{view_at}
use Rattle.sc_live_journals.specs.charts.ChartDefinitions.{replica_at as chart_replica}
use Rattle.sc_live_answers.specs.Settings.{AreAtNodes}
use Rattle.sc_live_plain.specs.PlainDefinitions.{replicas_after}

-- after any rows of a scenario the replica of a group at a player is that of the node with its number, where all replicas are at nodes; and the chart has the same
pub record ViewsAgree : Type 0 where
  pub nodes : (scenario : Scenario) (rows : Rows) (name : Draw) (who : ℕ) → IsBounded scenario → AreAtNodes scenario rows → view_at (births as_nodes scenario) rows name who ≡ replicas_after scenario rows name who
  pub charts : (scenario : Scenario) (rows : Rows) (name : Draw) (who : ℕ) → chart_replica (births as_nodes scenario) rows name who ≡ view_at (births as_nodes scenario) rows name who
