-- Hints rise in the last quiet prefix, by the chart of the rows behind it.
use Rattle.std.specs.Prelude.{◌≡◌, ℕ, ◌+◌, ◌≤◌, List, ◌∷◌}
use Rattle.sc_node_table.specs.Values.{Base}
use Rattle.sc_live_orderly.specs.OrderlyDefinitions.{orders}
use Rattle.sc_scenario.specs.scenario.Definitions.{IsValid}
use Rattle.sc_scenario.specs.declared.scenario.scenarios.Scenario.{Scenario}
use Rattle.sc_meaning.specs.sound.SoundDefinitions.{births, as_nodes, Lawful}
use Rattle.sc_live_steps.specs.calm.CalmDefinitions.{players, Rows}
use Rattle.sc_live_journals.specs.charts.ChartDefinitions.{chart_at, quiet_prefix}
use Rattle.sc_live_plain.specs.PlainDefinitions.{replicas_after, setting_at, DoHintsRise, AreFramesOf, Frame}
use Rattle.sc_live_answers.specs.ClientAnswers.{AreReached}
use Rattle.sc_live_answers.specs.Settings.{AreAtNodes}
use Rattle.sc_live_answers.specs.RestingPrefixes.{RestsAt}

-- by the chart of rows behind a quiet prefix that rests, each hint of that prefix leads nearer to a leader, and each node that leads is at distance 0, where a way may be longer by one than the number of orders given so far
abbrev pub ChartHintsRise : Type 0
ChartHintsRise =
    (words : ℕ → ℕ → ℕ × ℕ) (scenario : Scenario) (first : Base) (others : List Base) (journal quiet later : Rows) (far sent : ℕ) (frames : List Frame) → IsValid scenario → scenario.groups ≡ first ∷ others → Lawful as_nodes words scenario quiet → RestsAt words scenario first journal quiet → AreAtNodes scenario quiet
    → quiet_prefix (players words (births as_nodes scenario)) later ≡ quiet → orders quiet + 1 ≤ far → AreFramesOf (replicas_after scenario quiet) frames
    → DoHintsRise (replicas_after scenario quiet) (chart_at far sent (players words (births as_nodes scenario)) later).ways
    × AreReached (setting_at (replicas_after scenario quiet) frames (chart_at far sent (players words (births as_nodes scenario)) later).ways)
