-- The chart of some rows counts as the setting does that the last quiet journal before them gives.
use Rattle.std.specs.Prelude.{◌≡◌, ℕ, List, ◌∷◌, Some}
use Rattle.sc_node_table.specs.Values.{Draw, Base, Route, OrderLine, Mail, Row}
use Rattle.sc_node_table.specs.NodeDefinitions.{ReplicaState}
use Rattle.sc_scenario.specs.declared.scenario.scenarios.Scenario.{Scenario}
use Rattle.sc_scenario.specs.scenario.Definitions.{IsValid}
use Rattle.sc_meaning.specs.sound.SoundDefinitions.{as_nodes, births, Lawful}
use Rattle.sc_live_steps.specs.calm.CalmDefinitions.{players, View as Replicas}
use Rattle.sc_live_journals.specs.charts.ChartDefinitions.{all_replicas, names_at, chart_at, GoInTurn, quiet_prefix}
use Rattle.sc_live_plain.specs.PlainDefinitions.{replicas_after, setting_at, AreFramesOf, IsQuietJournal, Frame}
use Rattle.sc_live_answers.specs.RequestPremises.{CountsAs}
use Rattle.sc_live_answers.specs.Settings.{AreAtNodes, AreReachable}

-- replicas of one group that are gone know the same route by which it went
abbrev pub GoneAgree : Replicas → Type 0
GoneAgree at =
    (group : Draw) (one other : ℕ) (r s : ReplicaState) (into elsewhere : Route) → at group one ≡ Some r → at group other ≡ Some s → r.group.core.gone ≡ Some into → s.group.core.gone ≡ Some elsewhere → into ≡ elsewhere

-- the chart of rows behind a quiet journal counts as the journal's setting does (`CountsAs`), where groups went one after another
abbrev pub QuietChartsCount : Type 0
QuietChartsCount =
    (words : ℕ → ℕ → ℕ × ℕ) (scenario : Scenario) (first : Base) (others : List Base) (rows later : List (Row Mail OrderLine)) (far sent : ℕ) (frames : List Frame) (turn : Draw → ℕ)
    → IsValid scenario → scenario.groups ≡ first ∷ others → Lawful as_nodes words scenario rows → IsQuietJournal words scenario first rows → AreAtNodes scenario rows → AreFramesOf (replicas_after scenario rows) frames
    → AreReachable (replicas_after scenario rows) → GoneAgree (replicas_after scenario rows) → quiet_prefix (players words (births as_nodes scenario)) later ≡ rows
    → GoInTurn (names_at (births as_nodes scenario) rows) (all_replicas (births as_nodes scenario) rows) turn
    → CountsAs (setting_at (replicas_after scenario rows) frames (chart_at far sent (players words (births as_nodes scenario)) later).ways) (chart_at far sent (players words (births as_nodes scenario)) later)
