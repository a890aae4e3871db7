-- An order given in a quiet prefix that rests finds what the potential needs.
use Rattle.std.specs.Prelude.{ℕ}
use Rattle.sc_node_table.specs.Values.{Base, OrderLine, Seat}
use Rattle.sc_actor.specs.declared.rows.Event.TheVariants.{Told}
use Rattle.sc_scenario.specs.declared.scenario.scenarios.Scenario.{Scenario}
use Rattle.sc_meaning.specs.sound.SoundDefinitions.{Player, births, as_nodes}
use Rattle.sc_live_steps.specs.calm.CalmDefinitions.{players, FindsCalm, Rows}
use Rattle.sc_live_journals.specs.rows.RowDefinitions.{IsSeat}
use Rattle.sc_live_journals.specs.charts.ChartDefinitions.{chart_at}
use Rattle.sc_live_answers.specs.Settings.{AreAtNodes}
use Rattle.sc_live_answers.specs.CalmJournals.{IsCalmJournal}
use Rattle.sc_live_answers.specs.RestingPrefixes.{RestsAt}

-- an order given in a quiet prefix that rests finds what the potential needs, whichever player it is given to
abbrev pub GivenOrdersFindCalm : Type 0
GivenOrdersFindCalm =
    (words : ℕ → ℕ → ℕ × ℕ) (scenario : Scenario) (first : Base) (journal quiet : Rows) (far sent : ℕ) (seat : Seat Player) (line : OrderLine) → IsCalmJournal words scenario journal → RestsAt words scenario first journal quiet → AreAtNodes scenario quiet
    → IsSeat (births as_nodes scenario) seat → FindsCalm (chart_at far sent (players words (births as_nodes scenario)) quiet) (births as_nodes scenario) quiet seat (Told line)
