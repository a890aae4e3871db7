-- What `IsTrueSince` says of an order holds from the row that gives it.
use Rattle.sc_node_table.specs.Values.{Seat, Base, OrderLine}
use Rattle.sc_actor.specs.declared.rows.Event.TheVariants.{Told}
use Rattle.sc_scenario.specs.declared.scenario.scenarios.Scenario.{Scenario}
use Rattle.sc_meaning.specs.sound.SoundDefinitions.{Player, as_nodes, births}
use Rattle.std.specs.Prelude.{ℕ}
use Rattle.sc_live_steps.specs.calm.CalmDefinitions.{Rows}
use Rattle.sc_live_steps.specs.orders.OrderDefinitions.{IsAt, Stage}
use Rattle.sc_live_journals.specs.rows.RowDefinitions.{with_event}
use Rattle.sc_live_journals.specs.scenes.SceneDefinitions.{IsGivenInQuiet, scene_at}
use Rattle.sc_live_answers.specs.CalmJournals.{IsCalmJournal}
use Rattle.sc_live_answers.specs.RestingPrefixes.{RestsAt}
use Rattle.sc_live_answers.specs.OrderFacts.{AreSeen, IsTrueSince}

-- `IsTrueSince` holds at each stage that stands once an order is given in a quiet prefix of a calm journal that rests
abbrev pub TrueOrdersBegin : Type 0
TrueOrdersBegin =
    (words : ℕ → ℕ → ℕ × ℕ) (scenario : Scenario) (first : Base) (journal quiet : Rows) (seat : Seat Player) (line : OrderLine) (stage : Stage) → IsCalmJournal words scenario journal → RestsAt words scenario first journal quiet → AreSeen scenario quiet
    → IsGivenInQuiet words (births as_nodes scenario) quiet seat line → IsAt stage (scene_at (births as_nodes scenario) (with_event quiet seat (Told line))) → IsTrueSince scenario quiet (with_event quiet seat (Told line)) stage
