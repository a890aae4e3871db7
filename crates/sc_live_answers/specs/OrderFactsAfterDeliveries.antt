-- What `IsTrueSince` says of an order holds after one more delivery, and whom the order asks then.
use Rattle.std.specs.Prelude.{◌≡◌, ℕ, ◌⊎◌}
use Rattle.sc_node_table.specs.Values.{Seat, Deliver, Base}
use Rattle.sc_scenario.specs.declared.scenario.scenarios.Scenario.{Scenario}
use Rattle.sc_meaning.specs.sound.SoundDefinitions.{Player, as_nodes, births}
use Rattle.sc_live_steps.specs.calm.CalmDefinitions.{StandsQuiet, Rows}
use Rattle.sc_live_steps.specs.orders.OrderDefinitions.{Asks, Deal, IsAt, Stage}
use Rattle.sc_live_journals.specs.rows.RowDefinitions.{with_event}
use Rattle.sc_live_journals.specs.scenes.SceneDefinitions.{FindsOrder, AreUntouched, IsDelivered, IsThere, GoesBy, scene_at}
use Rattle.sc_live_plain.specs.PlainDefinitions.{replicas_after}
use Rattle.sc_live_answers.specs.CalmJournals.{ContinuesBy, IsCalmJournal}
use Rattle.sc_live_answers.specs.RestingPrefixes.{RestsAt}
use Rattle.sc_live_answers.specs.OrderFacts.{AreSeen, IsTrueSince}

-- what is known where rows since a quiet prefix of a calm journal go on by a delivery that finds what an order needs, while this stage stands
pub record ContinuesSince (words : ℕ → ℕ → ℕ × ℕ) (scenario : Scenario) (first : Base) (journal quiet rows : Rows) (seat : Seat Player) (number : ℕ) (stage : Stage) : Type 0 where
  pub calm : IsCalmJournal words scenario journal
  pub rests : RestsAt words scenario first journal quiet
  pub seen : AreSeen scenario quiet
  pub untouched : AreUntouched words (births as_nodes scenario) quiet rows stage
  pub true_since : IsTrueSince scenario quiet rows stage
  pub goes : ContinuesBy words scenario journal rows seat number
  pub finds : FindsOrder words (births as_nodes scenario) rows seat (Deliver number)

-- a group that is asked after the delivery stood in the quiet prefix
abbrev pub AskedGroupsStood : Type 0
AskedGroupsStood =
    (words : ℕ → ℕ → ℕ × ℕ) (scenario : Scenario) (first : Base) (journal quiet rows : Rows) (seat : Seat Player) (number : ℕ) (stage : Stage) → ContinuesSince words scenario first journal quiet rows seat number stage
    → (deal : Deal) (to : ℕ) → IsAt (Asks deal to) (scene_at (births as_nodes scenario) (with_event rows seat (Deliver number)))
    → StandsQuiet (replicas_after scenario quiet) deal.asked × IsThere (births as_nodes scenario) quiet deal.asked

-- a delivery as `ContinuesSince` says keeps `IsTrueSince`, at the stage after it
abbrev pub TrueOrdersGoOn : Type 0
TrueOrdersGoOn =
    (words : ℕ → ℕ → ℕ × ℕ) (scenario : Scenario) (first : Base) (journal quiet rows : Rows) (seat : Seat Player) (number : ℕ) (stage later : Stage) → ContinuesSince words scenario first journal quiet rows seat number stage
    → IsDelivered words (births as_nodes scenario) quiet rows seat number → AreUntouched words (births as_nodes scenario) quiet (with_event rows seat (Deliver number)) later
    → (later ≡ stage) ⊎ GoesBy rows (Deliver number) stage later → IsTrueSince scenario quiet (with_event rows seat (Deliver number)) later
