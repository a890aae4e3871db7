-- What holds of an order's transaction and of its parties, since the quiet prefix before the order.
use Rattle.std.specs.Prelude.{◌≡◌, ℕ, List, [], ◌∷◌}
use Rattle.sc_base.specs.Definitions.{Each}
use Rattle.sc_node_table.specs.Values.{Draw}
use Rattle.sc_scenario.specs.declared.scenario.scenarios.Scenario.{Scenario}
use Rattle.sc_meaning.specs.sound.SoundDefinitions.{as_nodes, births}
use Rattle.sc_live_steps.specs.calm.CalmDefinitions.{StandsQuiet, Rows}
use Rattle.sc_live_steps.specs.orders.OrderDefinitions.{Stage, Still, Ordered, Asks, SentOn, Weighs, Replied, Recorded, Closes, ClosesBoth}
use Rattle.sc_live_journals.specs.rows.RowDefinitions.{view_at}
use Rattle.sc_live_plain.specs.PlainDefinitions.{replicas_after}
use Rattle.sc_live_answers.specs.Deeds.{HasDone, doers_of}
use Rattle.sc_live_answers.specs.NewTransactions.{IsOfNew}

-- what players have after some rows is what the nodes of the scenario have
abbrev pub AreSeen : Scenario → Rows → Type 0
AreSeen scenario rows = (name : Draw) (node : ℕ) → view_at (births as_nodes scenario) rows name node ≡ replicas_after scenario rows name node

-- the group that is asked at a stage, if any
abbrev pub asked_of : Stage → List Draw
asked_of Still = []
asked_of (Ordered group chief work) = []
asked_of (Asks deal to) = deal.asked ∷ []
asked_of (SentOn deal) = deal.asked ∷ []
asked_of (Weighs deal host) = deal.asked ∷ []
asked_of (Replied deal agreed host) = deal.asked ∷ []
asked_of (Recorded deal agreed host) = deal.asked ∷ []
asked_of (Closes tx party) = []
asked_of (ClosesBoth tx one two) = []

-- of an order at a stage, since a quiet prefix: its transaction has a name that was not in use then, its leaders have executed what the stage says and no more, and the group that is asked stood then
pub record IsTrueSince (scenario : Scenario) (quiet rows : Rows) (stage : Stage) : Type 0 where
  pub new : IsOfNew scenario quiet stage
  pub done : Each (HasDone (births as_nodes scenario) quiet rows) (doers_of stage)
  pub asked : Each (StandsQuiet (replicas_after scenario quiet)) (asked_of stage)
