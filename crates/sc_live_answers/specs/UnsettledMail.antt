-- Mail of a transaction which is under way since a quiet prefix finds what `IsUnsettled` says.
use Rattle.std.specs.Prelude.{◌≡◌, ℕ, Option, Some}
use Rattle.sc_node_table.specs.Values.{Seat, Draw, Base, Mail, TxElsewhere}
use Rattle.sc_node_table.specs.NodeDefinitions.{NodeState, replica_of, ReplicaState}
use Rattle.sc_scenario.specs.declared.scenario.scenarios.Scenario.{Scenario}
use Rattle.sc_meaning.specs.sound.SoundDefinitions.{Player, as_nodes, births}
use Rattle.sc_live_steps.specs.calm.CalmDefinitions.{Rows}
use Rattle.sc_live_steps.specs.orders.OrderDefinitions.{Stage}
use Rattle.sc_live_journals.specs.scenes.SceneDefinitions.{AreUntouched, IsTaking}
use Rattle.sc_live_answers.specs.FollowerMail.{IsUnsettled}
use Rattle.sc_live_answers.specs.CalmJournals.{IsCalmJournal}
use Rattle.sc_live_answers.specs.RestingPrefixes.{RestsAt}
use Rattle.sc_live_answers.specs.OrderFacts.{AreSeen, IsTrueSince}

-- what is known where a replica takes a mail while an order is at a stage, since a quiet prefix of a calm journal
pub record TakesSince (words : ℕ → ℕ → ℕ × ℕ) (scenario : Scenario) (first : Base) (journal quiet rows : Rows) (seat : Seat Player) (number : ℕ) (mail : Mail) (group : Draw) (node : NodeState) (r : ReplicaState) (stage : Stage) : Type 0 where
  pub calm : IsCalmJournal words scenario journal
  pub rests : RestsAt words scenario first journal quiet
  pub seen : AreSeen scenario quiet
  pub untouched : AreUntouched words (births as_nodes scenario) quiet rows stage
  pub true_since : IsTrueSince scenario quiet rows stage
  pub taking : IsTaking words (births as_nodes scenario) rows seat number mail group node
  pub here : replica_of group node.replicas ≡ Some r

-- a mail of a transaction that a replica takes as `TakesSince` says finds what `IsUnsettled` says, where it is no TxElsewhere: a question, that the group has cast no vote on it; a vote, that no outcome is noted
abbrev pub MailComesUnsettled : Type 0
MailComesUnsettled =
    (words : ℕ → ℕ → ℕ × ℕ) (scenario : Scenario) (first : Base) (journal quiet rows : Rows) (seat : Seat Player) (number : ℕ) (mail : Mail) (group : Draw) (node : NodeState) (r : ReplicaState) (stage : Stage)
    → TakesSince words scenario first journal quiet rows seat number mail group node r stage
    → ((tx coord : Draw) (hint : Option ℕ) → mail.body ≡ TxElsewhere tx coord hint → ⊥) → IsUnsettled r mail.body
