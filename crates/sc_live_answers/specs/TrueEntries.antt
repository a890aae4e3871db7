-- What leaders have in flight of an order is true, since a quiet prefix.
use Rattle.std.specs.Prelude.{ℕ}
use Rattle.sc_base.specs.Definitions.{Among}
use Rattle.sc_node_table.specs.Values.{Draw, Command, Noop, Call, Join, Leave, Split, Begin, Prepared, RecordVote, GiveUp, Finish, Watched, RecordWatch, Base, Flight}
use Rattle.sc_node_table.specs.NodeDefinitions.{ReplicaState}
use Rattle.sc_scenario.specs.declared.scenario.scenarios.Scenario.{Scenario}
use Rattle.sc_meaning.specs.sound.SoundDefinitions.{as_nodes, births}
use Rattle.sc_live_steps.specs.calm.CalmDefinitions.{Rows}
use Rattle.sc_live_steps.specs.orders.OrderDefinitions.{Stage}
use Rattle.sc_live_journals.specs.scenes.SceneDefinitions.{AreUntouched, LeadsAlone}
use Rattle.sc_live_answers.specs.LeaderVotes.{IsOrdersAlone, IsTrueEntry}
use Rattle.sc_live_answers.specs.CalmJournals.{AreSent, IsCalmJournal, IsPrefixOf}
use Rattle.sc_live_answers.specs.RestingPrefixes.{RestsAt}
use Rattle.sc_live_answers.specs.OrderFacts.{AreSeen, IsTrueSince}

-- what is known of a replica that leads its group alone while an order is at a stage, since a quiet prefix of a calm journal: only work of the order is in flight or ready there
pub record LeadsSince (words : ℕ → ℕ → ℕ × ℕ) (scenario : Scenario) (first : Base) (journal quiet rows : Rows) (name : Draw) (node : ℕ) (r : ReplicaState) (stage : Stage) : Type 0 where
  pub calm : IsCalmJournal words scenario journal
  pub rests : RestsAt words scenario first journal quiet
  pub seen : AreSeen scenario quiet
  pub prefix : IsPrefixOf journal rows
  pub sent : AreSent words scenario journal rows
  pub untouched : AreUntouched words (births as_nodes scenario) quiet rows stage
  pub true_since : IsTrueSince scenario quiet rows stage
  pub leads : LeadsAlone (births as_nodes scenario) rows name node r
  pub alone : IsOrdersAlone r

-- the command begins or asks something, or is the group's own vote: it neither records another group's vote nor carries out an outcome
abbrev pub IsAskedOrCast : Command → Type 0
IsAskedOrCast (RecordVote tx vote by) = ⊥
IsAskedOrCast (RecordWatch tx vote by) = ⊥
IsAskedOrCast (Finish tx outcome) = ⊥
IsAskedOrCast Noop = Unit {0}
IsAskedOrCast (Call client seq op) = Unit {0}
IsAskedOrCast (Join node order) = Unit {0}
IsAskedOrCast (Leave node order) = Unit {0}
IsAskedOrCast (Split at child order) = Unit {0}
IsAskedOrCast (Begin tx body order) = Unit {0}
IsAskedOrCast (Prepared tx offer) = Unit {0}
IsAskedOrCast (GiveUp tx) = Unit {0}
IsAskedOrCast (Watched tx watch) = Unit {0}

-- each command as `IsAskedOrCast` says that a leader has in flight is true (`IsTrueEntry`): one that begins a transaction asks another group; one that votes has not voted before, a watcher says Yes, and the leader stays
abbrev pub VotesAreTrue : Type 0
VotesAreTrue =
    (words : ℕ → ℕ → ℕ × ℕ) (scenario : Scenario) (first : Base) (journal quiet rows : Rows) (name : Draw) (node : ℕ) (r : ReplicaState) (stage : Stage) → LeadsSince words scenario first journal quiet rows name node r stage
    → (flight : Flight Command) → Among flight r.leader.flights → IsAskedOrCast flight.value → IsTrueEntry r.me r.group flight.value
