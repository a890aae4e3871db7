-- A vote which a coordinator has in flight is true, since a quiet prefix.
use Rattle.std.specs.Prelude.{ℕ}
use Rattle.sc_base.specs.Definitions.{Among}
use Rattle.sc_node_table.specs.Values.{Draw, Command, Noop, Call, Join, Leave, Split, Begin, Prepared, RecordVote, GiveUp, Finish, Watched, RecordWatch, Base, Flight}
use Rattle.sc_node_table.specs.NodeDefinitions.{ReplicaState}
use Rattle.sc_scenario.specs.declared.scenario.scenarios.Scenario.{Scenario}
use Rattle.sc_live_steps.specs.calm.CalmDefinitions.{Rows}
use Rattle.sc_live_steps.specs.orders.OrderDefinitions.{Stage}
use Rattle.sc_live_answers.specs.LeaderVotes.{IsTrueEntry}
use Rattle.sc_live_answers.specs.TrueEntries.{LeadsSince}

-- the command records a vote: of a participant, or of a watcher
abbrev pub IsRecord : Command → Type 0
IsRecord (RecordVote tx vote by) = Unit {0}
IsRecord (RecordWatch tx vote by) = Unit {0}
IsRecord (Finish tx outcome) = ⊥
IsRecord Noop = ⊥
IsRecord (Call client seq op) = ⊥
IsRecord (Join node order) = ⊥
IsRecord (Leave node order) = ⊥
IsRecord (Split at child order) = ⊥
IsRecord (Begin tx body order) = ⊥
IsRecord (Prepared tx offer) = ⊥
IsRecord (GiveUp tx) = ⊥
IsRecord (Watched tx watch) = ⊥

-- each vote that a coordinator is recording is true (`IsTrueEntry`): a participant's Yes decides, or it asks a watcher that is neither the coordinator nor the participant, and the leader stays; and a watcher's vote decides
abbrev pub RecordsAreTrue : Type 0
RecordsAreTrue =
    (words : ℕ → ℕ → ℕ × ℕ) (scenario : Scenario) (first : Base) (journal quiet rows : Rows) (name : Draw) (node : ℕ) (r : ReplicaState) (stage : Stage) → LeadsSince words scenario first journal quiet rows name node r stage
    → (flight : Flight Command) → Among flight r.leader.flights → IsRecord flight.value → IsTrueEntry r.me r.group flight.value
