-- A leader can carry out the outcome that it has in flight, since a quiet prefix.
use Rattle.std.specs.Prelude.{◌≡◌, ℕ}
use Rattle.sc_base.specs.Definitions.{Among, Each}
use Rattle.sc_node_table.specs.Values.{Draw, Command, Finish, Base, Outcome, Flight}
use Rattle.sc_node_table.specs.NodeDefinitions.{ReplicaState}
use Rattle.sc_scenario.specs.declared.scenario.scenarios.Scenario.{Scenario}
use Rattle.sc_live_steps.specs.calm.CalmDefinitions.{Rows}
use Rattle.sc_live_steps.specs.orders.OrderDefinitions.{Stage}
use Rattle.sc_live_answers.specs.LeaderVotes.{IsTrueEntry}
use Rattle.sc_live_answers.specs.TrueEntries.{LeadsSince}

-- an outcome in flight at a party can be carried out: a watcher can carry out each, and a participant each that the journal's logs give its transaction
abbrev pub FinishesAreTrue : Type 0
FinishesAreTrue =
    (words : ℕ → ℕ → ℕ × ℕ) (scenario : Scenario) (first : Base) (journal quiet rows : Rows) (name : Draw) (node : ℕ) (r : ReplicaState) (stage : Stage) → LeadsSince words scenario first journal quiet rows name node r stage
    → (flight : Flight Command) → Among flight r.leader.flights → (tx : Draw) (outcome : Outcome) → flight.value ≡ Finish tx outcome → IsTrueEntry r.me r.group (Finish tx outcome)

-- each command of an order that a leader has in flight is true (`IsTrueEntry`)
abbrev pub EntriesAreTrue : Type 0
EntriesAreTrue =
    (words : ℕ → ℕ → ℕ × ℕ) (scenario : Scenario) (first : Base) (journal quiet rows : Rows) (name : Draw) (node : ℕ) (r : ReplicaState) (stage : Stage) → LeadsSince words scenario first journal quiet rows name node r stage
    → Each (λ (flight : Flight Command). IsTrueEntry r.me r.group flight.value) r.leader.flights
