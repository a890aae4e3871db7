-- A leader may count votes for what is in flight at it while an order is under way.
use Rattle.std.specs.Prelude.{ℕ, ◌≤◌, length}
use Rattle.sc_base.specs.Definitions.{Among}
use Rattle.sc_node_table.specs.Values.{Draw, Command, Base, Flight}
use Rattle.sc_group_table.specs.machine.MachineDefinitions.{applied}
use Rattle.sc_scenario.specs.declared.scenario.scenarios.Scenario.{Scenario}
use Rattle.sc_node_table.specs.NodeDefinitions.{ReplicaState}
use Rattle.sc_live_steps.specs.calm.CalmDefinitions.{Rows}
use Rattle.sc_live_steps.specs.orders.OrderDefinitions.{Stage}
use Rattle.sc_live_steps.specs.entries.StageEntries.{IsEntry}
use Rattle.sc_live_answers.specs.TrueEntries.{LeadsSince}

-- each command in flight at a leader is an entry of an order, and leaves at most nine members
abbrev pub FlightsAreEntries : Type 0
FlightsAreEntries =
    (words : ℕ → ℕ → ℕ × ℕ) (scenario : Scenario) (first : Base) (journal quiet rows : Rows) (name : Draw) (node : ℕ) (r : ReplicaState) (stage : Stage) → LeadsSince words scenario first journal quiet rows name node r stage
    → (flight : Flight Command) → Among flight r.leader.flights → IsEntry flight.value r × (length (applied r.group flight.value).0.core.members ≤ 9)
