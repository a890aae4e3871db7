-- A node of a scenario stays a node, and keeps its number.
use Rattle.std.proofs.Common.{◌≡◌, ℕ, eqb, cond, true, false, Bool, List, [], ◌∷◌, ◌++◌, Option, Some, None, refl, ◌∙◌, ap}
use Rattle.sc_node_table.specs.Values.{OrderLine, Mail, Node, Input}
use Rattle.sc_actor.specs.Definitions.{value, acted, replay, input_of}
use Rattle.sc_node_table.specs.NodeDefinitions.{NodeState, node_table, born_node, slots_ahead}
use Rattle.sc_scenario.specs.declared.scenario.scenarios.Scenario.{Scenario}
use Rattle.sc_meaning.specs.sound.SoundDefinitions.{player_table, node_seat, as_nodes}
use Rattle.sc_live_steps.specs.calm.CalmDefinitions.{Rows}
use Rattle.sc_live_journals.specs.groups.GroupDefinitions.{NodesKeepTops, NodesAreBornTopped}

node_step : (node : NodeState) (o : Option (Input Mail OrderLine)) → (later : NodeState) × ((acted player_table (Node node) o).0 ≡ Node later)
node_step node None = (node, refl)
node_step node (Some input) = ((node_table node input).0, refl)

pub node_replays : (who : ℕ) (sent : List Mail) (rows : Rows) (node : NodeState) → (later : NodeState) × (replay player_table who (Node node) sent rows ≡ Node later)
node_replays who sent [] node = (node, refl)
node_replays who sent (row ∷ rows) node = by (eqb row.who who) (λ later. node_replays who (sent ++ row.sent) rows later)
  where
    by : (b : Bool) → ((later : NodeState) → (last : NodeState) × (replay player_table who (Node later) (sent ++ row.sent) rows ≡ Node last))
        → (last : NodeState) × (replay player_table who (cond b (acted player_table (Node node) (input_of sent row.event)).0 (Node node)) (sent ++ row.sent) rows ≡ Node last)
    by true more = (let step = node_step node (input_of sent row.event) in let rest = more step.0 in (rest.0, ap (λ player. replay player_table who player (sent ++ row.sent) rows) step.1 ∙ rest.1))
    by false more = more node

pub node_value : NodesKeepTops → NodesAreBornTopped → (scenario : Scenario) (rows : Rows) (me : ℕ) → (node : NodeState) × (value player_table (node_seat as_nodes scenario.groups scenario.policy me) rows ≡ Node node) × (node.me ≡ me)
node_value keep born scenario rows me =
    let fact = node_replays me [] rows (born_node slots_ahead me scenario.groups scenario.policy) in
    (fact.0, fact.1, (keep (node_seat as_nodes scenario.groups scenario.policy me) rows (born_node slots_ahead me scenario.groups scenario.policy) fact.0 refl (born me scenario.groups scenario.policy) fact.1).1)
