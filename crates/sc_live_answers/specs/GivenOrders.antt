-- Which orders a calm scenario gives.
use Rattle.std.specs.Prelude.{ℕ, ◌^◌, ◌&&◌, nat_le, nat_lt, Bool, true, List}
use Rattle.sc_node_table.specs.Values.{Order, Merge, Repart, Migrate, OrderLine, Mail, Row}
use Rattle.sc_words.specs.declared.commands.orders.Order.TheVariants.{Join, Leave, Split}
use Rattle.sc_live_orderly.specs.OrderlyDefinitions.{GiveAllowedOrders}
use Rattle.sc_scenario.specs.declared.scenario.scenarios.Scenario.{Scenario}
use Rattle.sc_scenario.specs.scenario.Definitions.{IsValid}
use Rattle.sc_meaning.specs.sound.SoundDefinitions.{as_nodes, Lawful}
use Rattle.sc_live_plain.specs.PlainDefinitions.{HasCalmLines}

-- whether an order names nodes of a scenario with this number of nodes, and positions of the circle
abbrev pub names_nodes : ℕ → Order → Bool
names_nodes nodes (Join node group) = nat_le 1 node && nat_le node nodes
names_nodes nodes (Leave node group) = nat_le 1 node && nat_le node nodes
names_nodes nodes (Split group at) = nat_lt at (2 ^ 32)
names_nodes nodes (Merge group) = true
names_nodes nodes (Repart group at) = nat_lt at (2 ^ 32)
names_nodes nodes (Migrate group node) = nat_le 1 node && nat_le node nodes

-- whether a line may give this order to this node: the node is one of the scenario, the order names nodes and positions that exist, and its number is at least 1
abbrev pub may_be_given : Scenario → ℕ → OrderLine → Bool
may_be_given scenario node line = (nat_le 1 node && nat_le node scenario.nodes) && (names_nodes scenario.nodes line.order && nat_le 1 line.number)

-- in each lawful journal of a valid scenario of calm lines each order that a row gives is one that a line may give
abbrev pub OrdersMayBeGiven : Type 0
OrdersMayBeGiven =
    (words : ℕ → ℕ → ℕ × ℕ) (scenario : Scenario) (journal : List (Row Mail OrderLine))
    → IsValid scenario → HasCalmLines scenario → Lawful as_nodes words scenario journal → GiveAllowedOrders (may_be_given scenario) journal
