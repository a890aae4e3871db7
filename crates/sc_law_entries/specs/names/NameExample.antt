-- A worked journal of three orders to one node: two splits, and a merge of a group that has no neighbour.
use Rattle.std.specs.Prelude.{false, [], ◌∷◌}
use Rattle.sc_node_table.specs.Values.{Draw, Split, OrderLine, Accept, Told as ToldMail}
use Rattle.sc_words.specs.declared.commands.orders.Order.TheVariants as An
use Rattle.sc_words.specs.declared.commands.orders.OrderRefusal.TheVariants as Why
use Rattle.sc_words.specs.declared.commands.orders.OrderResult.TheVariants as Results
use Rattle.sc_actor.specs.declared.rows.Event.TheVariants.{Told}
use Rattle.sc_scenario.specs.scenario.Definitions.{lone_group, lone_name}
use Rattle.sc_scenario.specs.declared.scenario.scenarios.SchedLine.TheVariants as line
use Rattle.sc_scenario.specs.declared.scenario.scenarios.Scenario.{Scenario}
use Rattle.sc_meaning.specs.sound.SoundDefinitions.{ballot, mail, row}
use Rattle.sc_law_entries.specs.names.Owners.{Rows}

-- the first name that node 1 draws
abbrev pub example_name : Draw
example_name = record { node = 1; count = 1 }

-- the second name that node 1 draws
abbrev pub second_name : Draw
second_name = record { node = 1; count = 2 }

-- the third name of node 1, which is not drawn
abbrev pub third_name : Draw
third_name = record { node = 1; count = 3 }

-- the first order: to split the group at position 7
abbrev pub first_order : OrderLine
first_order = record { number = 1; order = An.Split lone_name 7 }

-- the second order: to split the group at the same position
abbrev pub second_order : OrderLine
second_order = record { number = 2; order = An.Split lone_name 7 }

-- the third order: to merge the group
abbrev pub third_order : OrderLine
third_order = record { number = 3; order = An.Merge lone_name }

-- the scenario: a lone group of two nodes, and the three orders
abbrev pub drawing_scenario : Scenario
drawing_scenario = record {
  nodes = 2;
  groups = lone_group 0 (1 ∷ 2 ∷ []) ∷ [];
  policy = false;
  clients = [];
  lines = line.Told 1 first_order ∷ line.Told 1 second_order ∷ line.Told 1 third_order ∷ [];
  brief = false;
  version = 1;
}

-- the rows: the first split is offered, the second waits, and the merge is refused
abbrev pub drawing_rows : Rows
drawing_rows =
    row 1 (Told first_order) (record { from = 1; to = 1; body = Accept lone_name ballot 1 (Split 7 example_name 1) } ∷ record { from = 1; to = 2; body = Accept lone_name ballot 1 (Split 7 example_name 1) } ∷ [])
    ∷ row 1 (Told second_order) []
    ∷ row 1 (Told third_order) (mail 1 0 (ToldMail 3 (Results.Refused Why.NoNeighbour))) ∷ []
