-- A worked journal of two nodes: the one member of a group gets the order that the other joins, decides it, and sends the state.
use Rattle.std.specs.Prelude.{false, List, [], ◌∷◌}
use Rattle.sc_node_table.specs.Values.{Ballot, Command, Join, OrderLine, Mail, Accept, Accepted, Install, Told as ToldMail, Row, Deliver}
use Rattle.sc_words.specs.declared.commands.orders.Order.TheVariants as An
use Rattle.sc_words.specs.declared.commands.orders.OrderResult.TheVariants as Results
use Rattle.sc_group_table.specs.machine.MachineDefinitions.{Group, group_of, base_of, with_node}
use Rattle.sc_actor.specs.declared.rows.Event.TheVariants.{Told}
use Rattle.sc_scenario.specs.scenario.Definitions.{lone_name}
use Rattle.sc_scenario.specs.declared.scenario.scenarios.SchedLine.TheVariants as line
use Rattle.sc_scenario.specs.declared.scenario.scenarios.Scenario.{Scenario}
use Rattle.sc_meaning.specs.sound.SoundDefinitions.{alone, mail, row}

-- the order that node 2 joins the group
abbrev pub join_order : OrderLine
join_order = record { number = 1; order = An.Join 2 lone_name }

-- the order, as a command
abbrev pub join : Command
join = Join 2 1

-- the scenario: one order, and the deliveries that carry it out
abbrev pub join_scenario : Scenario
join_scenario = record {
  nodes = 2;
  groups = alone ∷ [];
  policy = false;
  clients = [];
  lines = line.Told 1 join_order ∷ line.Deliver 1 1 ∷ line.Deliver 1 1 ∷ line.Deliver 2 1 ∷ [];
  brief = false;
  version = 1;
}

-- the ballot of the first leader
abbrev pub leading : Ballot
leading = record { round = 1; node = 1 }

-- the group with both members
abbrev pub both : Group
both = with_node (group_of alone) 2

-- the rows of the journal; the new member counts for the fifth slot and later ones
abbrev pub join_example : List (Row Mail OrderLine)
join_example =
    row 1 (Told join_order) (mail 1 1 (Accept lone_name leading 1 join))
    ∷ row 1 (Deliver 1) (mail 1 1 (Accepted lone_name leading 1))
    ∷ row 1 (Deliver 2) (record { from = 1; to = 0; body = ToldMail 1 Results.Done }
    ∷ record { from = 1; to = 2; body = Install lone_name 1 (base_of both) ((1 ∷ []) ∷ (1 ∷ []) ∷ (1 ∷ []) ∷ (1 ∷ 2 ∷ []) ∷ []) } ∷ [])
    ∷ row 2 (Deliver 4) [] ∷ []
