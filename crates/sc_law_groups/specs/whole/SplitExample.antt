-- A worked journal of two nodes: a lone group splits, the second node makes the child, and a client that asks the parent for a key of the child is sent on to the child, which decides the request.
use Rattle.std.specs.Prelude.{ℕ, false, List, [], ◌∷◌}
use Rattle.sc_node_table.specs.Values.{Ballot, Draw, Op, Put, Command, Call, Split, Base, Link, OrderLine, Mail, Request, Answer, Accept, Accepted, Learn, Told as ToldMail, Row, Deliver, Go}
use Rattle.sc_words.specs.declared.commands.orders.Order.TheVariants as An
use Rattle.sc_words.specs.declared.commands.orders.OrderResult.TheVariants as Results
use Rattle.sc_mail.specs.declared.bodies.AnswerBody.TheVariants as Says
use Rattle.sc_group_table.specs.machine.MachineDefinitions.{group_of, child_of}
use Rattle.sc_actor.specs.declared.rows.Event.TheVariants.{Told}
use Rattle.sc_meaning.specs.declared.entries.Cut.{Cut}
use Rattle.sc_scenario.specs.scenario.Definitions.{lone_group, lone_name}
use Rattle.sc_scenario.specs.declared.scenario.scenarios.SchedLine.TheVariants as line
use Rattle.sc_scenario.specs.declared.scenario.scenarios.Scenario.{Scenario}
use Rattle.sc_meaning.specs.sound.SoundDefinitions.{mail, row}

-- the group: both nodes, with the whole ring
abbrev pub pair : Base
pair = lone_group 0 (1 ∷ 2 ∷ [])

-- the position at which the group splits: keys from p on go to the child
abbrev pub place : ℕ
place = 1879048192

-- the name of the child, the first that node 1 draws
abbrev pub kid_name : Draw
kid_name = record { node = 1; count = 1 }

-- the order to split
abbrev pub split_order : OrderLine
split_order = record { number = 1; order = An.Split lone_name place }

-- the order, as a command
abbrev pub lone_split : Command
lone_split = Split place kid_name 1

-- the birth record of the child, whose one member is node 2
abbrev pub kid : Base
kid = child_of (group_of pair) place kid_name

-- the one request: put x at the key z, which is the child's
abbrev pub put_z : Op
put_z = Put (122 ∷ []) (120 ∷ [])

-- the request, as a command
abbrev pub lone_call : Command
lone_call = Call 1 1 put_z

-- the scenario: the split is ordered and carried out, and then the client starts
abbrev pub split_scenario : Scenario
split_scenario = record {
  nodes = 2;
  groups = pair ∷ [];
  policy = false;
  clients = record { client = 1; ops = put_z ∷ [] } ∷ [];
  lines = line.Told 1 split_order ∷ line.Settle 100 ∷ line.Go 1 ∷ line.Settle 100 ∷ [];
  brief = false;
  version = 1;
}

-- the first ballot of the parent's leader
abbrev pub lone_ballot : Ballot
lone_ballot = record { round = 1; node = 1 }

-- the first ballot of the child, whose leader is its own member
abbrev pub kid_leads : Ballot
kid_leads = record { round = 1; node = 2 }

-- the link to the child: its name and its member
abbrev pub kid_link : Link
kid_link = record { group = kid_name; members = 2 ∷ [] }

-- the rows: both nodes decide the split; node 2 executes it when it learns it, and leads the child from its birth
abbrev pub split_example : List (Row Mail OrderLine)
split_example =
    row 1 (Told split_order) (record { from = 1; to = 1; body = Accept lone_name lone_ballot 1 lone_split } ∷ record { from = 1; to = 2; body = Accept lone_name lone_ballot 1 lone_split } ∷ [])
    ∷ row 1 (Deliver 1) (mail 1 1 (Accepted lone_name lone_ballot 1))
    ∷ row 2 (Deliver 2) (mail 2 1 (Accepted lone_name lone_ballot 1))
    ∷ row 1 (Deliver 3) []
    ∷ row 1 (Deliver 4) (record { from = 1; to = 0; body = ToldMail 1 Results.Done } ∷ record { from = 1; to = 2; body = Learn lone_name 1 lone_split } ∷ [])
    ∷ row 2 (Deliver 6) (mail 2 0 (ToldMail 1 Results.Done))
    ∷ row 33 Go (mail 33 1 (Request lone_name 1 1 put_z))
    ∷ row 1 (Deliver 8) (mail 1 33 (Answer lone_name 1 (Says.NotMine (record { lo = 0; len = place }) kid_link)))
    ∷ row 33 (Deliver 9) (mail 33 2 (Request kid_name 1 1 put_z))
    ∷ row 2 (Deliver 10) (mail 2 2 (Accept kid_name kid_leads 1 lone_call))
    ∷ row 2 (Deliver 11) (mail 2 2 (Accepted kid_name kid_leads 1)) ∷ []

-- the ring after the rows
abbrev pub parts : List Cut
parts = record { arc = record { lo = 0; len = place }; group = lone_name } ∷ record { arc = record { lo = place; len = 2415919104 }; group = kid_name } ∷ []
