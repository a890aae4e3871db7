-- A worked journal of three nodes and one client: two nodes accept a value, another node is elected, and it offers that value again.
use Rattle.std.specs.Prelude.{ℕ, false, List, [], ◌∷◌}
use Rattle.sc_node_table.specs.Values.{Command, Call, Base, OrderLine, Mail, MailBody, Request, Prepare, Promise, Accept, Accepted, Row, Deliver, Tick, Go}
use Rattle.sc_scenario.specs.scenario.Definitions.{lone_name, lone_group}
use Rattle.sc_scenario.specs.declared.scenario.scenarios.SchedLine.TheVariants as line
use Rattle.sc_scenario.specs.declared.scenario.scenarios.Scenario.{Scenario}
use Rattle.sc_paxos_law.specs.PaxosLawDefinitions.{first, second}
use Rattle.sc_meaning.specs.sound.SoundDefinitions.{put_it, mail, row}

-- one group of the nodes 1 to 3, which has the whole ring
abbrev pub three_nodes : Base
three_nodes = lone_group 0 (1 ∷ 2 ∷ 3 ∷ [])

-- the scenario: one client puts a value
abbrev pub election_scenario : Scenario
election_scenario = record {
  nodes = 3;
  groups = three_nodes ∷ [];
  policy = false;
  clients = record { client = 1; ops = put_it ∷ [] } ∷ [];
  lines = line.Go 1 ∷ line.Deliver 1 1 ∷ line.Deliver 2 1 ∷ line.Deliver 3 1 ∷ line.Tick 2 ∷ line.Deliver 3 1 ∷ line.Deliver 2 1 ∷ line.Deliver 2 1 ∷ line.Deliver 2 1 ∷ [];
  brief = false;
  version = 1;
}

-- the one request, as a command
abbrev pub example_call : Command
example_call = Call 1 1 put_it

-- the same mail to each of the three nodes
abbrev pub to_each : ℕ → MailBody → List Mail
to_each from body = record { from = from; to = 1; body = body } ∷ record { from = from; to = 2; body = body } ∷ record { from = from; to = 3; body = body } ∷ []

-- the rows: nodes 2 and 3 accept, which decides the call, and node 1 never learns of it; then node 2 is elected by node 3 and itself, and offers the call again
abbrev pub election_example : List (Row Mail OrderLine)
election_example =
    row 33 Go (mail 33 1 (Request lone_name 1 1 put_it))
    ∷ row 1 (Deliver 1) (to_each 1 (Accept lone_name first 1 example_call))
    ∷ row 2 (Deliver 3) (mail 2 1 (Accepted lone_name first 1))
    ∷ row 3 (Deliver 4) (mail 3 1 (Accepted lone_name first 1))
    ∷ row 2 Tick (to_each 2 (Prepare lone_name second 1))
    ∷ row 3 (Deliver 9) (mail 3 2 (Promise lone_name second (record { slot = 1; ballot = first; value = example_call } ∷ [])))
    ∷ row 2 (Deliver 8) (mail 2 2 (Promise lone_name second (record { slot = 1; ballot = first; value = example_call } ∷ [])))
    ∷ row 2 (Deliver 10) []
    ∷ row 2 (Deliver 11) (to_each 2 (Accept lone_name second 1 example_call)) ∷ []
