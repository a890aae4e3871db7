-- A worked journal of two groups on one node: a client asks the first, is sent on to the second, and the node ticks, which each of its replicas does in turn.
use Rattle.std.specs.Prelude.{ℕ, false, List, [], ◌∷◌, None}
use Rattle.sc_node_table.specs.Values.{Draw, Command, Call, Base, Free, Link, OrderLine, NotMine, Mail, Request, Answer, Accept, Accepted, Row, Deliver, Tick, Go}
use Rattle.sc_scenario.specs.declared.scenario.scenarios.SchedLine.TheVariants as line
use Rattle.sc_scenario.specs.declared.scenario.scenarios.Scenario.{Scenario}
use Rattle.sc_meaning.specs.sound.SoundDefinitions.{ballot, put_it, mail, row}

-- the name of the first group
abbrev pub one : Draw
one = record { node = 0; count = 1 }

-- the name of the second group
abbrev pub two : Draw
two = record { node = 0; count = 2 }

-- the link to a group whose one member is node 1
abbrev pub link : Draw → Link
link name = record { group = name; members = 1 ∷ [] }

-- the birth record of a group with this arc, which has the other group as neighbour on both sides
abbrev pub half : Draw → Draw → ℕ → ℕ → Base
half name other lo len = record {
  core = record {
    id = name;
    first = 1;
    arc = record { lo = lo; len = len };
    members = 1 ∷ [];
    succ = link other;
    pred = link other;
    lock = Free;
    begun = 0;
    decided = [];
    voted = [];
    born = [];
    gone = None;
  };
  pairs = [];
  clients = [];
}

-- the first group: it has the keys whose first byte is below 96, so none that begins with a lower-case letter
abbrev pub lower_group : Base
lower_group = half one two 0 1610612736

-- the second group: it has the other positions
abbrev pub upper_group : Base
upper_group = half two one 1610612736 2684354560

-- the scenario: one client puts a value at a key of the second group
abbrev pub two_scenario : Scenario
two_scenario = record {
  nodes = 1;
  groups = lower_group ∷ upper_group ∷ [];
  policy = false;
  clients = record { client = 1; ops = put_it ∷ [] } ∷ [];
  lines = line.Go 1 ∷ line.Settle 3 ∷ line.Tick 1 ∷ line.Settle 100 ∷ [];
  brief = false;
  version = 1;
}

-- the one request, as a command
abbrev pub put_it_call : Command
put_it_call = Call 1 1 put_it

-- the rows: the first group does not hold the key; the second offers the request, once more at the tick, and accepts it
abbrev pub two_example : List (Row Mail OrderLine)
two_example =
    row 33 Go (mail 33 1 (Request one 1 1 put_it))
    ∷ row 1 (Deliver 1) (mail 1 33 (Answer one 1 (NotMine (record { lo = 0; len = 1610612736 }) (link two))))
    ∷ row 33 (Deliver 2) (mail 33 1 (Request two 1 1 put_it))
    ∷ row 1 (Deliver 3) (mail 1 1 (Accept two ballot 1 put_it_call))
    ∷ row 1 Tick (mail 1 1 (Accept two ballot 1 put_it_call))
    ∷ row 1 (Deliver 4) (mail 1 1 (Accepted two ballot 1))
    ∷ row 1 (Deliver 5) (mail 1 1 (Accepted two ballot 1)) ∷ []
