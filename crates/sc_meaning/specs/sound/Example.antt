-- A worked journal: a client puts a value at a key and gets it, from a group of one member, which leads.
use Rattle.std.specs.Prelude.{ℕ, false, List, [], ◌∷◌, Some, None}
use Rattle.std.proofs.Common.{lit≤}
use Rattle.sc_node_table.specs.Values.{Ballot, Op, Get, Put, Call, OrderLine, Value, Mail, MailBody, Request, Answer, Accept, Accepted, Row, Event, Deliver, Go, Entry, Base}
use Rattle.sc_scenario.specs.scenario.Definitions.{lone_name, lone_group}
use Rattle.sc_scenario.specs.declared.scenario.scenarios.SchedLine.TheVariants.{Go as GoLine, Settle}
use Rattle.sc_scenario.specs.declared.scenario.scenarios.Scenario.{Scenario}
use Rattle.sc_meaning.specs.sound.Players.{Ahead}

-- four slots are open at a time
abbrev pub four : Ahead
four = record { slots = 4; some = lit≤ tt }

-- the first request: put x at the key a
abbrev pub put_it : Op
put_it = Put (97 ∷ []) (120 ∷ [])

-- the second request: get the value at the key a
abbrev pub get_it : Op
get_it = Get (97 ∷ [])

-- the ballot of the one member
abbrev pub ballot : Ballot
ballot = record { round = 1; node = 1 }

-- the list of one mail with this sender, receiver and body
abbrev pub mail : ℕ → ℕ → MailBody → List Mail
mail from to body = record { from = from; to = to; body = body } ∷ []

-- a row of this actor, event and mail
abbrev pub row : ℕ → Event OrderLine → List Mail → Row Mail OrderLine
row who event sent = record { who = who; event = event; sent = sent }

-- the rows: each request is offered, accepted and answered
abbrev pub example_rows : List (Row Mail OrderLine)
example_rows =
    row 33 Go (mail 33 1 (Request lone_name 1 1 put_it))
    ∷ row 1 (Deliver 1) (mail 1 1 (Accept lone_name ballot 1 (Call 1 1 put_it)))
    ∷ row 1 (Deliver 2) (mail 1 1 (Accepted lone_name ballot 1))
    ∷ row 1 (Deliver 3) (mail 1 33 (Answer lone_name 1 (Value (record { old = None }))))
    ∷ row 33 (Deliver 4) (mail 33 1 (Request lone_name 1 2 get_it))
    ∷ row 1 (Deliver 5) (mail 1 1 (Accept lone_name ballot 2 (Call 1 2 get_it)))
    ∷ row 1 (Deliver 6) (mail 1 1 (Accepted lone_name ballot 2))
    ∷ row 1 (Deliver 7) (mail 1 33 (Answer lone_name 2 (Value (record { old = Some (120 ∷ []) }))))
    ∷ row 33 (Deliver 8) [] ∷ []

-- the group of the journal: the whole ring, with one member
abbrev pub alone : Base
alone = lone_group 0 (1 ∷ [])

-- the scenario of the journal
abbrev pub put_get_scenario : Scenario
put_get_scenario = record {
  nodes = 1;
  groups = alone ∷ [];
  policy = false;
  clients = (record { client = 1; ops = put_it ∷ get_it ∷ [] }) ∷ [];
  lines = GoLine 1 ∷ Settle 100 ∷ [];
  brief = false;
  version = 1;
}

-- the history of the journal
abbrev pub example_history : List Entry
example_history =
    (record { client = 1; seq = 1; op = put_it; reply = record { old = None } })
    ∷ (record { client = 1; seq = 2; op = get_it; reply = record { old = Some (120 ∷ []) } }) ∷ []
