-- The schedule that is read off rows: the line that each row would be.
use Rattle.std.specs.Prelude.{ℕ, suc, ◌-◌, ◌^◌, ◌==◌, ◌&&◌, nat_le, nat_lt, Bool, true, List, [], ◌∷◌, ◌++◌, if◌then◌else◌, Option, None, Some}
use Rattle.std.specs.List.{list_any}
use Rattle.sc_base.specs.Definitions.{client_actor, most_nodes}
use Rattle.sc_node_table.specs.Values.{OrderLine, Mail, Row, Event, Order}
use Rattle.sc_words.specs.declared.commands.orders.Order.TheVariants as An
use Rattle.sc_actor.specs.declared.rows.Event.TheVariants.{Deliver, Tick, Go, Told, Crash, Drop, Again}
use Rattle.sc_actor.specs.Definitions.{mails, numbered, numbers_of, pending}
use Rattle.sc_meaning.specs.sound.SoundDefinitions.{as_nodes, births, receiver_of}
use Rattle.sc_scenario.specs.declared.scenario.scenarios.Asks.{Asks}
use Rattle.sc_scenario.specs.declared.scenario.scenarios.Scenario.{Scenario}
use Rattle.sc_scenario.specs.declared.scenario.scenarios.SchedLine.{SchedLine}
use Rattle.sc_scenario.specs.declared.scenario.scenarios.SchedLine.TheVariants as line

-- whether an actor's number is that of a node
abbrev pub is_node : ℕ → ℕ → Bool
is_node nodes who = nat_le 1 who && nat_le who nodes

-- whether an actor's number is that of a client with a section
abbrev pub is_client_actor : List Asks → ℕ → Bool
is_client_actor clients who = list_any (λ asks. client_actor asks.client == who) clients

-- whether an order names a node that exists, and a position of the ring
abbrev pub is_bounded_order : ℕ → Order → Bool
is_bounded_order nodes (An.Join node group) = is_node nodes node
is_bounded_order nodes (An.Leave node group) = is_node nodes node
is_bounded_order nodes (An.Split group at) = nat_lt at (2 ^ 32)
is_bounded_order nodes (An.Merge group) = true
is_bounded_order nodes (An.Repart group at) = nat_lt at (2 ^ 32)
is_bounded_order nodes (An.Migrate group node) = is_node nodes node

-- whether some line of a schedule may have this event at this actor: a start is a client's, a crash a node's, and an order a node's, names a node that exists and a position of the ring, and has a number from 1 on
abbrev pub may_be_line : Scenario → ℕ → Event OrderLine → Bool
may_be_line scenario who Go = is_client_actor scenario.clients who
may_be_line scenario who Crash = is_node scenario.nodes who
may_be_line scenario who (Told order) = is_node scenario.nodes who && (is_bounded_order scenario.nodes order.order && nat_le 1 order.number)
may_be_line scenario who (Deliver number) = true
may_be_line scenario who Tick = true
may_be_line scenario who (Drop number) = true
may_be_line scenario who (Again number) = true

-- the place, from 1, at which a number first stands in a list; past the end where it does not
abbrev pub place_in : ℕ → List ℕ → ℕ
place_in number [] = 1
place_in number (x ∷ xs) = if x == number then 1 else suc (place_in number xs)

-- the place of a mail, from 1, among the pending mail of an actor after these rows
abbrev pub place_of_mail : List ℕ → List (Row Mail OrderLine) → ℕ → ℕ → ℕ
place_of_mail actors rows who number = place_in number (pending receiver_of actors rows (Some who))

-- who gets a mail: the desk where there is none
abbrev pub getter : Option Mail → ℕ
getter None = 0
getter (Some mail) = mail.to

-- the line that has this event at this actor after these rows, where `actors` are the numbers of all actors
abbrev pub line_at : List ℕ → List (Row Mail OrderLine) → ℕ → Event OrderLine → SchedLine
line_at actors rows who (Deliver number) = line.Deliver who (place_of_mail actors rows who number)
line_at actors rows who Tick = line.Tick who
line_at actors rows who Go = line.Go (who - most_nodes)
line_at actors rows who (Told order) = line.Told who order
line_at actors rows who Crash = line.Crash who
line_at actors rows who (Drop number) = line.Drop (getter (numbered (mails rows) number)) (place_of_mail actors rows (getter (numbered (mails rows) number)) number)
line_at actors rows who (Again number) = line.Again number

-- the numbers of the actors of a scenario
abbrev pub actors_of : Scenario → List ℕ
actors_of scenario = numbers_of (births as_nodes scenario)

-- the lines that these rows would be, after the rows before them: one for each row that a line may make
abbrev pub lines_from : Scenario → List (Row Mail OrderLine) → List (Row Mail OrderLine) → List SchedLine
lines_from scenario before [] = []
lines_from scenario before (row ∷ rows) =
    (if may_be_line scenario row.who row.event then line_at (actors_of scenario) before row.who row.event ∷ [] else []) ++ lines_from scenario (before ++ row ∷ []) rows

-- a scenario whose schedule is read off rows
abbrev pub with_lines_of : Scenario → List (Row Mail OrderLine) → Scenario
with_lines_of scenario rows = record scenario { lines = lines_from scenario [] rows }
