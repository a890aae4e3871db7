-- Requests of a scenario in a journal: where they are issued and answered, and which replies clients keep.
use Rattle.std.specs.Prelude.{◌≡◌, ℕ, ◌+◌, ◌-◌, ◌≤◌, nat_le, Bool, false, ◌==◌, ◌&&◌, List, [], ◌∷◌, ◌++◌, length, if◌then◌else◌, Option, Some, None, slice_get}
use Rattle.std.specs.List.{list_any}
use Rattle.sc_node_table.specs.Values.{Reply, Route, OrderLine, Mail, MailBody, Request, Row, Entry}
use Rattle.sc_actor.specs.Definitions.{value}
use Rattle.sc_base.specs.Definitions.{Among, client_actor}
use Rattle.sc_scenario.specs.declared.scenario.scenarios.Asks.{Asks}
use Rattle.sc_scenario.specs.declared.scenario.scenarios.Scenario.{Scenario}
use Rattle.sc_meaning.specs.sound.Players.{player_table, client_seat, replies_of}

-- an entry is a request of this client with its own operation; requests are numbered from 1
pub record IsAsked (asks : Asks) (entry : Entry) : Type 0 where
  pub client : entry.client ≡ asks.client
  pub first : 1 ≤ entry.seq
  pub op : slice_get asks.ops (entry.seq - 1) ≡ Some entry.op

-- an entry is a request of some client of the scenario
abbrev pub IsRequest : Scenario → Entry → Type 0
IsRequest scenario entry = (asks : Asks) × Among asks scenario.clients × IsAsked asks entry

-- whether a mail is the request of a client with a number
abbrev pub asks_for : ℕ → ℕ → MailBody → Bool
asks_for client seq (Request group who number op) = who == client && number == seq
asks_for client seq _ = false

-- whether a row is a client's and sends its request with a number
abbrev pub issues : ℕ → ℕ → Row Mail OrderLine → Bool
issues client seq row = row.who == client_actor client && list_any (λ mail. asks_for client seq mail.body) row.sent

-- the number of the first of these rows that sends a client's request with a number, if one does, where `before` rows stand before them
abbrev pub issued_from : ℕ → ℕ → ℕ → List (Row Mail OrderLine) → Option ℕ
issued_from client seq before [] = None
issued_from client seq before (row ∷ rows) = if issues client seq row then Some (before + 1) else issued_from client seq (before + 1) rows

-- the number, from 1, of the first row of a journal that sends a client's request with a number, if one does
abbrev pub issue_row : ℕ → ℕ → List (Row Mail OrderLine) → Option ℕ
issue_row client seq rows = issued_from client seq 0 rows

-- the replies that a client took in these rows, in the order of its requests
abbrev pub kept_replies : Route → Asks → List (Row Mail OrderLine) → List Reply
kept_replies first asks rows = replies_of (value player_table (client_seat first asks) rows)

-- the reply that a client keeps to its request with a number, from 1, if it has one
abbrev pub kept_reply : Route → Asks → ℕ → List (Row Mail OrderLine) → Option Reply
kept_reply first asks seq rows = if seq == 0 then None else slice_get (kept_replies first asks rows) (seq - 1)

-- the number, from 1, of the row in which a client takes the reply to its request with a number, sought in the later rows, if it does
abbrev pub answered_from : Route → Asks → ℕ → List (Row Mail OrderLine) → List (Row Mail OrderLine) → Option ℕ
answered_from first asks seq before [] = None
answered_from first asks seq before (row ∷ rows) =
    if nat_le seq (length (kept_replies first asks (before ++ row ∷ []))) then Some (length before + 1)
    else answered_from first asks seq (before ++ row ∷ []) rows

-- the number, from 1, of the row in which a client takes the reply to its request with a number, if it does
abbrev pub answer_row : Route → Asks → ℕ → List (Row Mail OrderLine) → Option ℕ
answer_row first asks seq rows = answered_from first asks seq [] rows
