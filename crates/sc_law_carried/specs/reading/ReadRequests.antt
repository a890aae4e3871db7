-- The requests of clients that are read off rows.
use Rattle.std.specs.Prelude.{ℕ, zero, suc, ◌+◌, ◌==◌, ◌&&◌, Bool, true, List, [], ◌∷◌, ◌++◌, length, fold, if◌then◌else◌}
use Rattle.std.specs.List.{list_any}
use Rattle.sc_base.specs.Definitions.{client_actor, most_clients}
use Rattle.sc_node_table.specs.Values.{Op, OrderLine, Mail, MailBody, Row}
use Rattle.sc_base.specs.declared.ops.Op.TheVariants.{Get, Put, Del, Add, Cas}
use Rattle.sc_mail.specs.declared.bodies.MailBody.TheVariants.{Request, Answer, Prepare, Promise, Accept, Accepted, Nack, Learn, Ask, Install, TxPrepare, TxVote, TxOutcome, TxElsewhere, TxWatch, TxWatched, Told}
use Rattle.sc_scenario.specs.declared.scenario.scenarios.Asks.{Asks}
use Rattle.sc_scenario.specs.declared.scenario.scenarios.Scenario.{Scenario}

-- whether scenarios of a version have this operation: `add` and `cas` are of version 2
abbrev pub is_of_version : ℕ → Op → Bool
is_of_version version (Get key) = true
is_of_version version (Put key value) = true
is_of_version version (Del key) = true
is_of_version version (Add key value) = version == 2
is_of_version version (Cas key expect value) = version == 2

-- the requests of a client with one more, where the body is its request under the next number
abbrev pub with_request : ℕ → ℕ → List Op → MailBody → List Op
with_request version client ops (Request group who seq op) =
    if (who == client) && ((seq == length ops + 1) && is_of_version version op) then ops ++ op ∷ [] else ops
with_request version client ops (Answer group seq answer) = ops
with_request version client ops (Prepare group ballot from_slot) = ops
with_request version client ops (Promise group ballot reports) = ops
with_request version client ops (Accept group ballot slot command) = ops
with_request version client ops (Accepted group ballot slot) = ops
with_request version client ops (Nack group promised) = ops
with_request version client ops (Learn group slot command) = ops
with_request version client ops (Ask group from_slot) = ops
with_request version client ops (Install group slot record_of sets) = ops
with_request version client ops (TxPrepare tx offer) = ops
with_request version client ops (TxVote tx coord part vote) = ops
with_request version client ops (TxOutcome tx part outcome) = ops
with_request version client ops (TxElsewhere tx coord hint) = ops
with_request version client ops (TxWatch tx watch) = ops
with_request version client ops (TxWatched tx coord part vote) = ops
with_request version client ops (Told order result) = ops

-- the requests of a client with those that a row of its own sends
abbrev pub with_row : ℕ → ℕ → List Op → Row Mail OrderLine → List Op
with_row version client ops row = if row.who == client_actor client then fold (λ more mail. with_request version client more mail.body) ops row.sent else ops

-- the requests of a client that are read off rows: the k-th is the one that it first sends under the number k, behind the one before it
abbrev pub requests_read : ℕ → ℕ → List (Row Mail OrderLine) → List Op
requests_read version client rows = fold (with_row version client) [] rows

-- whether an actor has a row
abbrev pub has_row : List (Row Mail OrderLine) → ℕ → Bool
has_row rows who = list_any (λ row. row.who == who) rows

-- the clients from a number on, `count` of them, that have a row, with their requests
abbrev pub clients_from : ℕ → List (Row Mail OrderLine) → ℕ → ℕ → List Asks
clients_from version rows client zero = []
clients_from version rows client (suc count) =
    (if has_row rows (client_actor client) then record { client = client; ops = requests_read version client rows } ∷ [] else []) ++ clients_from version rows (client + 1) count

-- the clients that are read off rows, with their requests
abbrev pub clients_read : ℕ → List (Row Mail OrderLine) → List Asks
clients_read version rows = clients_from version rows 1 most_clients

-- a scenario whose clients are read off rows
abbrev pub with_clients_of : Scenario → List (Row Mail OrderLine) → Scenario
with_clients_of scenario rows = record scenario { clients = clients_read scenario.version rows }
