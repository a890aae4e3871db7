-- What a report says of the requests of players.
use Rattle.std.specs.Prelude.{ℕ, ◌+◌, Bool, List, [], ◌∷◌, if◌then◌else◌, Option, Some, None, slice_get}
use Rattle.sc_node_table.specs.Values.{Op, Reply, Node, Client}
use Rattle.sc_scenario.specs.declared.report.summaries.Progress.{Progress}
use Rattle.sc_scenario.specs.declared.report.summaries.Progress.TheVariants.{Unsent, Unanswered, Replied}
use Rattle.sc_scenario.specs.declared.report.summaries.Asked.{Asked}
use Rattle.sc_client_table.specs.table.TableDefinitions.{Client as ClientState, waits_for}
use Rattle.sc_meaning.specs.sound.Players.{Player}

-- how far a request came, by its reply and whether its client waits for it
abbrev pub got_by : Option Reply → Bool → Progress
got_by (Some reply) waits = Replied reply
got_by None waits = if waits then Unanswered else Unsent

-- how far a client's request with a number came: its client has the reply, waits for it, or has not sent it
abbrev pub got_of : Option Reply → ClientState → ℕ → Progress
got_of reply client seq = got_by reply (waits_for client.waiting seq)

-- the request of a client after its first `done` requests, with how far it came
abbrev pub asked_after : ClientState → ℕ → Op → Asked
asked_after client done op =
    record { client = client.me; seq = done + 1; op = op; got = got_of (slice_get client.replies done) client (done + 1) }

-- the requests of a client after its first `done` requests, each with how far it came
abbrev pub asked_from : ClientState → ℕ → List Op → List Asked
asked_from client done [] = []
asked_from client done (op ∷ ops) = asked_after client done op ∷ asked_from client (done + 1) ops

-- the requests of a player, each with how far it came: a node has none
abbrev pub asked_by : Player → List Asked
asked_by (Node node) = []
asked_by (Client client) = asked_from client 0 client.requests
