-- The queues of a replica.
use Rattle.std.specs.Prelude.{ℕ, ◌==◌, nat_lt, Bool, false, List, [], ◌∷◌, ◌++◌, if◌then◌else◌, Option, Some, None}
use Rattle.sc_words.specs.declared.commands.commands.Command.{Command}
use Rattle.sc_words.specs.declared.commands.commands.Command.TheVariants.{Noop, Call, Join, Leave, Split, Begin, Prepared, RecordVote, GiveUp, Finish, Watched, RecordWatch}
use Rattle.sc_node_table.specs.Replica.{ReplicaState}

-- the replica with one more order at the end of the queue `backlog`
abbrev pub with_order_queued : Command → ReplicaState → ReplicaState
with_order_queued command r = record r { backlog = r.backlog ++ command ∷ [] }

-- the number of a client's queued request, if one is queued
abbrev pub queued_number : List Command → ℕ → Option ℕ
queued_number [] client = None
queued_number (Call c seq op ∷ commands) client = if c == client then Some seq else queued_number commands client
queued_number (command ∷ commands) client = queued_number commands client

-- whether a command is a request of this client
abbrev pub is_request_of : ℕ → Command → Bool
is_request_of client (Call c seq op) = c == client
is_request_of client _ = false

-- the queue without the first request of a client
abbrev pub without_request : List Command → ℕ → List Command
without_request [] client = []
without_request (command ∷ commands) client = if is_request_of client command then commands else command ∷ without_request commands client

-- the queue with a request at its head, unless the client has a queued request with the same or a higher number; one with a lower number is removed
abbrev pub request_before : Option ℕ → ℕ → ℕ → Command → List Command → List Command
request_before None client seq command backlog = command ∷ backlog
request_before (Some other) client seq command backlog = if nat_lt other seq then command ∷ without_request backlog client else backlog

-- the replica with a command put back at the head of its queue; a Noop is dropped
unfoldable pub put_back : Command → ReplicaState → ReplicaState
put_back Noop r = r
put_back (Call client seq op) r = record r { backlog = request_before (queued_number r.backlog client) client seq (Call client seq op) r.backlog }
put_back (Join node order) r = record r { backlog = Join node order ∷ r.backlog }
put_back (Leave node order) r = record r { backlog = Leave node order ∷ r.backlog }
put_back (Split at child order) r = record r { backlog = Split at child order ∷ r.backlog }
put_back (Begin tx body order) r = record r { backlog = Begin tx body order ∷ r.backlog }
put_back (Prepared tx offer) r = record r { acts = Prepared tx offer ∷ r.acts }
put_back (RecordVote tx vote by) r = record r { acts = RecordVote tx vote by ∷ r.acts }
put_back (GiveUp tx) r = record r { acts = GiveUp tx ∷ r.acts }
put_back (Finish tx outcome) r = record r { acts = Finish tx outcome ∷ r.acts }
put_back (Watched tx watch) r = record r { acts = Watched tx watch ∷ r.acts }
put_back (RecordWatch tx vote by) r = record r { acts = RecordWatch tx vote by ∷ r.acts }
