-- The limits of a scenario, and the numbers of actors.
use Rattle.std.specs.Prelude.{ℕ, ◌+◌}

-- the most bytes of a key
abbrev pub longest_key : ℕ
longest_key = 64

-- the most bytes of a value
abbrev pub longest_value : ℕ
longest_value = 256

-- the most nodes, and the greatest number of a node
abbrev pub most_nodes : ℕ
most_nodes = 32

-- the greatest number of a client
abbrev pub most_clients : ℕ
most_clients = 64

-- the most requests of a client
abbrev pub most_requests : ℕ
most_requests = 1000

-- the actor's number of a client: the numbers of nodes come before
abbrev pub client_actor : ℕ → ℕ
client_actor client = most_nodes + client
