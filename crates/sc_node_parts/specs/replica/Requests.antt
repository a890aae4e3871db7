-- Requests among commands.
use Rattle.std.specs.Prelude.{Bool, true, false}
use Rattle.sc_node_table.specs.Values.{Command, Call}

-- whether a command is a request
abbrev pub is_request : Command → Bool
is_request (Call client seq op) = true
is_request _ = false
