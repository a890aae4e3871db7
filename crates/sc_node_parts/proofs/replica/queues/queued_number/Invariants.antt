use Rattle.std.proofs.Common.{◌≡◌, drop}
use Rattle.sc_node_table.specs.NodeDefinitions.{queued_number}
use Rattle.sc_node_parts.proofs.replica.queues.queued_number.Given as goal

-- it is not among those so far
abbrev pub invariant-loop-i : goal.invariant-loop-i
invariant-loop-i l = queued_number (drop l.i l.commands.items) l.client ≡ queued_number l.commands.items l.client
