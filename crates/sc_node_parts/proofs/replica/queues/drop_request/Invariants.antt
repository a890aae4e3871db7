use Rattle.std.proofs.Common.{◌≡◌, ◌++◌, take, drop}
use Rattle.sc_node_table.specs.NodeDefinitions.{without_request}
use Rattle.sc_node_parts.proofs.replica.queues.drop_request.Given as goal

-- it is not among those so far
abbrev pub invariant-loop-i : goal.invariant-loop-i
invariant-loop-i l = record {
  same : l.backlog.items ≡ l.fn.backlog.items;
  passed : take l.i l.backlog.items ++ without_request (drop l.i l.backlog.items) l.client ≡ without_request l.fn.backlog.items l.client;
}
