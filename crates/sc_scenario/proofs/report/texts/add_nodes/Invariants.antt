use Rattle.std.proofs.Common.{◌≡◌, drop}
use Rattle.sc_scenario.specs.report.Report.{with_nodes}
use Rattle.sc_scenario.proofs.report.texts.add_nodes.Given as goal

-- the line so far with the nodes that are left is the line with all
abbrev pub invariant-loop-node : goal.invariant-loop-node
invariant-loop-node l = with_nodes l.line.items (drop l.node-index l.nodes) ≡ with_nodes l.initial.line.items l.nodes
