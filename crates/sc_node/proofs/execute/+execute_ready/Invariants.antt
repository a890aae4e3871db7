use Rattle.std.proofs.Common.{length}
use Rattle.sc_node.proofs.execute.+execute_ready.Given as goal

-- what is ready
abbrev pub decreases-execute_ready : goal.decreases-execute_ready
decreases-execute_ready l = length l.replica.now.ready
