use Rattle.std.proofs.Common.{length}
use Rattle.sc_node.proofs.node.+are_in_order.Given as goal

-- how many groups are left
abbrev pub decreases-are_in_order : goal.decreases-are_in_order
decreases-are_in_order l = length l.groups.now
