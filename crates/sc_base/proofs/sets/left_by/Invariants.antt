use Rattle.std.proofs.Common.{◌≡◌, take}
use Rattle.sc_base.specs.Definitions.{without_member}
use Rattle.sc_base.proofs.sets.left_by.Given as goal

abbrev pub invariant-loop-member : goal.invariant-loop-member
invariant-loop-member l = l.nodes ≡ without_member (take l.member-index l.members) l.node
