use Rattle.std.proofs.Common.{◌≡◌, replicate}
use Rattle.sc_node_choices.proofs.open_sets.Sets.born.Given as goal

abbrev pub invariant-loop-slot : goal.invariant-loop-slot
invariant-loop-slot l = l.sets.items ≡ replicate l._slot l.members
