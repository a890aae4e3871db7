use Rattle.std.proofs.Common.{◌≡◌, take}
use Rattle.sc_node_choices.proofs.open_sets.copied.Given as goal

-- those so far
abbrev pub invariant-loop-set : goal.invariant-loop-set
invariant-loop-set l = l.copy.items ≡ take l.set-index l.sets
