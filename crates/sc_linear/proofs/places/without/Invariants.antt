use Rattle.std.proofs.Common.{◌≡◌, take}
use Rattle.sc_linear.specs.Search.{taken_without}
use Rattle.sc_linear.proofs.places.without.Given as goal

abbrev pub invariant-loop-y : goal.invariant-loop-y
invariant-loop-y l = l.less.items ≡ taken_without l.x (take l.y-index l.taken)
