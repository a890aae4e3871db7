use Rattle.std.proofs.Common.{◌≡◌, ◌+◌, drop}
use Rattle.sc_linear.specs.Search.{rank_of}
use Rattle.sc_linear.proofs.places.rank.Given as goal

abbrev pub invariant-loop-i : goal.invariant-loop-i
invariant-loop-i l = rank_of l.x l.taken ≡ l.i + rank_of l.x (drop l.i l.taken)
