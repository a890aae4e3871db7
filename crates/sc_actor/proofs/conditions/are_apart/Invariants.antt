use Rattle.std.proofs.Common.{◌≡◌, drop}
use Rattle.sc_actor.specs.Definitions.{are_apart}
use Rattle.sc_actor.proofs.conditions.are_apart.Given as goal

abbrev pub invariant-loop-i : goal.invariant-loop-i
invariant-loop-i g l = are_apart l.seats ≡ are_apart (drop l.i l.seats)
