use Rattle.std.proofs.Common.{◌≡◌, map}
use Rattle.sc_world.proofs.counting.parties_of.Given as goal

-- the actors so far
abbrev pub invariant-loop-seat : goal.invariant-loop-seat
invariant-loop-seat l = l.parties ≡ map (λ seat. seat.actor) l.yielded
