use Rattle.std.proofs.Common.{◌≡◌, drop}
use Rattle.sc_node.specs.Places.{place_from}
use Rattle.sc_node.proofs.places.first_at.Given as goal

-- it is not among those so far
abbrev pub invariant-loop-i : goal.invariant-loop-i
invariant-loop-i l = place_from l.i l.group (drop l.i l.replicas) ≡ place_from 0 l.group l.replicas
