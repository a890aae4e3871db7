use Rattle.std.proofs.Common.{◌≡◌, drop}
use Rattle.sc_world_checks.specs.Covering.{are_others}
use Rattle.sc_world_checks.proofs.covering.are_others.Given as goal

-- those that are left decide
abbrev pub invariant-loop-i : goal.invariant-loop-i
invariant-loop-i l = are_others (drop l.i l.ring) ≡ are_others l.ring
