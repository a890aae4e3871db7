use Rattle.std.proofs.Common.{◌≡◌, drop}
use Rattle.sc_explain.specs.facts.Sameness.{same_ring}
use Rattle.sc_explain.proofs.facts.sames.same_ring.Given as goal

-- what is left decides
abbrev pub invariant-loop-i : goal.invariant-loop-i
invariant-loop-i l = same_ring l.one l.other ≡ same_ring (drop l.i l.one) (drop l.i l.other)
