use Rattle.std.proofs.Common.{◌≡◌, false, take}
use Rattle.std.specs.List.{list_any}
use Rattle.sc_base.specs.Arc.{holds, end_of}
use Rattle.sc_world_checks.proofs.covering.is_followed.Given as goal

-- none so far holds it
abbrev pub invariant-loop-other : goal.invariant-loop-other
invariant-loop-other l = list_any (λ other. holds other.arc (end_of l.cut.arc)) (take l.other-index l.ring) ≡ false
