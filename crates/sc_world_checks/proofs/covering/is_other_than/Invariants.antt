use Rattle.std.proofs.Common.{◌≡◌, true, take}
use Rattle.std.specs.List.{list_all}
use Rattle.sc_world_checks.specs.Covering.{is_other}
use Rattle.sc_world_checks.proofs.covering.is_other_than.Given as goal

-- those so far are
abbrev pub invariant-loop-other : goal.invariant-loop-other
invariant-loop-other l = list_all (is_other l.cut) (take l.other-index l.ring) ≡ true
