use Rattle.std.proofs.Common.{◌≡◌, false, take}
use Rattle.std.specs.List.{list_any}
use Rattle.sc_base.specs.Same.{same_draw}
use Rattle.sc_world_entries.proofs.decided.births.has_name.Given as goal

-- none so far
abbrev pub invariant-loop-other : goal.invariant-loop-other
invariant-loop-other l = list_any (same_draw l.name) (take l.other-index l.names) ≡ false
