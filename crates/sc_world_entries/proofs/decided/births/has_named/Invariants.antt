use Rattle.std.proofs.Common.{◌≡◌, false, take}
use Rattle.std.specs.List.{list_any}
use Rattle.sc_world_entries.specs.decided.Found.{is_kept_of}
use Rattle.sc_world_entries.proofs.decided.births.has_named.Given as goal

-- none so far
abbrev pub invariant-loop-known : goal.invariant-loop-known
invariant-loop-known l = list_any (is_kept_of l.name) (take l.known-index l.knowns) ≡ false
