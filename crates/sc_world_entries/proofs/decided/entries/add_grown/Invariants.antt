use Rattle.std.proofs.Common.{◌≡◌, ◌++◌, take}
use Rattle.std.specs.List.{flat_map}
use Rattle.sc_world_entries.specs.decided.Found.{log_kept, grown_by}
use Rattle.sc_world_entries.proofs.decided.entries.add_grown.Given as goal

-- what those so far have gained
abbrev pub invariant-loop-known : goal.invariant-loop-known
invariant-loop-known l = l.entries.items ≡ l.initial.entries.items ++ flat_map (grown_by l.name l.count (log_kept l.name l.knowns)) (take l.known-index l.knowns)
