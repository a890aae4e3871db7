use Rattle.std.proofs.Common.{◌≡◌, ◌++◌, take}
use Rattle.std.specs.List.{flat_map}
use Rattle.sc_world_entries.specs.decided.Found.{entries_behind, log_length}
use Rattle.sc_world_entries.proofs.decided.entries.add_gained.Given as goal

-- what those so far have gained
abbrev pub invariant-loop-known : goal.invariant-loop-known
invariant-loop-known l = l.entries.items ≡ l.initial.entries.items ++ flat_map (entries_behind (log_length l.before) l.after) (take l.known-index l.after)
