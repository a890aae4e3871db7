use Rattle.std.proofs.Common.{◌≡◌, ◌+◌, ◌++◌, drop}
use Rattle.sc_meaning.specs.sound.GroupsOf.{entries_from}
use Rattle.sc_world_entries.proofs.decided.entries.add_entries.Given as goal

-- those so far, and those of what is left
abbrev pub invariant-loop-at : goal.invariant-loop-at
invariant-loop-at l = l.entries.items ++ entries_from l.name (l.at + 1) (drop l.at l.log) ≡ l.initial.entries.items ++ entries_from l.name (l.count + 1) (drop l.count l.log)
