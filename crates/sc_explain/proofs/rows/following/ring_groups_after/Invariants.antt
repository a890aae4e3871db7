use Rattle.std.proofs.Common.{◌≡◌, take}
use Rattle.std.specs.List.{flat_map}
use Rattle.sc_meaning.specs.declared.entries.LogEntry.{LogEntry}
use Rattle.sc_meaning.specs.entries.EntryDefinitions.{StoreWorld, recorded}
use Rattle.sc_explain.specs.rows.Explained.{ring_group_in, ring_groups_in}
use Rattle.sc_explain.specs.rows.Said.{AreByLog}
use Rattle.sc_explain.proofs.rows.following.ring_groups_after.Given as goal

-- those so far
abbrev pub invariant-loop-cut : goal.invariant-loop-cut
invariant-loop-cut l = (before : StoreWorld) (entry : LogEntry) → l.world ≡ recorded before entry → l.changed ≡ entry.group → AreByLog l.world.groups l.bound → l.groups ≡ ring_groups_in before
    → l.after.items ≡ flat_map (ring_group_in l.world) (take l.cut-index l.ring)
