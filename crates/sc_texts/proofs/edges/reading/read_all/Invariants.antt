use Rattle.std.proofs.Common.{◌≡◌, ◌≤◌, ◌+◌, ◌-◌, length}
use Rattle.std.specs.Io.KnownBytes.{Consumes}
use Rattle.sc_texts.proofs.edges.reading.read_all.Given as goal

abbrev pub invariant-loop-buf : goal.invariant-loop-buf
invariant-loop-buf g l =
    Consumes (g.S.Source.left l.initial.source) (g.S.Source.left l.source) l.bytes.items
    × (length l.bytes.items ≤ l.most + 1)
    × (g.S.Source.errors l.initial.source ≤ g.S.Source.errors l.source)
    × (length l.buf ≡ 4096)
    × (g.S.Source.calls l.source ≤ g.S.Source.calls l.initial.source + length l.bytes.items)

abbrev pub decreases-loop-buf : goal.decreases-loop-buf
decreases-loop-buf g l = l.most + 1 - length l.bytes.items
