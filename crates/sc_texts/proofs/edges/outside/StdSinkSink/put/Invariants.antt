use Rattle.std.proofs.Common.{length, ◌-◌, ◌≡◌, ◌≤◌, take}
use Rattle.std.specs.Io.KnownBytes.{Appends}
use Rattle.sc_texts.proofs.edges.outside.StdSinkSink.put.Given as goal

abbrev pub invariant-loop-at : goal.invariant-loop-at
invariant-loop-at g l =
    Appends (g.W.Write.contents l.initial.self.writer) (g.W.Write.contents l.self.writer) (take l.at l.piece)
    × (l.at ≤ length l.piece)
    × (l.self.errors ≡ l.initial.self.errors)
    × (l.self.calls ≡ l.initial.self.calls)

abbrev pub decreases-loop-at : goal.decreases-loop-at
decreases-loop-at g l = length l.piece - l.at
