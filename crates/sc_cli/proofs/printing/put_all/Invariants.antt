use Rattle.std.proofs.Common.{◌≤◌, ◌+◌, take}
use Rattle.std.specs.List.{concat}
use Rattle.std.specs.Io.KnownBytes.{Appends}
use Rattle.sc_cli.specs.Causes.{BringsLines}
use Rattle.sc_cli.proofs.printing.put_all.Given as goal

-- the lines so far were appended, in a call each, and no fault was forgotten
abbrev pub invariant-loop-line : goal.invariant-loop-line
invariant-loop-line g l =
    Appends (g.K.Sink.held l.initial.sink) (g.K.Sink.held l.sink) (concat (take l.line-index l.lines))
    × (g.K.Sink.errors l.initial.sink ≤ g.K.Sink.errors l.sink)
    × (g.K.Sink.calls l.sink ≤ g.K.Sink.calls l.initial.sink + l.line-index)
    × BringsLines (g.K.Sink.pieces l.initial.sink) (g.K.Sink.pieces l.sink) (take l.line-index l.lines)
