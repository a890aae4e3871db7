use Rattle.std.proofs.Common.{◌≡◌, ◌+◌, ◌≤◌, false, length}
use Rattle.sc_texts.specs.lines.Lines.{lines_in}
use Rattle.sc_json_journal.proofs.file.reading.line_count.Given as goal

-- the lines so far and the lines to come are all
abbrev pub invariant-loop-rest : goal.invariant-loop-rest
invariant-loop-rest l = (l.lines + length (lines_in false l.rest) ≡ length (lines_in false l.fn.file)) × (l.lines + length l.rest ≤ length l.fn.file)

abbrev pub decreases-loop-rest : goal.decreases-loop-rest
decreases-loop-rest l = length l.rest
