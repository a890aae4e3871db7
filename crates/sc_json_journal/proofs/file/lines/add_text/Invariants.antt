use Rattle.std.proofs.Common.{◌≡◌, ◌++◌, false, length, map}
use Rattle.sc_texts.specs.lines.Lines.{lines_in}
use Rattle.sc_json_journal.specs.file.Files.{fed}
use Rattle.sc_json_journal.proofs.file.lines.add_text.Given as goal

-- the lines so far and the lines to come are all
abbrev pub invariant-loop-rest : goal.invariant-loop-rest
invariant-loop-rest l = l.lines ++ map fed (lines_in false l.rest) ≡ l.fn.lines ++ map fed (lines_in false l.fn.text)

abbrev pub decreases-loop-rest : goal.decreases-loop-rest
decreases-loop-rest l = length l.rest
