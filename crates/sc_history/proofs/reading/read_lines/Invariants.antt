use Rattle.std.proofs.Common.{◌≡◌, ◌≤◌, ◌+◌, false, [], length}
use Rattle.sc_texts.specs.lines.Definitions.{lines_in}
use Rattle.sc_history.specs.Grammar.{lines_read}
use Rattle.sc_history.specs.Turns.{AreTurns}
use Rattle.sc_history.proofs.reading.read_lines.Given as goal

-- the rest, behind what was read so far, comes out as the whole, and the numbers of lines fit
abbrev pub invariant-loop-rest : goal.invariant-loop-rest
invariant-loop-rest l =
    (lines_read l.draft.events l.number (lines_in false l.rest) ≡ lines_read [] 2 (lines_in false l.fn.text))
    × AreTurns l.draft.turns l.draft.events
    × (l.number + length l.rest ≤ 2 + length l.fn.text)

-- the rest grows shorter
abbrev pub decreases-loop-rest : goal.decreases-loop-rest
decreases-loop-rest l = length l.rest
