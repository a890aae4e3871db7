use Rattle.std.proofs.Common.{◌≡◌, ◌+◌, ◌≤◌, ◌++◌, length}
use Rattle.sc_base.specs.Among.{Each}
use Rattle.sc_json_text.specs.rows.RowText.{IsHeld}
use Rattle.sc_json_journal.specs.file.Stored.{rows_whole, IsSole}
use Rattle.sc_json_journal.proofs.file.reading.read_rows.Given as goal

-- the lines of the rows so far, and the rest
abbrev pub invariant-loop-rest : goal.invariant-loop-rest
invariant-loop-rest l = record {
  held : Each IsHeld l.rows;
  sole : Each IsSole l.rows;
  bytes_are : l.fn.bytes ≡ rows_whole l.rows ++ l.rest;
  line_is : l.line ≡ l.first + length l.rows;
  within : l.line + length l.rest ≤ l.first + length l.fn.bytes;
}

abbrev pub decreases-loop-rest : goal.decreases-loop-rest
decreases-loop-rest l = length l.rest
