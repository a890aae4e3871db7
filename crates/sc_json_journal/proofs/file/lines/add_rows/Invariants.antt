use Rattle.std.proofs.Common.{◌≡◌, ◌++◌, map, take}
use Rattle.sc_base.specs.Among.{Each}
use Rattle.sc_json_text.specs.rows.RowText.{text_of, IsHeld}
use Rattle.sc_json_journal.specs.file.Files.{fed}
use Rattle.sc_json_journal.proofs.file.lines.add_rows.Given as goal

-- the rows so far have their lines
abbrev pub invariant-loop-row : goal.invariant-loop-row
invariant-loop-row l = record {
  lines : l.lines ≡ l.fn.lines ++ map fed (map text_of (take l.row-index l.rows));
  held : Each IsHeld (take l.row-index l.rows);
}
