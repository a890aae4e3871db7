use Rattle.std.proofs.Common.{sym, ◌∙◌, refl}
use Rattle.sc_json_journal.proofs.FileProofs.Rows.{bad_unended, bad_line, good_line}
use Rattle.sc_json_journal.proofs.file.reading.next_row.Goals as goal

pub returns-in_default : goal.returns-in_default
returns-in_default c = bad_unended c.args.bytes.now c.requires (sym c.feed_at.ensures ∙ c.in_default.is) c.row_texts_are_lines.ensures.one_line

pub returns-in-Ok : goal.returns-in-Ok
returns-in-Ok c =
    good_line c.args.bytes.now c.in-Some.at c.in-Ok.row (sym c.feed_at.ensures ∙ c.in-Some.is) c.in-Ok.ensures.text c.in-Ok.ensures.held c.in-Ok.ensures.only

pub returns-in-Err-NoRow : goal.returns-in-Err-NoRow
returns-in-Err-NoRow c =
    bad_line c.args.bytes.now c.in-Some.at c.requires (sym c.feed_at.ensures ∙ c.in-Some.is) c.row_texts_are_lines.ensures.one_line (rw c.in-Err-NoRow.field-0-is at c.in-Err-NoRow.ensures.none refl)
