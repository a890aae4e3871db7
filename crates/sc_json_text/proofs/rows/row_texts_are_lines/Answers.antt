use Rattle.sc_json_text.proofs.RowsProofs.Texts.{one_line, mails_counted}
use Rattle.sc_json_text.proofs.rows.row_texts_are_lines.Goals as goal

pub returns-clause-one_line : goal.returns-clause-one_line
returns-clause-one_line c = one_line

pub returns-clause-mails : goal.returns-clause-mails
returns-clause-mails c = mails_counted
