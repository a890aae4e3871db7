use Rattle.sc_json_journal.proofs.FileProofs.Verdicts.{one_verdict}
use Rattle.sc_json_journal.proofs.file.laws.files_have_one_verdict.Goals as goal

pub returns : goal.returns
returns c = one_verdict c.row_texts_are_lines.ensures.one_line
