use Rattle.sc_json_journal.proofs.FileProofs.Printed.{printed_files}
use Rattle.sc_json_journal.proofs.file.laws.printed_files_are_files.Goals as goal

pub returns : goal.returns
returns c = printed_files c.row_texts_are_lines.ensures.one_line
