use Rattle.sc_json_journal.proofs.FileProofs.FirstBytes.{files_decided, errors_decided}
use Rattle.sc_json_journal.proofs.file.laws.first_file_bytes_decide.Goals as goal

pub returns-clause-files : goal.returns-clause-files
returns-clause-files c = files_decided

pub returns-clause-errors : goal.returns-clause-errors
returns-clause-errors c = errors_decided
