use Rattle.sc_run.proofs.ConfirmedFiles.{confirmed_if_lawful, printed_confirmed}
use Rattle.sc_run.proofs.auditing.lawful_journals_are_confirmed.Goals as goal

pub returns-clause-files : goal.returns-clause-files
returns-clause-files c = confirmed_if_lawful c.files_have_one_verdict.ensures

pub returns-clause-printed : goal.returns-clause-printed
returns-clause-printed c = printed_confirmed c.files_have_one_verdict.ensures c.printed_files_are_files.ensures
