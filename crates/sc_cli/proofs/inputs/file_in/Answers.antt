use Rattle.std.proofs.Common.{subst}
use Rattle.sc_json_journal.specs.file.Laws.{IsFileOfOne}
use Rattle.sc_json_journal.specs.file.Stored.{IsFile, IsFileError}
use Rattle.sc_cli.proofs.Readings.{answers_error, bad_file, reads_file}
use Rattle.sc_cli.proofs.inputs.file_in.Goals as goal

pub returns-in_err-read_file-clause-read : goal.returns-in_err-read_file-clause-read
returns-in_err-read_file-clause-read g c =
    let error = c.in_err-read_file.field-0.0 in
    answers_error c.from_residual-in_err-read_file.result _ _ _ c.from_residual-in_err-read_file.ensures.1
    (bad_file c.first_file_bytes_decide.ensures.errors _ c.in_ok-file.file.items error c.in_ok-file.ensures.taken.bytes (subst (λ file. IsFileError file error) c.deref.ensures.value c.in_err-read_file.ensures.file))

pub returns-clause-read : goal.returns-clause-read
returns-clause-read g c =
    let scenario = c.in_ok-read_file.field-0.0 in let rows = c.in_ok-read_file.field-0.1 in let e = c.in_ok-read_file.ensures in
    reads_file _ c.in_ok-file.file.items scenario rows c.in_ok-file.ensures.taken.bytes (record {
      valid = e.valid;
      is_file = subst (λ file. IsFile file scenario rows) c.deref.ensures.value e.file;
      one = subst (λ file. IsFileOfOne file scenario rows) c.deref.ensures.value e.one;
      few_rows = e.few_rows;
      few_mails = e.few_mails;
    })
