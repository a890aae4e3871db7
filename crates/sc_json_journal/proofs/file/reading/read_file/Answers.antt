use Rattle.std.proofs.Common.{◌≤◌, length, arith}
use Rattle.std.proofs.lemmas.Result.{err_from_is_err_and}
use Rattle.sc_json_journal.specs.file.Stored.{most_file_bytes}
use Rattle.sc_json_journal.proofs.FileProofs.OneFile.{one_file, valid_read, rows_few, mails_few, scenario_error, row_error, file_of}
use Rattle.sc_json_journal.proofs.file.reading.read_file.Goals as goal

pub returns-in_err-scenario-clause-file : goal.returns-in_err-scenario-clause-file
returns-in_err-scenario-clause-file c =
    let p = err_from_is_err_and c.from_residual.result c.from_residual.ensures.1 in
    let parts = c.in-Some.parts in
    let within : length c.args.file.now ≤ most_file_bytes = omega arith in
    rw (p.1, p.2) (scenario_error c.args.file.now parts.scenario.now parts.lines parts.rows.now c.in_err-scenario.field-0.0 within c.in-Some.ensures.cut c.in_err-scenario.ensures)

pub returns-in_err-rows-clause-file : goal.returns-in_err-rows-clause-file
returns-in_err-rows-clause-file c =
    let p = err_from_is_err_and c.from_residual-in_err-rows.result c.from_residual-in_err-rows.ensures.1 in
    let parts = c.in-Some.parts in
    let within : length c.args.file.now ≤ most_file_bytes = omega arith in
    rw (p.1, p.2)
    (row_error c.args.file.now parts.scenario.now parts.lines parts.rows.now c.in_ok-scenario.scenario c.in_err-rows.field-0.0 within c.in-Some.ensures.cut c.in_ok-scenario.ensures c.in_err-rows.ensures)

pub returns-clause-one : goal.returns-clause-one
returns-clause-one c =
    let parts = c.in-Some.parts in
    one_file c.row_texts_are_lines.ensures.one_line c.args.file.now parts.scenario.now parts.lines parts.rows.now c.in_ok-scenario.scenario c.in_ok-rows.rows c.in-Some.ensures.cut c.in_ok-scenario.ensures c.in_ok-rows.ensures

pub returns-clause-valid : goal.returns-clause-valid
returns-clause-valid c = valid_read c.in-Some.parts.scenario.now c.in_ok-scenario.scenario c.in_ok-scenario.ensures

pub returns-clause-few_rows : goal.returns-clause-few_rows
returns-clause-few_rows c =
    let parts = c.in-Some.parts in
    let within : length c.args.file.now ≤ most_file_bytes = omega arith in
    rows_few c.args.file.now c.in_ok-scenario.scenario c.in_ok-rows.rows
    (file_of c.args.file.now parts.scenario.now parts.lines parts.rows.now c.in_ok-scenario.scenario c.in_ok-rows.rows within c.in-Some.ensures.cut c.in_ok-scenario.ensures c.in_ok-rows.ensures)

pub returns-clause-few_mails : goal.returns-clause-few_mails
returns-clause-few_mails c =
    let parts = c.in-Some.parts in
    let within : length c.args.file.now ≤ most_file_bytes = omega arith in
    mails_few c.row_texts_are_lines.ensures.mails c.args.file.now c.in_ok-scenario.scenario c.in_ok-rows.rows
    (file_of c.args.file.now parts.scenario.now parts.lines parts.rows.now c.in_ok-scenario.scenario c.in_ok-rows.rows within c.in-Some.ensures.cut c.in_ok-scenario.ensures c.in_ok-rows.ensures)
