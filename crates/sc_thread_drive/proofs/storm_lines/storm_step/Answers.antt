use Rattle.sc_texts.specs.chance.KeyStream.{two_words}
use Rattle.sc_thread_drive.proofs.Singles.{storm_ended, storm_refused}
use Rattle.sc_thread_drive.proofs.CompanyActs.{same_stop, together_rested}
use Rattle.sc_thread_drive.proofs.storm_lines.storm_step.Goals as goal

pub run_deed-requires-clause-together : goal.run_deed-requires-clause-together
run_deed-requires-clause-together g c κs within = together_rested c.args.company.now c.storm_line.new.company c.requires.together c.in_ok-line.ensures.rested

pub returns-clause-goes : goal.returns-clause-goes
returns-clause-goes g c =
    let storm = c.args.storm.now in
    storm_ended (two_words storm.number storm.step) c.in_ok-line.line c.args.company.now c.storm_line.new.company c.run_deed.new.company c.in_ok-line.ensures.rested c.in_ok-line.ensures.line c.in_ok-line.ensures.calm c.in_ok-run_deed.field-0 c.in_ok-run_deed.ensures

pub returns-in_err-run_deed-clause-fills : goal.returns-in_err-run_deed-clause-fills
returns-in_err-run_deed-clause-fills g c = λ bytes e.
    let storm = c.args.storm.now in let stop = c.in_err-run_deed.field-0.0 in
    storm_refused (two_words storm.number storm.step) c.in_ok-line.line c.args.company.now c.storm_line.new.company c.run_deed.new.company c.in_ok-line.ensures.rested c.in_ok-line.ensures.line stop bytes
    (same_stop c.from_residual-in_err-run_deed.result stop bytes c.from_residual-in_err-run_deed.ensures.1 e) c.in_err-run_deed.ensures
