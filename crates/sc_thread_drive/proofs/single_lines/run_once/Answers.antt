use Rattle.std.proofs.Common.{subst}
use Rattle.std.proofs.lemmas.Result.{on_ok_weaker}
use Rattle.sc_actor.specs.Walk.{line_row}
use Rattle.sc_thread_drive.specs.CompanyRows.{RowEnded}
use Rattle.sc_thread_drive.proofs.Singles.{once_made, once_refused, once_skipped}
use Rattle.sc_thread_drive.proofs.CompanyActs.{same_stop}
use Rattle.sc_thread_drive.proofs.single_lines.run_once.Goals as goal

pub returns-then-branch-clause-goes : goal.returns-then-branch-clause-goes
returns-then-branch-clause-goes g c =
    let old = c.args.company.now in let new = c.step_line.new.company in let line = c.args.line.now in
    once_made line old new c.requires.calm (subst (RowEnded (λ s rows. line_row s rows line) old new) c.if-branch.true c.in_ok-step_line.ensures)

pub returns-in_err-step_line-clause-fills : goal.returns-in_err-step_line-clause-fills
returns-in_err-step_line-clause-fills g c = λ bytes e.
    once_refused c.args.line.now c.args.company.now c.step_line.new.company c.in_err-step_line.field-0.0 bytes (same_stop c.from_residual.result c.in_err-step_line.field-0.0 bytes c.from_residual.ensures.1 e) c.in_err-step_line.ensures

pub returns-clause-goes : goal.returns-clause-goes
returns-clause-goes g c =
    let old = c.args.company.now in let new = c.step_line.new.company in let line = c.args.line.now in
    on_ok_weaker c.skip.result (λ count. once_skipped line old new c.skip.new.score (subst (RowEnded (λ s rows. line_row s rows line) old new) c.if-branch.false c.in_ok-step_line.ensures)
    (record { count = count; cut = c.skip.ensures.kept.0; started = c.skip.ensures.kept.1 })) c.skip.ensures.skipped
