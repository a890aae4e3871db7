use Rattle.std.proofs.Common.{subst, sym, ◌∙◌, ap, refl, Some}
use Rattle.sc_scenario.specs.report.Report.{report_lines}
use Rattle.std.specs.Prelude.{IfSome}
use Rattle.sc_cli.specs.Causes.{said_by}
use Rattle.sc_run.specs.declared.done.Text.{Text}
use Rattle.sc_run.specs.Played.{HasFilled, IsPlayed}
use Rattle.sc_run.specs.Run.{Comes, ShowsReport, journal_limit}
use Rattle.sc_run.proofs.Plays.{comes_ended, comes_full, few}
use Rattle.sc_run.proofs.reporting.report.Goals as goal

pub returns-in_ok-lines-in-Ended : goal.returns-in_ok-lines-in-Ended
returns-in_ok-lines-in-Ended g c =
    let left = c.in_ok-left.left in let scenario = c.args.scenario.now in
    let text : Text = record { lines = c.in_ok-lines-in-Ended.lines; journal = Some left.journal; parties = left.parties } in
    subst (λ begun. IfSome begun (λ said. Comes (ShowsReport scenario) scenario said text)) (sym (sym c.in-Some.is ∙ (c.said_by.ensures ∙ ap said_by c.in-Ended.is)))
    (comes_ended (ShowsReport scenario) scenario c.in-Ended.unsettled c.in-Ended.quiet c.in-Ended.skipped left.journal left.parties text
    (subst (IsPlayed scenario journal_limit left.journal left.parties) c.in-Ended.is c.in_ok-left.ensures) (c.in_ok-lines-in-Ended.ensures ∙ ap report_lines c.in_ok-summary-in-Ended.ensures) refl refl)

pub sum_up-requires-clause-few_rows : goal.sum_up-requires-clause-few_rows
sum_up-requires-clause-few_rows g c =
    let left = c.in_ok-left.left in let scenario = c.args.scenario.now in
    (few scenario c.in-Ended.unsettled c.in-Ended.quiet c.in-Ended.skipped left.journal left.parties (subst (IsPlayed scenario journal_limit left.journal left.parties) c.in-Ended.is c.in_ok-left.ensures)).0

pub sum_up-requires-clause-few_mails : goal.sum_up-requires-clause-few_mails
sum_up-requires-clause-few_mails g c =
    let left = c.in_ok-left.left in let scenario = c.args.scenario.now in
    (few scenario c.in-Ended.unsettled c.in-Ended.quiet c.in-Ended.skipped left.journal left.parties (subst (IsPlayed scenario journal_limit left.journal left.parties) c.in-Ended.is c.in_ok-left.ensures)).1

pub returns-in_ok-full_text-in-Full : goal.returns-in_ok-full_text-in-Full
returns-in_ok-full_text-in-Full g c =
    let left = c.in_ok-left.left in let scenario = c.args.scenario.now in let text = c.in_ok-full_text-in-Full.field-0 in
    let filled : HasFilled scenario journal_limit left.journal = subst (IsPlayed scenario journal_limit left.journal left.parties) c.in-Full.is c.in_ok-left.ensures in
    subst (λ begun. IfSome begun (λ said. Comes (ShowsReport scenario) scenario said text)) (sym (sym c.in-Some.is ∙ (c.said_by.ensures ∙ ap said_by c.in-Full.is)))
    (comes_full (ShowsReport scenario) scenario left.journal text filled c.in_ok-full_text-in-Full.ensures)
