use Rattle.std.proofs.Common.{ap}
use Rattle.sc_words.specs.declared.paxos.reports.Report.{Report}
use Rattle.sc_words.specs.declared.commands.commands.Command.{Command}
use Rattle.sc_json_text.specs.rows.Commands.{report_json, FitsReport}
use Rattle.sc_json_read.proofs.Finding.{failed}
use Rattle.sc_json_read.proofs.commands.ReportCommandFromJson.from_json.Goals as goal

pub returns-in_err-ballot-clause-finds : goal.returns-in_err-ballot-clause-finds
unfolding report_json FitsReport
returns-in_err-ballot-clause-finds c = λ report fits e. failed _ _ _ c.from_residual.ensures (c.in_err-ballot.ensures.finds report.ballot report.slot report.value fits.0 fits.1 fits.2 e)

pub returns-clause-finds : goal.returns-clause-finds
unfolding report_json FitsReport
returns-clause-finds c = λ report fits e. ap (λ p. let r : Report Command = record { ballot = p.0; slot = p.1; value = p.2 } in r) (c.in_ok-ballot.ensures.finds report.ballot report.slot report.value fits.0 fits.1 fits.2 e)

pub returns-clause-exact : goal.returns-clause-exact
unfolding report_json
returns-clause-exact c = c.in_ok-ballot.ensures.exact
