use Rattle.sc_law_refusal.proofs.ResultsProofs.Reports.{reports_are_decided}
use Rattle.sc_law_refusal.proofs.results.reports_are_decided.Goals as goal

pub returns : goal.returns
returns c = reports_are_decided
