use Rattle.sc_json_fast.proofs.ReportTexts.{report_begins}
use Rattle.sc_json_fast.proofs.reports.ReportCommandFromText.take.Goals as goal

pub returns : goal.returns
returns c = report_begins _ _ _ _ _ c.in_ok-ballot.ensures.a c.in_ok-ballot.ensures.b c.in_ok-ballot.ensures.c c.in_ok-ballot.ensures.text
