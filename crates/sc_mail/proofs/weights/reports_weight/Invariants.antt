use Rattle.std.proofs.Common.{◌≡◌, take}
use Rattle.std.specs.List.{sum_by}
use Rattle.sc_words.specs.commands.CommandDefinitions.{capped}
use Rattle.sc_mail.specs.Definitions.{report_weight}
use Rattle.sc_mail.proofs.weights.reports_weight.Given as goal

-- the weight of the reports so far
abbrev pub invariant-loop-report : goal.invariant-loop-report
invariant-loop-report l = l.total ≡ capped (sum_by report_weight (take l.report-index l.report-items))
