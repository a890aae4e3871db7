use Rattle.std.proofs.Common.{◌≡◌, take}
use Rattle.sc_words.specs.paxos.PaxosDefinitions.{reports_from}
use Rattle.sc_paxos.proofs.acceptor.reports_from.Given as goal

abbrev pub invariant-loop-report : goal.invariant-loop-report
invariant-loop-report g l = l.reports ≡ reports_from l.from (take l.report-index l.accepted)
