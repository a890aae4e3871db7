use Rattle.std.proofs.Common.{◌≡◌, take}
use Rattle.std.specs.Option.{option_copied}
use Rattle.sc_words.specs.paxos.PaxosDefinitions.{choice}
use Rattle.sc_paxos.proofs.picking.best_of.Given as goal

abbrev pub invariant-loop-report : goal.invariant-loop-report
invariant-loop-report g l = option_copied l.best ≡ choice l.slot (take l.report-index l.reports)
