use Rattle.sc_thread_work.specs.lend.LendDefinitions.{IsHelperOf}
use Rattle.sc_thread_work.proofs.lend.office.Office.help.Given as goal

abbrev pub invariant-loop : goal.invariant-loop
invariant-loop g l = IsHelperOf l.self l.helper
