use Rattle.std.proofs.Common.{◌≡◌}
use Rattle.sc_thread_work.specs.lend.LendDefinitions.{IsLenderOf, collected_by, lent_by}
use Rattle.sc_thread_work.proofs.lend.office.Office.looks.Given as goal

-- it is not back yet
abbrev pub invariant-loop : goal.invariant-loop
invariant-loop g l = record {
  pass : IsLenderOf l.self l.lender;
  collected : collected_by l.lender ≡ collected_by l.fn.lender;
  same : lent_by l.lender ≡ lent_by l.fn.lender;
}
