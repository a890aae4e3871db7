use Rattle.std.proofs.Common.{◌≡◌, []}
use Rattle.sc_thread_ports.specs.exchange.Ports.{given, joined_ports}
use Rattle.sc_thread_workers.specs.Crews.{AllOf, AllSound, crew_numbers}
use Rattle.sc_tests_threads.proofs.ends_tests.left_after.Given as goal

-- the shells are those of the exchange, whose port is as it was
abbrev pub invariant-loop-place : goal.invariant-loop-place
invariant-loop-place g l = record {
  of : AllOf l.company.net l.company.shells.items;
  sound : AllSound l.company.shells.items;
  all : given l.company.net ≡ crew_numbers l.company.shells.items;
  first : l.company.net.who ≡ 0;
  none : joined_ports l.company.net ≡ [];
}
