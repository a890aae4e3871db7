use Rattle.std.proofs.Common.{◌≡◌, take}
use Rattle.sc_thread_workers.specs.Crews.{crew_numbers}
use Rattle.sc_thread_drive.proofs.storm_lines.numbers_of.Given as goal

abbrev pub invariant-loop-shell : goal.invariant-loop-shell
invariant-loop-shell g l = l.numbers.items ≡ crew_numbers (take l.shell-index l.shells)
