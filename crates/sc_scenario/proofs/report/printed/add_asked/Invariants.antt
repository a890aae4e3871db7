use Rattle.std.proofs.Common.{◌≡◌, ◌++◌, map, take}
use Rattle.sc_scenario.specs.report.Report.{asked_line}
use Rattle.sc_scenario.proofs.report.printed.add_asked.Given as goal

-- the lines of the requests so far were added
abbrev pub invariant-loop-one : goal.invariant-loop-one
invariant-loop-one l = l.all ≡ l.initial.all ++ map asked_line (take l.one-index l.asked)
