use Rattle.std.proofs.Common.{◌≡◌, ◌++◌, map, take}
use Rattle.sc_scenario.specs.report.Report.{ring_line}
use Rattle.sc_scenario.proofs.report.printed.add_ring.Given as goal

-- the lines of the groups so far were added
abbrev pub invariant-loop-route : goal.invariant-loop-route
invariant-loop-route l = l.all ≡ l.initial.all ++ map ring_line (take l.route-index l.ring)
