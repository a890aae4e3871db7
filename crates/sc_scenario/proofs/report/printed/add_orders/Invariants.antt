use Rattle.std.proofs.Common.{◌≡◌, ◌+◌, ◌++◌, drop}
use Rattle.sc_scenario.specs.report.Report.{order_state_lines}
use Rattle.sc_scenario.proofs.report.printed.add_orders.Given as goal

-- the lines so far with those of the orders that are left are all lines
abbrev pub invariant-loop-i : goal.invariant-loop-i
invariant-loop-i l = l.all ++ order_state_lines (l.i + 1) (drop l.i l.orders) ≡ l.initial.all ++ order_state_lines 1 l.orders
