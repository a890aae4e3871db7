use Rattle.std.proofs.Common.{◌≡◌}
use Rattle.sc_scenario.specs.scenario.Made.{made_goes}
use Rattle.sc_run.proofs.making.lines.Given as goal

-- the clients that start so far
abbrev pub invariant-loop-k : goal.invariant-loop-k
invariant-loop-k l = l.lines ≡ made_goes l.k
