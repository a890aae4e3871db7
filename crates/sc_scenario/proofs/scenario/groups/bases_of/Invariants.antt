use Rattle.std.proofs.Common.{◌≡◌}
use Rattle.sc_scenario.specs.scenario.Definitions.{bases_up_to}
use Rattle.sc_scenario.proofs.scenario.groups.bases_of.Given as goal

-- the records of the groups so far
abbrev pub invariant-loop-k : goal.invariant-loop-k
invariant-loop-k l = l.bases ≡ bases_up_to l.lines l.k
