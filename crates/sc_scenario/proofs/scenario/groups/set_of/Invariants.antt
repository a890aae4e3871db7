use Rattle.std.proofs.Common.{◌≡◌, drop}
use Rattle.sc_scenario.specs.scenario.Definitions.{joined_by_all, set_of}
use Rattle.sc_scenario.proofs.scenario.groups.set_of.Given as goal

-- the set so far with those that are left is the whole set
abbrev pub invariant-loop-other : goal.invariant-loop-other
invariant-loop-other l = joined_by_all l.members (drop l.other-index l.others) ≡ set_of l.node l.others
