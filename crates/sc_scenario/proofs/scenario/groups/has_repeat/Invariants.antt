use Rattle.std.proofs.Common.{◌≡◌, drop}
use Rattle.sc_scenario.specs.scenario.Definitions.{has_repeat}
use Rattle.sc_scenario.proofs.scenario.groups.has_repeat.Given as goal

-- a node that stands twice is among those that are left
abbrev pub invariant-loop-i : goal.invariant-loop-i
invariant-loop-i l = has_repeat (drop l.i l.nodes) ≡ has_repeat l.nodes
