use Rattle.std.proofs.Common.{◌≡◌, drop}
use Rattle.sc_base.specs.Definitions.{united}
use Rattle.sc_base.proofs.sets.Members.union.Given as goal

abbrev pub invariant-loop-node : goal.invariant-loop-node
invariant-loop-node l = united l.all (drop l.node-index l.other) ≡ united l.self l.other
