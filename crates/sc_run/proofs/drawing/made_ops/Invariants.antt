use Rattle.std.proofs.Common.{◌≡◌, ◌+◌, ◌*◌}
use Rattle.sc_scenario.specs.scenario.Made.{made_ops}
use Rattle.sc_run.proofs.drawing.made_ops.Given as goal

-- the requests so far, and the step of the next one
abbrev pub invariant-loop-k : goal.invariant-loop-k
invariant-loop-k l = (l.ops ≡ made_ops l.initial.chance.number l.n l.before l.k) × (l.chance ≡ record l.initial.chance { step = l.before * l.n + l.k })
