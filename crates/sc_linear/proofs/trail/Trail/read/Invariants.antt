use Rattle.std.proofs.Common.{◌≡◌, ◌<◌, ◌++◌, length, reverse}
use Rattle.sc_linear.specs.Trails.{path_at}
use Rattle.sc_linear.proofs.trail.Trail.read.Given as goal

abbrev pub decreases-loop-at : goal.decreases-loop-at
decreases-loop-at l = l.at

abbrev pub invariant-loop-at : goal.invariant-loop-at
invariant-loop-at l = record {
  within : l.at < length l.self;
  rest : path_at l.self l.number ≡ path_at l.self l.at ++ reverse l.path.items;
}
