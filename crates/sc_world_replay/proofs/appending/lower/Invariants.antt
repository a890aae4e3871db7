use Rattle.std.proofs.Common.{◌≡◌, ◌+◌, drop}
use Rattle.std.specs.List.{prefix_len}
use Rattle.sc_world_replay.proofs.Opens.{below}
use Rattle.sc_world_replay.proofs.appending.lower.Given as goal

abbrev pub invariant-loop-i : goal.invariant-loop-i
invariant-loop-i l = prefix_len (below l.number) l.pending ≡ l.i + prefix_len (below l.number) (drop l.i l.pending)
