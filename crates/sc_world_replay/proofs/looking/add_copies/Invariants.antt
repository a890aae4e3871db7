use Rattle.std.proofs.Common.{◌≡◌, ◌++◌, replicate}
use Rattle.sc_world_replay.proofs.looking.add_copies.Given as goal

abbrev pub invariant-loop-i : goal.invariant-loop-i
invariant-loop-i l = l.copies.items ≡ l.initial.copies.items ++ replicate l.i 1
