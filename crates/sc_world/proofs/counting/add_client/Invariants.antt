use Rattle.std.proofs.Common.{◌≡◌, ◌++◌, drop}
use Rattle.sc_meaning.specs.sound.Summary.{asked_from}
use Rattle.sc_world.proofs.counting.add_client.Given as goal

-- what was added, and then what is left, are the requests
abbrev pub invariant-loop-i : goal.invariant-loop-i
invariant-loop-i l = l.asked ++ asked_from l.client l.i (drop l.i l.ops) ≡ l.initial.asked ++ asked_from l.client 0 l.ops
