use Rattle.std.proofs.Common.{◌≡◌, take}
use Rattle.sc_actor.specs.Mail.{copies}
use Rattle.sc_world_replay.proofs.looking.copies_of.Given as goal

abbrev pub invariant-loop-row : goal.invariant-loop-row
invariant-loop-row g l = l.counts.items ≡ copies (take l.row-index l.rows)
