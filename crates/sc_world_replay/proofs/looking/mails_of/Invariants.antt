use Rattle.std.proofs.Common.{◌≡◌, take}
use Rattle.sc_actor.specs.Mail.{mails}
use Rattle.sc_world_replay.proofs.looking.mails_of.Given as goal

abbrev pub invariant-loop-row : goal.invariant-loop-row
invariant-loop-row g l = l.sent.items ≡ mails (take l.row-index l.rows)
