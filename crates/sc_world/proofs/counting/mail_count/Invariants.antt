use Rattle.std.proofs.Common.{◌≡◌, length, take}
use Rattle.sc_actor.specs.Mail.{mails}
use Rattle.sc_world.proofs.counting.mail_count.Given as goal

-- the mails of the rows so far
abbrev pub invariant-loop-row : goal.invariant-loop-row
invariant-loop-row l = l.total ≡ length (mails (take l.row-index l.rows))
