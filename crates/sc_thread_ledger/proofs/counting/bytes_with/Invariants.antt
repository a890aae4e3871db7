use Rattle.std.proofs.Common.{◌≡◌, ◌+◌, ◌-◌, ◌^◌, min, sum_by, take}
use Rattle.sc_actor.specs.Definitions.{mail_bytes}
use Rattle.sc_thread_ledger.proofs.counting.bytes_with.Given as goal

-- the bytes of the mails so far
abbrev pub invariant-loop-mail : goal.invariant-loop-mail
invariant-loop-mail g l = l.total ≡ min (l.before + (64 + sum_by (mail_bytes g.M.Parcel.weighs) (take l.mail-index l.sent))) (2 ^ 64 - 1)
