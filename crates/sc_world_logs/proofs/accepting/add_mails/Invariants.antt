use Rattle.std.proofs.Common.{◌≡◌, ◌++◌, map, take}
use Rattle.sc_world_logs.proofs.accepting.add_mails.Given as goal

-- the mails so far
abbrev pub invariant-loop-mail : goal.invariant-loop-mail
invariant-loop-mail l = map (λ mail. mail.now) l.sent.items ≡ map (λ mail. mail.now) l.initial.sent.items ++ take l.mail-index l.more
