use Rattle.std.proofs.Common.{◌≡◌, false, take}
use Rattle.std.specs.List.{list_any}
use Rattle.sc_meaning.specs.sound.Accepts.{is_accepted}
use Rattle.sc_world_logs.proofs.accepting.says_accepted.Given as goal

-- none so far
abbrev pub invariant-loop-mail : goal.invariant-loop-mail
invariant-loop-mail l = list_any (λ mail. is_accepted l.group l.ballot l.slot mail.body) (take l.mail-index l.sent) ≡ false
