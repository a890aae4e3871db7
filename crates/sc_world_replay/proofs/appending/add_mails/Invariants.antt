use Rattle.std.proofs.Common.{◌≡◌, ◌++◌, take}
use Rattle.sc_world_replay.proofs.appending.add_mails.Given as goal

abbrev pub invariant-loop-mail : goal.invariant-loop-mail
invariant-loop-mail g l = l.mails.items ≡ l.initial.mails.items ++ take l.mail-index l.sent
