use Rattle.std.proofs.Common.{◌≡◌, ◌++◌, take}
use Rattle.sc_by_hand.proofs.steps.hand_over.Given as goal

-- the mails so far are on it
abbrev pub invariant-loop-mail : goal.invariant-loop-mail
invariant-loop-mail g l = l.wire ≡ l.initial.wire ++ take l.mail-index l.sent
