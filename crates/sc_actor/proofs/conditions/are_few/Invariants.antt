use Rattle.std.proofs.Common.{◌≡◌, ◌-◌, ◌^◌, length, min, take}
use Rattle.sc_actor.specs.Definitions.{mails}
use Rattle.sc_actor.proofs.conditions.are_few.Given as goal

abbrev pub invariant-loop-row : goal.invariant-loop-row
invariant-loop-row g l = l.sent ≡ min (length (mails (take l.row-index l.rows))) (2 ^ 64 - 1)
