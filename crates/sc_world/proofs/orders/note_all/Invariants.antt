use Rattle.std.proofs.Common.{◌≡◌, ℕ, ◌+◌, ◌<◌, length, get_or, take, None}
use Rattle.sc_node_table.specs.Replica.{either}
use Rattle.sc_world.specs.Summary.{reported_of}
use Rattle.sc_world.proofs.orders.note_all.Given as goal

-- what the mails so far report
abbrev pub invariant-loop-mail : goal.invariant-loop-mail
invariant-loop-mail l = record {
  len : length l.recorded ≡ length l.initial.recorded;
  kept : (k : ℕ) → k < length l.initial.recorded → get_or l.recorded k None ≡ either (get_or l.initial.recorded k None) (reported_of (k + 1) (take l.mail-index l.sent));
}
