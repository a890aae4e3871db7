use Rattle.std.proofs.Common.{◌≡◌, ℕ, ◌+◌, ◌<◌, length, get_or, take, None}
use Rattle.sc_actor.specs.Mail.{mails}
use Rattle.sc_node_table.specs.Replica.{either}
use Rattle.sc_world.specs.Summary.{reported_of}
use Rattle.sc_world.proofs.orders.note_rows.Given as goal

-- what the rows so far report
abbrev pub invariant-loop-row : goal.invariant-loop-row
invariant-loop-row l = record {
  len : length l.recorded ≡ length l.initial.recorded;
  kept : (k : ℕ) → k < length l.initial.recorded → get_or l.recorded k None ≡ either (get_or l.initial.recorded k None) (reported_of (k + 1) (mails (take l.row-index l.rows)));
}
