use Rattle.std.proofs.Common.{take}
use Rattle.sc_explain.specs.rows.Said.{HasTaken}
use Rattle.sc_explain.proofs.rows.taking.take_all.Given as goal

-- those so far were taken
abbrev pub invariant-loop-entry : goal.invariant-loop-entry
invariant-loop-entry l = HasTaken l.row l.initial.world (take l.entry-index l.entries) l.initial.taken.groups.items l.world l.taken.lines.items l.taken.groups.items
