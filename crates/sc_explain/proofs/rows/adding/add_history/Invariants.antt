use Rattle.std.proofs.Common.{◌≡◌, ◌++◌, map, take}
use Rattle.sc_explain.specs.facts.Facts.{history_line}
use Rattle.sc_explain.proofs.rows.adding.add_history.Given as goal

-- the lines so far
abbrev pub invariant-loop-entry : goal.invariant-loop-entry
invariant-loop-entry l = l.lines.items ≡ l.initial.lines.items ++ map (history_line l.row) (take l.entry-index l.history)
