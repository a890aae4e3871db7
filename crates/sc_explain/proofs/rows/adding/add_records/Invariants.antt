use Rattle.std.proofs.Common.{◌≡◌, ◌++◌, map, take}
use Rattle.sc_explain.specs.facts.Facts.{record_line}
use Rattle.sc_explain.proofs.rows.adding.add_records.Given as goal

-- the lines so far
abbrev pub invariant-loop-one : goal.invariant-loop-one
invariant-loop-one l = l.lines.items ≡ l.initial.lines.items ++ map (record_line l.row) (take l.one-index l.records)
