use Rattle.std.proofs.Common.{◌≡◌, take}
use Rattle.sc_explain.specs.facts.Sameness.{same_record}
use Rattle.sc_explain.specs.rows.Explained.{changed}
use Rattle.sc_explain.proofs.rows.changes.changed_records.Given as goal

-- those so far
abbrev pub invariant-loop-one : goal.invariant-loop-one
invariant-loop-one l = l.new.items ≡ changed same_record l.before (take l.one-index l.after)
