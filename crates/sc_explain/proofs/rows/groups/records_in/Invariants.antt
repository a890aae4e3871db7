use Rattle.std.proofs.Common.{◌≡◌, map, take}
use Rattle.sc_explain.specs.facts.Facts.{record_of}
use Rattle.sc_explain.proofs.rows.groups.records_in.Given as goal

-- those so far
abbrev pub invariant-loop-group : goal.invariant-loop-group
invariant-loop-group l = l.records.items ≡ map (λ group. record_of group.core) (take l.group-index l.groups)
