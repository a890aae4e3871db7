use Rattle.std.proofs.Common.{◌≡◌, map, take}
use Rattle.sc_explain.specs.rows.Counts.{recounted}
use Rattle.sc_explain.proofs.rows.counts.recount.Given as goal

-- those so far
abbrev pub invariant-loop-group : goal.invariant-loop-group
invariant-loop-group l = l.after.items ≡ map (recounted l.name l.op l.reply.old) (take l.group-index l.groups)
