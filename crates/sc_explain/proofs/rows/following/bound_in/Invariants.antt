use Rattle.std.proofs.Common.{◌≡◌, take}
use Rattle.sc_explain.specs.rows.Said.{AreByLog, bound_names}
use Rattle.sc_explain.proofs.rows.following.bound_in.Given as goal

-- of those so far
abbrev pub invariant-loop-group : goal.invariant-loop-group
invariant-loop-group l = AreByLog (take l.group-index l.groups) l.bound.items × (l.bound.items ≡ bound_names (take l.group-index l.groups))
