use Rattle.std.proofs.Common.{◌≡◌, take}
use Rattle.sc_base.specs.Roster.{IsRoster}
use Rattle.sc_json_read.proofs.sets.set_of.Given as goal

abbrev pub invariant-loop-i : goal.invariant-loop-i
invariant-loop-i l = IsRoster l.nodes → l.members ≡ take l.i l.nodes
