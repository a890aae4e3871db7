use Rattle.std.proofs.Common.{◌≡◌, drop}
use Rattle.sc_world_entries.specs.scans.Pages.{past}
use Rattle.sc_world_entries.proofs.scans.paging.place_after.Given as goal

-- the key was not passed so far
abbrev pub invariant-loop-i : goal.invariant-loop-i
invariant-loop-i l = past l.key l.all ≡ past l.key (drop l.i l.all)
