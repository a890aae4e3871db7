use Rattle.std.proofs.Common.{◌≡◌, take}
use Rattle.std.specs.Option.{option_copied, option_map}
use Rattle.sc_paxos_law.specs.Decided.{found_in}
use Rattle.sc_world_logs.specs.Acceptances.{steps_of, report_of, IsFoundChosen}
use Rattle.sc_world_logs.proofs.choosing.find_at.Given as goal

-- the least of those so far
abbrev pub invariant-loop-acceptance : goal.invariant-loop-acceptance
invariant-loop-acceptance l = record {
  least : option_map report_of (option_copied l.best) ≡ found_in l.members (steps_of l.found) l.slot (steps_of (take l.acceptance-index l.found));
  chosen : IsFoundChosen l.members (steps_of l.found) l.slot (option_copied l.best);
}
