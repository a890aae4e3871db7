use Rattle.std.proofs.Common.{◌≡◌, ◌≤◌, ◌*◌, length, take}
use Rattle.sc_base.specs.Majority.{votes_of}
use Rattle.sc_paxos_law.specs.Decided.{voters_of}
use Rattle.sc_world_logs.specs.Acceptances.{steps_of}
use Rattle.sc_world_logs.proofs.choosing.is_majority.Given as goal

-- the votes of the members so far, which are no majority
abbrev pub invariant-loop-member : goal.invariant-loop-member
invariant-loop-member l = record {
  below : l.votes ≤ l.member-index;
  few : 2 * l.votes ≤ length l.members;
  so_far : l.votes ≡ votes_of (take l.member-index l.members) (voters_of (steps_of l.found) l.ballot l.slot);
}
