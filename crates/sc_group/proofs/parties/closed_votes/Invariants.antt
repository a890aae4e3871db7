use Rattle.std.proofs.Common.{◌≡◌, map, take}
use Rattle.sc_group_table.specs.machine.MachineDefinitions.{closed}
use Rattle.sc_group.proofs.parties.closed_votes.Given as goal

-- the votes so far
abbrev pub invariant-loop-vote : goal.invariant-loop-vote
invariant-loop-vote l = l.after ≡ map (closed l.tx) (take l.vote-index l.votes)
