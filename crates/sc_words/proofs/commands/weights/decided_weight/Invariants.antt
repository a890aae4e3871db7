use Rattle.std.proofs.Common.{◌≡◌, take}
use Rattle.std.specs.List.{sum_by}
use Rattle.sc_words.specs.commands.CommandDefinitions.{capped, decision_weight}
use Rattle.sc_words.proofs.commands.weights.decided_weight.Given as goal

-- the weight of the decisions so far
abbrev pub invariant-loop-decision : goal.invariant-loop-decision
invariant-loop-decision l = l.total ≡ capped (sum_by decision_weight (take l.decision-index l.decision-items))
