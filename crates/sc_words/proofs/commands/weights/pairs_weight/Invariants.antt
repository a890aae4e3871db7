use Rattle.std.proofs.Common.{◌≡◌, take}
use Rattle.sc_words.specs.commands.CommandDefinitions.{capped, pairs_weight}
use Rattle.sc_words.proofs.commands.weights.pairs_weight.Given as goal

-- the weight of the pairs so far
abbrev pub invariant-loop-pair : goal.invariant-loop-pair
invariant-loop-pair l = l.total ≡ capped (pairs_weight (take l.pair-index l.pair-items))
