use Rattle.std.proofs.Common.{◌≡◌, take}
use Rattle.sc_words.specs.commands.CommandDefinitions.{capped, clients_weight}
use Rattle.sc_words.proofs.commands.weights.clients_weight.Given as goal

-- the weight of the entries so far
abbrev pub invariant-loop-seen : goal.invariant-loop-seen
invariant-loop-seen l = l.total ≡ capped (clients_weight (take l.seen-index l.seen-items))
