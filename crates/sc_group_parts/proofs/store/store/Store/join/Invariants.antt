use Rattle.std.proofs.Common.{◌≡◌, take}
use Rattle.sc_words.specs.ideal.IdealDefinitions.{with_pairs}
use Rattle.sc_group_parts.proofs.store.store.Store.join.Given as goal

-- the pairs so far are there
abbrev pub invariant-loop-pair : goal.invariant-loop-pair
invariant-loop-pair l = l.self ≡ with_pairs l.initial.self (take l.pair-index l.pair-items)
