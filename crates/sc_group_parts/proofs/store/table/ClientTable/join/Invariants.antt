use Rattle.std.proofs.Common.{◌≡◌, take}
use Rattle.sc_words.specs.ideal.IdealDefinitions.{joined_with}
use Rattle.sc_group_parts.proofs.store.table.ClientTable.join.Given as goal

-- the entries so far are joined
abbrev pub invariant-loop-entry : goal.invariant-loop-entry
invariant-loop-entry l = l.self ≡ joined_with l.initial.self (take l.entry-index l.entry-items)
