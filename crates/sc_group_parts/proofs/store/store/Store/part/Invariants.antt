use Rattle.std.proofs.Common.{◌≡◌, map}
use Rattle.std.specs.List.{filter}
use Rattle.std.specs.Map.Iter.{deref_pair}
use Rattle.sc_words.specs.ideal.IdealDefinitions.{holds_key}
use Rattle.sc_group_parts.proofs.store.store.Store.part.Given as goal

-- the pairs so far that the arc holds
abbrev pub invariant-loop-key : goal.invariant-loop-key
invariant-loop-key l = l.pairs ≡ filter (λ e. holds_key l.arc e.0) (map deref_pair l.yielded)
