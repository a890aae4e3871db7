use Rattle.std.proofs.Common.{ℕ, ◌<◌}
use Rattle.std.specs.Prelude.{slice_index_or}
use Rattle.sc_words.specs.declared.ideal.Entry.{Entry}
use Rattle.sc_words.specs.ideal.History.{AreApart}
use Rattle.sc_world_checks.proofs.legality.is_apart.Given as goal

-- those so far are apart
abbrev pub invariant-loop-other : goal.invariant-loop-other
invariant-loop-other l = (k : ℕ) (d : Entry) → k < l.other-index → AreApart (slice_index_or l.entries k d) l.entry
