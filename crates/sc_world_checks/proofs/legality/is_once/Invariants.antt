use Rattle.std.proofs.Common.{ℕ, ◌<◌}
use Rattle.std.specs.Prelude.{slice_index_or}
use Rattle.sc_words.specs.declared.ideal.Entry.{Entry}
use Rattle.sc_words.specs.ideal.History.{AreApart}
use Rattle.sc_world_checks.proofs.legality.is_once.Given as goal

-- each two so far are apart
abbrev pub invariant-loop-i : goal.invariant-loop-i
invariant-loop-i l = (i j : ℕ) (d : Entry) → i < j → j < l.i → AreApart (slice_index_or l.entries i d) (slice_index_or l.entries j d)
