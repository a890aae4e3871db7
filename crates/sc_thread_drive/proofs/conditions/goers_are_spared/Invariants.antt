use Rattle.std.proofs.Common.{◌≡◌, ℕ, ◌<◌, slice_index_or, Contains}
use Rattle.sc_actor.specs.declared.schedules.Line.TheVariants.{Go, Crash}
use Rattle.sc_thread_drive.proofs.conditions.goers_are_spared.Given as goal

-- no line so far is a `go` line of an actor that a line lets crash
abbrev pub invariant-loop-line : goal.invariant-loop-line
invariant-loop-line g l = (k : ℕ) (d : _) (who : ℕ) → k < l.line-index → slice_index_or l.lines k d ≡ Go who → ¬ Contains l.lines (Crash who)
