use Rattle.std.proofs.Common.{◌≢◌, ℕ, ◌<◌, slice_index_or}
use Rattle.sc_actor.specs.declared.schedules.Line.TheVariants.{Crash}
use Rattle.sc_thread_drive.proofs.conditions.lets_crash.Given as goal

-- no line so far lets the actor crash
abbrev pub invariant-loop-line : goal.invariant-loop-line
invariant-loop-line g l = (k : ℕ) (d : _) → k < l.line-index → slice_index_or l.lines k d ≢ Crash l.who
