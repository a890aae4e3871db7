use Rattle.std.proofs.Common.{ℕ, ◌<◌, slice_index_or}
use Rattle.sc_thread_workers.specs.Crews.{Sound}
use Rattle.sc_thread_workers.proofs.turns.refused_in.Given as goal

-- none of the shells so far was refused
abbrev pub invariant-loop-shell : goal.invariant-loop-shell
invariant-loop-shell g l = (k : ℕ) (d : _) → k < l.shell-index → Sound (slice_index_or l.shells k d)
