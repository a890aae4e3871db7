use Rattle.std.proofs.Common.{◌≡◌, ℕ, ◌<◌, slice_index_or}
use Rattle.sc_thread_drive.proofs.actor_lines.place_of.Given as goal

-- the shells so far are of others
abbrev pub invariant-loop-i : goal.invariant-loop-i
invariant-loop-i g l = (k : ℕ) (d : _) → k < l.i → (slice_index_or l.shells k d).port.who ≡ l.who → ⊥
