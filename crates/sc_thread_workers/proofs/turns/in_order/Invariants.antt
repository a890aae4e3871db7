use Rattle.std.proofs.Common.{ℕ, ◌<◌, ◌≤◌, ◌+◌, ◌≡◌, true, false, slice_index_or}
use Rattle.sc_thread_workers.specs.Crews.{Passed, Sound, Took, HasStopped, rows_made}
use Rattle.sc_thread_workers.proofs.ChangedLists.{AllBelow, IsLeft}
use Rattle.sc_thread_workers.proofs.turns.in_order.Given as goal

abbrev pub invariant-loop-shell : goal.invariant-loop-shell
invariant-loop-shell g l = record {
  most : l.so_far.did ≤ l.most;
  did : rows_made l.shells ≡ rows_made l.initial.shells + l.so_far.did;
  done : AllBelow Passed l.initial.shells l.shells l.shell-index;
  whole : l.so_far.did ≡ 0 → 0 < l.most → l.so_far.stopped ≡ false → (k : ℕ) (d : _) → k < l.shell-index → Took (slice_index_or l.initial.shells k d) (slice_index_or l.shells k d);
  halted : l.so_far.stopped ≡ true → HasStopped l.shells l.shell-index;
  calm : l.so_far.stopped ≡ false → (k : ℕ) (d : _) → k < l.shell-index → Sound (slice_index_or l.shells k d);
  less : l.so_far.stopped ≡ true → l.so_far.did < l.most;
  left : IsLeft l.initial.shells l.shells l.shell-index;
}
