use Rattle.sc_thread_workers.specs.Crews.{Took}
use Rattle.sc_thread_workers.proofs.ChangedLists.{AllBelow, IsLeft}
use Rattle.sc_thread_workers.proofs.turns.turns.Given as goal

-- the shells before the index took their turn, and the others are as they were
abbrev pub invariant-loop-shell : goal.invariant-loop-shell
invariant-loop-shell g l = record {
  done : AllBelow Took l.initial.part l.part l.shell-index;
  left : IsLeft l.initial.part l.part l.shell-index;
}
