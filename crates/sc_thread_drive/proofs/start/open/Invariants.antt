use Rattle.sc_thread_drive.proofs.SeatsAtStart.{Begun}
use Rattle.sc_thread_drive.proofs.start.open.Given as goal

-- the shells of the seats so far
abbrev pub invariant-loop-seat : goal.invariant-loop-seat
invariant-loop-seat g l = Begun l.fn.actors l.fn.limit l.yielded l.net l.shells.items
