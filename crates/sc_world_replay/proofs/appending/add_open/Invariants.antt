use Rattle.std.proofs.Common.{◌≡◌, ◌+◌, ◌-◌, ◌++◌, drop, length, replicate}
use Rattle.sc_actor.specs.System.{numbers_of}
use Rattle.sc_world_replay.specs.Opens.{opens, runs}
use Rattle.sc_world_replay.proofs.appending.add_open.Given as goal

abbrev pub invariant-loop-i : goal.invariant-loop-i
invariant-loop-i g l =
    l.pending.items ++ opens g.M.Parcel.receiver (runs (numbers_of l.seats) l.crashed) (l.first + l.i) (drop l.i l.sent) (replicate (length l.sent - l.i) 1)
    ≡ l.initial.pending.items ++ opens g.M.Parcel.receiver (runs (numbers_of l.seats) l.crashed) l.first l.sent (replicate (length l.sent) 1)
