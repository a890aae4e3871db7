use Rattle.std.proofs.Common.{◌≡◌, ◌+◌, ◌++◌, drop}
use Rattle.sc_actor.specs.Mail.{is_for, numbers, pending}
use Rattle.sc_actor.specs.System.{numbers_of}
use Rattle.sc_world_replay.proofs.looking.pending_of.Given as goal

abbrev pub invariant-loop-i : goal.invariant-loop-i
invariant-loop-i g l =
    l.found ++ numbers (is_for g.M.Parcel.receiver (numbers_of l.seats) l.rows l.whose) (l.i + 1) (drop l.i l.sent.items) (drop l.i l.counts.items)
    ≡ pending g.M.Parcel.receiver (numbers_of l.seats) l.rows l.whose
