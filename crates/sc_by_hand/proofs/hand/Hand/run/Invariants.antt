use Rattle.std.proofs.Common.{◌≡◌}
use Rattle.std.specs.Prelude.{fold}
use Rattle.sc_actor.specs.Mail.{mails}
use Rattle.sc_by_hand.specs.Deeds.{after_deed, deeds_of}
use Rattle.sc_by_hand.proofs.hand.Hand.run.Given as goal

-- the wire holds what the rows have sent, and the mails so far were delivered
abbrev pub invariant-loop-place : goal.invariant-loop-place
invariant-loop-place g l = record {
  carried : l.self.log.wire ≡ mails l.self.log.rows;
  deeds : l.self ≡ fold (after_deed g.A.Actor.table) l.fn.self (deeds_of g.A.Mail.Parcel.receiver l.place l.self.log.wire);
}
