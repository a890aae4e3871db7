use Rattle.std.proofs.Common.{◌<◌, length, arith}
use Rattle.sc_by_hand.proofs.Deeds.{delivered}
use Rattle.sc_by_hand.proofs.hand.Hand.run.Goals as goal

pub loop-place-preserved : goal.loop-place-preserved
loop-place-preserved g c =
    let held = c.loop-place.invariant in
    let within : c.loop-place.place < length c.loop-place.self.log.wire = omega (arith, c.if-place-len.false, c.len.ensures) in
    record {
      carried = c.in_ok-serve.ensures.carried;
      deeds = delivered g.A.Actor.table g.A.Mail.Parcel.receiver c.args.self.now c.loop-place.self c.serve.new.self c.loop-place.place held.carried within held.deeds c.in_ok-serve.ensures.deed;
    }
