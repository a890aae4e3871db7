use Rattle.std.proofs.Common.{ℕ, eqb, ap, arith}
use Rattle.sc_thread_ledger.proofs.OneCopy.{counted_on, fits_to}
use Rattle.sc_thread_ledger.proofs.picking.count_to.Goals as goal

pub loop-i-preserved : goal.loop-i-preserved
loop-i-preserved c =
    counted_on c.args.receivers.now (λ (who : ℕ). eqb who c.args.who) c.args.copies.now c.loop-i.i c.loop-i.many c.share.result c.in_ok-more.more _
    (omega arith) (ap (λ (who : ℕ). eqb who c.args.who) c.receiver_of.ensures) c.share.ensures c.loop-i.invariant c.in_ok-more.ensures.sum

pub returns-in_err-more-clause-fits : goal.returns-in_err-more-clause-fits
returns-in_err-more-clause-fits c = λ few.
    let ok = c.in_err-more.ensures.fits
    (fits_to c.args.receivers.now (λ (who : ℕ). eqb who c.args.who) c.args.copies.now c.loop-i.i c.args.entries c.loop-i.many c.share.result _
    (omega arith) (omega arith) (ap (λ (who : ℕ). eqb who c.args.who) c.receiver_of.ensures) c.share.ensures c.loop-i.invariant few) in
    absurd (cc)
