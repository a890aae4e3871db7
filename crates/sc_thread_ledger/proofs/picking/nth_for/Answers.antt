use Rattle.std.proofs.Common.{Some, ap, sym, ◌∙◌, arith}
use Rattle.sc_thread_ledger.specs.LedgerDefinitions.{is_one_of}
use Rattle.sc_thread_ledger.proofs.OneCopy.{found_none, found_now, found_fits, left_on}
use Rattle.sc_thread_ledger.proofs.picking.nth_for.Goals as goal

pub loop-i-preserved : goal.loop-i-preserved
loop-i-preserved c =
    left_on c.args.receivers.now (is_one_of c.args.whos.now) c.args.copies.now c.loop-i.i c.loop-i.left c.share-own.result c.args.n c.is_one_of-asked.result
    (omega arith) (c.is_one_of-asked.ensures ∙ ap (is_one_of c.args.whos.now) c.receiver_of.ensures) c.share-own.ensures (omega arith) c.loop-i.invariant

pub returns-then-left-own-clause-spot : goal.returns-then-left-own-clause-spot
returns-then-left-own-clause-spot c =
    ap Some c.in_ok-spot.ensures.spot
    ∙ sym (found_now c.args.receivers.now (is_one_of c.args.whos.now) c.args.copies.now c.loop-i.i c.loop-i.left c.share-own.result c.args.n c.is_one_of-asked.result
    (omega arith) (c.is_one_of-asked.ensures ∙ ap (is_one_of c.args.whos.now) c.receiver_of.ensures) c.share-own.ensures (omega arith) c.loop-i.invariant)

pub returns-clause-spot : goal.returns-clause-spot
returns-clause-spot c = sym (found_none c.args.receivers.now (is_one_of c.args.whos.now) c.args.copies.now c.loop-i.i c.loop-i.left c.args.n (omega arith) c.loop-i.invariant)

pub returns-in_err-spot-clause-fits : goal.returns-in_err-spot-clause-fits
returns-in_err-spot-clause-fits c = λ few.
    let ok = c.in_err-spot.ensures.fits
    (found_fits c.args.receivers.now (is_one_of c.args.whos.now) c.args.copies.now c.loop-i.i c.loop-i.left c.share-own.result c.is_one_of-asked.result (omega arith) c.share-own.ensures (omega arith) few) in
    absurd (cc)
