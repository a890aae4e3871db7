use Rattle.std.proofs.Common.{ap, ◌∙◌, arith}
use Rattle.sc_thread_ledger.specs.LedgerDefinitions.{is_one_of}
use Rattle.sc_thread_ledger.proofs.OneCopy.{counted_on, fits_on}
use Rattle.sc_thread_ledger.proofs.picking.count_for.Goals as goal

pub loop-entry-preserved : goal.loop-entry-preserved
loop-entry-preserved c =
    counted_on c.args.receivers.now (is_one_of c.args.whos.now) c.args.copies.now c.loop-entry.entry-index c.loop-entry.many c.share.result c.in_ok-more.more c.is_one_of-asked.result
    (omega arith) (c.is_one_of-asked.ensures ∙ ap (is_one_of c.args.whos.now) c.receiver_of.ensures) c.share.ensures c.loop-entry.invariant c.in_ok-more.ensures.sum

pub returns-in_err-more-clause-fits : goal.returns-in_err-more-clause-fits
returns-in_err-more-clause-fits c = λ few.
    let ok = c.in_err-more.ensures.fits
    (fits_on c.args.receivers.now (is_one_of c.args.whos.now) c.args.copies.now c.loop-entry.entry-index c.loop-entry.many c.share.result c.is_one_of-asked.result
    (omega arith) (c.is_one_of-asked.ensures ∙ ap (is_one_of c.args.whos.now) c.receiver_of.ensures) c.share.ensures c.loop-entry.invariant few) in
    absurd (cc)
