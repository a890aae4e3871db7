use Rattle.std.proofs.Common.{sym, ◌∙◌, arith}
use Rattle.sc_thread_ledger.specs.LedgerDefinitions.{copies_in, copies_for, spots_from, is_one_of}
use Rattle.sc_thread_ledger.proofs.OneCopy.{picked_none, picked_some, kept_few}
use Rattle.sc_thread_ledger.proofs.picking.picked.Goals as goal

pub returns-then-many-eq0-clause-spot : goal.returns-then-many-eq0-clause-spot
returns-then-many-eq0-clause-spot c =
    picked_none (copies_for c.args.whos.now (spots_from c.args.receivers.now (copies_in c.args.copies.now))) c.args.word (sym c.in_ok-many.ensures.many ∙ c.if-many-eq0.true)

pub returns-clause-spot : goal.returns-clause-spot
returns-clause-spot c =
    picked_some (copies_for c.args.whos.now (spots_from c.args.receivers.now (copies_in c.args.copies.now))) c.args.word c.in_ok-many.many c.nth_for.result c.in_ok-many.ensures.many c.nth_for.ensures.spot

pub returns-in_err-many-clause-fits : goal.returns-in_err-many-clause-fits
returns-in_err-many-clause-fits c = λ few.
    let ok = c.in_err-many.ensures.fits (omega (arith, kept_few c.args.receivers.now (is_one_of c.args.whos.now) c.args.copies.now, few)) in
    absurd (cc)
