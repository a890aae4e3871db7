use Rattle.std.proofs.Common.{ℕ, ap, arith, length, filter, take, eqb}
use Rattle.sc_thread_ledger.specs.LedgerDefinitions.{copies_in, spots_from}
use Rattle.sc_thread_ledger.specs.declared.spots.Spot.{Spot}
use Rattle.sc_thread_ledger.proofs.picking.spot_behind.Goals as goal

pub returns-in_err-before-clause-fits : goal.returns-in_err-before-clause-fits
returns-in_err-before-clause-fits c = λ few.
    let same = ap (λ (who : ℕ). length (filter (λ (s : Spot). eqb s.who who) (spots_from c.args.receivers.now (copies_in (take c.args.entries c.args.copies.now))))) c.receiver_of-who.ensures in
    let ok = c.in_err-before.ensures.fits (omega (arith, same, few)) in
    absurd (cc)

pub returns-in_err-last-clause-fits : goal.returns-in_err-last-clause-fits
returns-in_err-last-clause-fits c = λ few.
    let same = ap (λ (who : ℕ). length (filter (λ (s : Spot). eqb s.who who) (spots_from c.args.receivers.now (copies_in (take c.args.entries c.args.copies.now))))) c.receiver_of-who.ensures in
    let ok = c.in_err-last.ensures.fits (omega (arith, same, c.in_ok-before.ensures.many, few)) in
    absurd (cc)

pub returns-in_err-k-clause-fits : goal.returns-in_err-k-clause-fits
returns-in_err-k-clause-fits c = λ few.
    let same = ap (λ (who : ℕ). length (filter (λ (s : Spot). eqb s.who who) (spots_from c.args.receivers.now (copies_in (take c.args.entries c.args.copies.now))))) c.receiver_of-who.ensures in
    let ok = c.in_err-k.ensures.fits (omega (arith, same, c.in_ok-before.ensures.many, c.in_ok-last.ensures.sum, few)) in
    absurd (cc)
