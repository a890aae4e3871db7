use Rattle.std.proofs.Common.{◌≡◌, ℕ, ◌-◌, ap, ◌∙◌, arith, length, filter, get_or, eqb, unwrap_or, Option}
use Rattle.sc_thread_ledger.specs.declared.spots.Spot.{Spot}
use Rattle.sc_thread_ledger.proofs.spots.spot_after.Goals as goal

pub returns-in_default-clause-fits : goal.returns-in_default-clause-fits
returns-in_default-clause-fits c = λ few.
    let who : c.unwrap_or-who.result ≡ get_or c.args.receivers.now (c.args.number - 1) 0 =
    c.unwrap_or-who.ensures ∙ ap (λ (o : Option ℕ). unwrap_or o 0) c.copied.ensures ∙ c.get.ensures.lookup.4 (omega arith) 0
    ∙ ap (λ (place : ℕ). get_or c.args.receivers.now place 0) c.saturating_sub-place.ensures in
    let same = ap (λ (n : ℕ). length (filter (λ (s : Spot). eqb s.who n) c.args.before.now)) who in
    absurd (c.in_default.ensures (omega (arith, c.saturating_add.ensures, c.copies_to.ensures, same, few)))
