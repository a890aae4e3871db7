use Rattle.std.proofs.Common.{◌∙◌, sym, ap, position}
use Rattle.sc_thread_ledger.proofs.Places.{At, at_place, at_none}
use Rattle.sc_thread_ledger.proofs.copies.take_out.Goals as goal

pub returns-in-Some : goal.returns-in-Some
returns-in-Some c =
    c.remove.ensures.items
    ∙ (at_place c.args.number 0 c.args.copies.now.items c.in-Some.place (ap (position (At c.args.number 0)) (sym c.as_slice.ensures.value) ∙ sym c.place_of.ensures ∙ c.in-Some.is)).0

pub returns-in_default : goal.returns-in_default
returns-in_default c =
    (at_none c.args.number 0 c.args.copies.now.items (ap (position (At c.args.number 0)) (sym c.as_slice.ensures.value) ∙ sym c.place_of.ensures ∙ c.in_default.is)).0
