use Rattle.std.proofs.Common.{◌∙◌, sym, ap, position}
use Rattle.sc_thread_ledger.proofs.Places.{At, at_place, at_none}
use Rattle.sc_thread_ledger.proofs.copies.replace.Goals as goal

pub returns-in-Some : goal.returns-in-Some
returns-in-Some c =
    (at_place c.args.number c.args.count c.args.copies.now.items c.in-Some.place (ap (position (At c.args.number c.args.count)) (sym c.as_slice.ensures.value) ∙ sym c.place_of.ensures ∙ c.in-Some.is)).1

pub returns-in_ok-push-in-None : goal.returns-in_ok-push-in-None
returns-in_ok-push-in-None c =
    c.in_ok-push-in-None.ensures.items
    ∙ (at_none c.args.number c.args.count c.args.copies.now.items (ap (position (At c.args.number c.args.count)) (sym c.as_slice.ensures.value) ∙ sym c.place_of.ensures ∙ c.in-None.is)).1
