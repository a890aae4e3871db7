use Rattle.std.proofs.Common.{◌∙◌, Some, sym, ap, position}
use Rattle.sc_paxos.proofs.Places.{At, at_place, at_none}
use Rattle.sc_paxos.proofs.flights.take_out.Goals as goal

pub returns-in-Some-clause-value : goal.returns-in-Some-clause-value
returns-in-Some-clause-value g c =
    let is = at_place c.args.slot c.args.flights.now.items c.in-Some.at
    (ap (position (At c.args.slot)) (sym c.as_slice.ensures.value) ∙ sym c.place_of.ensures ∙ c.in-Some.is) in
    ap Some c.remove.ensures.value ∙ sym (is.found c.remove.result)

pub returns-in-Some-clause-after : goal.returns-in-Some-clause-after
returns-in-Some-clause-after g c =
    let is = at_place c.args.slot c.args.flights.now.items c.in-Some.at
    (ap (position (At c.args.slot)) (sym c.as_slice.ensures.value) ∙ sym c.place_of.ensures ∙ c.in-Some.is) in
    c.remove.ensures.items ∙ is.removed

pub returns-in-None-clause-value : goal.returns-in-None-clause-value
returns-in-None-clause-value g c =
    sym (at_none c.args.slot c.args.flights.now.items
    (ap (position (At c.args.slot)) (sym c.as_slice.ensures.value) ∙ sym c.place_of.ensures ∙ c.in-None.is)).found

pub returns-in-None-clause-after : goal.returns-in-None-clause-after
returns-in-None-clause-after g c =
    (at_none c.args.slot c.args.flights.now.items
    (ap (position (At c.args.slot)) (sym c.as_slice.ensures.value) ∙ sym c.place_of.ensures ∙ c.in-None.is)).removed
