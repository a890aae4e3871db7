use Rattle.std.proofs.Common.{◌∙◌, sym, ap, position, set}
use Rattle.sc_words.specs.declared.paxos.flights.Flight.{Flight}
use Rattle.sc_paxos.proofs.Places.{At, changed, at_place, at_none}
use Rattle.sc_paxos.proofs.flights.set_voters.Goals as goal

pub returns-in-Some : goal.returns-in-Some
returns-in-Some g c =
    let is = at_place c.args.slot c.args.flights.now.items c.in-Some.at
    (ap (position (At c.args.slot)) (sym c.as_slice.ensures.value) ∙ sym c.place_of.ensures ∙ c.in-Some.is) in
    ap (λ (flight : Flight g.row.V.Denot). set c.args.flights.now.items c.in-Some.at (changed flight c.args.voters)) c.index_mut.ensures.value
    ∙ is.written c.args.voters c.index_mut.result.now

pub returns-in_default : goal.returns-in_default
returns-in_default g c =
    (at_none c.args.slot c.args.flights.now.items
    (ap (position (At c.args.slot)) (sym c.as_slice.ensures.value) ∙ sym c.place_of.ensures ∙ c.in_default.is)).written c.args.voters
