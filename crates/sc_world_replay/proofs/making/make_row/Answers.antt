use Rattle.std.proofs.Common.{◌≡◌, ◌<◌, length, true, ◌||◌, Some, sym, ◌∙◌, ap, subst, refl}
use Rattle.std.specs.Prelude.{slice_get}
use Rattle.std.proofs.lemmas.Bool.{false≢true}
use Rattle.std.proofs.lemmas.Option.{get_or_from_slice_get, same_Some, slice_get_read}
use Rattle.sc_actor.specs.Replay.{acted, input_of}
use Rattle.sc_actor.specs.System.{numbers_of}
use Rattle.sc_world_replay.specs.Actions.{is_number}
use Rattle.sc_world_replay.specs.Stages.{place_of}
use Rattle.sc_world_replay.proofs.Seats.{has_place, numbers_of-set, place_number}
use Rattle.sc_world_replay.proofs.making.make_row.Goals as goal

pub unreachable-requires : goal.unreachable-requires
unreachable-requires g c =
    let actor : is_number (numbers_of c.args.seats.now.items) c.args.action.who ≡ true = subst (λ b. (b || is_number (numbers_of c.args.seats.now.items) c.args.action.who) ≡ true) (sym c.if-is_of_network.ensures) c.requires in
    let there = has_place c.args.seats.now.items c.args.action.who actor in
    c.in_default.not-Some there.0 (c.place_of.ensures.place ∙ ap (λ xs. place_of xs c.args.action.who) c.deref.ensures.value ∙ there.1)

pub returns-clause-makes : goal.returns-clause-makes
returns-clause-makes g c =
    record {
      by_network = λ own. absurd (false≢true (c.if-is_of_network.ensures ∙ own));
      by_actor = λ own place seat placed is.
          let here : place ≡ c.in-Some.place = same_Some place c.in-Some.place (sym placed ∙ ap (λ xs. place_of xs c.args.action.who) (sym c.deref.ensures.value) ∙ sym c.in-Some.ensures.place) in
          let at : c.index_mut.result.now ≡ seat = c.index_mut.ensures.value ∙ get_or_from_slice_get c.args.seats.now.items c.in-Some.place seat c.index_mut.result.now (subst (λ i. slice_get c.args.seats.now.items i ≡ Some seat) here is) in
          let did : acted g.A.Actor.table seat.actor (input_of c.args.mails.now c.args.action.event) ≡ (c.respond.new.actor, c.in_ok-sent.sent) = rw (sym at) c.in_ok-sent.ensures.acted in
          let number : c.index_mut.result.now.who ≡ seat.who = ap (λ s. s.who) at in
          let own_number : seat.who ≡ c.args.action.who = place_number c.args.seats.now.items c.args.action.who place seat placed is in
          let actor : (acted g.A.Actor.table seat.actor (input_of c.args.mails.now c.args.action.event)).0 ≡ c.respond.new.actor = ap (λ p. p.0) did in
          let sent : (acted g.A.Actor.table seat.actor (input_of c.args.mails.now c.args.action.event)).1 ≡ c.in_ok-sent.sent = ap (λ p. p.1) did in
          (rw (sent, own_number) refl, rw (actor, number, here) refl);
    }

pub returns-clause-numbers : goal.returns-clause-numbers
returns-clause-numbers g c =
    let seats = c.args.seats.now.items in
    let within : c.in-Some.place < length seats = subst (λ xs. c.in-Some.place < length xs) c.deref.ensures.value c.in-Some.ensures.bound in
    numbers_of-set seats c.in-Some.place c.index_mut.result.now _ (slice_get_read seats (length seats) c.in-Some.place c.index_mut.result.now refl within c.index_mut.ensures.value) refl
