use Rattle.std.proofs.Common.{rules, ◌≡◌, [], ◌∷◌, ◌++◌, length, refl, sym, ◌∙◌, subst}
use Rattle.std.proofs.lemmas.List.{map-id}
use Rattle.std.proofs.lemmas.Iterator.Adapters.{YieldsList-from_vec}
use Rattle.std.proofs.lemmas.Iterator.Consumers.{YieldsList-so_far, YieldsList-turn, YieldsList-end}
use Rattle.sc_thread_drive.specs.ExchangeStarts.{Seated}
use Rattle.sc_thread_drive.proofs.SeatsAtStart.{Begun, not_given, begun_more, at_birth}
use Rattle.sc_thread_drive.proofs.start.open.Goals as goal

pub seat_one-requires-clause-fresh : goal.seat_one-requires-clause-fresh
seat_one-requires-clause-fresh g c κs within =
    let all = YieldsList-from_vec c.args.seats.items c.into_iter-seat-iterator.ensures.into_iter_gives.0 (c.into_iter-seat-iterator.ensures.into_iter_gives.1 ∙ c.args.seats.ok.0) in
    let turn = YieldsList-turn all c.loop-seat.yielded c.loop-seat.seat-iterator c.loop-seat.yielded_by c.next.result c.next.new.self c.in-Some.seat c.in-Some.is c.next.ensures.steps in
    let so_far = YieldsList-so_far all c.loop-seat.yielded c.loop-seat.seat-iterator c.loop-seat.yielded_by in
    not_given c.args.actors c.args.limit c.args.seats.items c.loop-seat.yielded c.loop-seat.net c.loop-seat.shells.items c.loop-seat.invariant (length c.loop-seat.yielded) (sym (map-id c.loop-seat.yielded) ∙ so_far) c.in-Some.seat turn.0 turn.1 c.requires.far

pub loop-seat-preserved : goal.loop-seat-preserved
loop-seat-preserved g c =
    let seated : Seated c.loop-seat.net c.seat_one.new.net c.in-Some.seat c.in_ok-shell.shell = search rules in
    let items : c.push.new.self.items ≡ c.loop-seat.shells.items ++ c.in_ok-shell.shell ∷ [] = search rules in
    let more = begun_more c.args.actors c.args.limit c.loop-seat.yielded c.loop-seat.net c.seat_one.new.net c.loop-seat.shells.items c.in-Some.seat c.in_ok-shell.shell c.loop-seat.invariant seated in
    subst (λ l. Begun c.args.actors c.args.limit (c.loop-seat.yielded ++ c.in-Some.seat ∷ []) c.seat_one.new.net l) (sym items) more

pub returns-clause-opened : goal.returns-clause-opened
returns-clause-opened g c =
    let all = YieldsList-from_vec c.args.seats.items c.into_iter-seat-iterator.ensures.into_iter_gives.0 (c.into_iter-seat-iterator.ensures.into_iter_gives.1 ∙ c.args.seats.ok.0) in
    let end = YieldsList-end all c.loop-seat.yielded c.loop-seat.seat-iterator c.loop-seat.yielded_by c.next.result c.next.new.self c.in-None.is c.next.ensures.steps in
    record {
      birth = at_birth c.args.actors c.args.limit c.args.seats.items c.loop-seat.net c.loop-seat.shells.items (subst (λ l. Begun c.args.actors c.args.limit l c.loop-seat.net c.loop-seat.shells.items) (sym (map-id c.loop-seat.yielded) ∙ end.0) c.loop-seat.invariant) c.requires.far c.requires.numbered;
      none_skipped = refl;
      settled = refl;
      none_started = search rules;
    }
