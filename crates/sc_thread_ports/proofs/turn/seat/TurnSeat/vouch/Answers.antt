use Rattle.std.proofs.Common.{rules, ◌≡◌, ap, ◌∙◌}
use Rattle.sc_thread_ports.proofs.TurnProofs.KeptTurnRule.{notes, tells, reads}
use Rattle.sc_thread_ports.proofs.TurnProofs.Leaving.{true_over}
use Rattle.sc_thread_ports.proofs.turn.seat.TurnSeat.vouch.Goals as goal

pub split_seat-note-requires : goal.split_seat-note-requires
split_seat-note-requires g c = (search rules, search rules, notes g.T.Listed.entries _ _)

pub join_seat-requires : goal.join_seat-requires
join_seat-requires g c = (search rules, search rules, search rules, search rules, tells g.T.Listed.entries _ _ _ _ (ap (λ m. m.0.turn) c.split_seat-note.ensures.4))

pub load-requires : goal.load-requires
load-requires g c = (search rules, search rules, reads g.T.Listed.entries _ _ _)

pub returns-clause-over : goal.returns-clause-over
returns-clause-over g c =
    let received : c.join_seat.new.seat.me.0.received ≡ c.split_seat-note.new.seat.me.0.seen = search rules in
    true_over g.T.Listed.entries _ _ _ c.split_seat-note.new.seat.me.0.seen c.load.ensures.2 (ap (λ m. m.0.live) c.join_seat.ensures.2 ∙ c.args.self.now.numbered.0) received
