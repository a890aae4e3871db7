use Rattle.std.proofs.Common.{rules, ap, ◌∙◌}
use Rattle.sc_thread_ports.proofs.TurnProofs.Leaving.{true_later, others_later}
use Rattle.sc_thread_ports.proofs.TurnProofs.KeptTurnRule.{merges, reads}
use Rattle.sc_thread_ports.proofs.turn.seat.TurnSeat.join.Goals as goal

pub join_seat-requires : goal.join_seat-requires
join_seat-requires g c = (search rules, search rules, search rules, search rules, merges g.T.Listed.entries _ _ _ _ c.args.self.now.numbered.0 c.requires.start c.args.other.numbered.0 c.requires.turn.1 c.requires.turn.0)

pub load-requires : goal.load-requires
load-requires g c = (search rules, search rules, reads g.T.Listed.entries _ _ _)

pub returns-clause-facts : goal.returns-clause-facts
returns-clause-facts g c = true_later g.T.Listed.entries _ _ _ c.load.ensures.2 (ap (λ m. m.0.live) c.join_seat.ensures.2 ∙ c.args.self.now.numbered.0)

pub returns-clause-others : goal.returns-clause-others
returns-clause-others g c = others_later c.load.new.seat.me.0 (search rules) (true_later g.T.Listed.entries _ _ _ c.load.ensures.2 (ap (λ m. m.0.live) c.join_seat.ensures.2 ∙ c.args.self.now.numbered.0))
