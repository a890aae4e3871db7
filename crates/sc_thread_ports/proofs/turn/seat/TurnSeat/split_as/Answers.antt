use Rattle.std.proofs.Common.{rules, ◌≢◌, ℕ, sym, subst, ap, Contains}
use Rattle.sc_thread_ports.proofs.TurnProofs.KeptTurnRule.{splits, reads}
use Rattle.sc_thread_ports.proofs.TurnProofs.Leaving.{true_later}
use Rattle.sc_thread_ports.proofs.turn.seat.TurnSeat.split_as.Goals as goal

pub split_seat-place-requires : goal.split_seat-place-requires
split_seat-place-requires g c = let p = sym c.requires.picked in (
  search rules,
  search rules,
  splits g.T.Listed.entries _ _ _ c.args.self.now.numbered.0 c.requires.start.0 (subst (λ (n : ℕ). n ≢ 0) p c.requires.number) (subst (λ (n : ℕ). ¬ Contains c.args.self.now.place.me.0.given n) p c.requires.fresh),
)

pub load-requires : goal.load-requires
load-requires g c = (search rules, search rules, reads g.T.Listed.entries _ _ _)

pub returns-clause-facts : goal.returns-clause-facts
returns-clause-facts g c = true_later g.T.Listed.entries _ _ _ c.load.ensures.2 (ap (λ m. m.0.live) c.split_seat-place.ensures.4)
