use Rattle.std.proofs.Common.{rules, ap, ◌∙◌}
use Rattle.sc_thread_ports.proofs.TurnProofs.KeptTurnRule.{acquires}
use Rattle.sc_thread_ports.proofs.turn.steps.acquire.Goals as goal

pub compare_exchange-requires : goal.compare_exchange-requires
compare_exchange-requires g c = (
  search rules,
  search rules,
  acquires g.T.Listed.entries _ _ _ (ap (λ m. m.1) c.loop.invariant.2 ∙ c.requires.out.0) (ap (λ m. m.0.turn) c.loop.invariant.2 ∙ c.requires.out.1),
)
