use Rattle.std.proofs.Common.{rules}
use Rattle.sc_thread_ports.proofs.TurnProofs.KeptTurnRule.{reads}
use Rattle.sc_thread_ports.proofs.TurnProofs.Leaving.{counts_one}
use Rattle.sc_thread_ports.proofs.turn.steps.count_row.Goals as goal

pub load-requires : goal.load-requires
load-requires g c = (search rules, search rules, reads g.T.Listed.entries _ _ _)

pub fetch_add-requires : goal.fetch_add-requires
fetch_add-requires g c = let v = c.requires.value in (
  search rules,
  search rules,
  counts_one g.T.Listed.entries _ _ _ _ _ _ v.0 c.load.ensures.2 c.requires.turn.0 c.requires.turn.1 c.requires.turn.2 v.1 v.2 v.3 c.if-load-rows.false c.requires.fits,
)
