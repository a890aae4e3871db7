use Rattle.sc_law_entries.proofs.HistoryProofs.PlanHoldings.{plans_move}
use Rattle.sc_law_entries.proofs.history.plans_are_moves.Goals as goal

pub returns : goal.returns
returns c = plans_move
