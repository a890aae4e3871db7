use Rattle.sc_base.proofs.DrawingLemmas.{apart}
use Rattle.sc_base.proofs.names.draws_are_apart.Goals as goal

pub returns : goal.returns
returns c = apart
