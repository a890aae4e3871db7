use Rattle.sc_base.proofs.Meeting.{meeting}
use Rattle.sc_base.proofs.majorities.majorities_meet.Goals as goal

pub returns : goal.returns
returns c = meeting
