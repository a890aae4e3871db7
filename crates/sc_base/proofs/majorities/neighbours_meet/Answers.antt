use Rattle.sc_base.proofs.Meeting.{meeting_with}
use Rattle.sc_base.proofs.majorities.neighbours_meet.Goals as goal

pub returns : goal.returns
returns c = meeting_with
