use Rattle.sc_json_fast.proofs.Spelling.{ballot_begins}
use Rattle.sc_json_fast.proofs.names.BallotFromText.take.Goals as goal

pub returns : goal.returns
returns c = ballot_begins _ _ _ _ c.in_ok-round.ensures.a c.in_ok-round.ensures.b c.in_ok-round.ensures.text
