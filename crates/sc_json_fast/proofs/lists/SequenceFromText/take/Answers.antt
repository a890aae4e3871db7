use Rattle.sc_json_fast.proofs.ListTexts.{none_begin}
use Rattle.sc_json_fast.proofs.lists.SequenceFromText.take.Goals as goal

pub returns-in-Some : goal.returns-in-Some
returns-in-Some g c = rw c.new.ensures (none_begin g.T.FromText.json_of g.T.FromText.Fits _ _ c.in-Some.ensures)
