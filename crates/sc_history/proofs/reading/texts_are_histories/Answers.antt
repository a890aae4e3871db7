use Rattle.sc_history.proofs.AcceptedTexts.{texts_fine}
use Rattle.sc_history.proofs.reading.texts_are_histories.Goals as goal

pub returns : goal.returns
returns c = texts_fine
