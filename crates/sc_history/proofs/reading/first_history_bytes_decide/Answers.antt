use Rattle.sc_history.proofs.ShortTexts.{first_bytes}
use Rattle.sc_history.proofs.reading.first_history_bytes_decide.Goals as goal

pub returns : goal.returns
returns c = first_bytes
