use Rattle.sc_live_healed.proofs.AnsweredStores.{healed_stores_answer}
use Rattle.sc_live_healed.proofs.healed_stores_answer.Goals as goal

pub returns : goal.returns
returns c = healed_stores_answer
