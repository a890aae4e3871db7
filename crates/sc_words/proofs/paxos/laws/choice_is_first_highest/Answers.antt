use Rattle.sc_words.proofs.PaxosProofs.ChoiceLemmas.{choice_is, no_choice}
use Rattle.sc_words.proofs.paxos.laws.choice_is_first_highest.Goals as goal

pub returns-clause-some : goal.returns-clause-some
returns-clause-some g c slot reports best e = choice_is slot reports best e

pub returns-clause-none : goal.returns-clause-none
returns-clause-none g c slot reports e = no_choice slot reports e
