use Rattle.sc_meaning.proofs.SoundProofs.Example.{example_is_told}
use Rattle.sc_meaning.proofs.sound.a_journal_and_its_history.Goals as goal

pub returns-clause-history : goal.returns-clause-history
returns-clause-history c = example_is_told
