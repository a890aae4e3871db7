use Rattle.sc_words.proofs.IdealProofs.Example.{example_is_legal}
use Rattle.sc_words.proofs.ideal.an_example_is_legal.Goals as goal

pub returns : goal.returns
returns c = example_is_legal
