use Rattle.sc_words.proofs.IdealProofs.Apart.{apart}
use Rattle.sc_words.proofs.IdealProofs.Joins.{parts_join}
use Rattle.sc_words.proofs.ideal.parts_are_apart.Goals as goal

pub returns : goal.returns
returns c = record { apart = apart; join = parts_join }
