use Rattle.sc_words.proofs.IdealProofs.Tables.{joined_by_number, joined_in_any_order}
use Rattle.sc_words.proofs.ideal.tables_join_by_number.Goals as goal

pub returns : goal.returns
returns c = record { by_number = joined_by_number; any_order = joined_in_any_order }
