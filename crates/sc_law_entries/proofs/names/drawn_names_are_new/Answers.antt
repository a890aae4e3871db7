use Rattle.sc_law_entries.proofs.NamesProofs.Fresh.{names_are_drawn, drawn_are_new}
use Rattle.sc_law_entries.proofs.names.drawn_names_are_new.Goals as goal

pub returns : goal.returns
returns c = record { drawn = names_are_drawn; new = drawn_are_new }
