use Rattle.sc_law_entries.proofs.NamesProofs.DrawingExample.{begins as it_begins, is_lawful, first_owned, second_owned, third_free}
use Rattle.sc_law_entries.proofs.names.a_journal_that_draws.Goals as goal

pub returns : goal.returns
returns c = record { begins = it_begins; lawful = is_lawful; first = first_owned; second = second_owned; third = third_free }
