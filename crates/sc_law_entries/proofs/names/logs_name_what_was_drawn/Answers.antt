use Rattle.sc_law_entries.proofs.NamesProofs.Naming.{allowed_are_drawn, logged_are_drawn, more_owners_allow}
use Rattle.sc_law_entries.proofs.names.logs_name_what_was_drawn.Goals as goal

pub returns : goal.returns
returns c = record { allowed = allowed_are_drawn; logged = logged_are_drawn; more = more_owners_allow }
