use Rattle.sc_client_table.proofs.LookupProofs.ChoiceLemmas.{chooses_nearest}
use Rattle.sc_client_table.proofs.lookup.laws.choices_are_nearest.Goals as goal

pub returns : goal.returns
returns c = chooses_nearest
