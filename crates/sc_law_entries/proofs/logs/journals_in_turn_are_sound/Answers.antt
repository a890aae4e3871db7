use Rattle.sc_law_entries.proofs.LogsProofs.LogLaws.{journals_in_turn_are_sound}
use Rattle.sc_law_entries.proofs.logs.journals_in_turn_are_sound.Goals as goal

pub returns : goal.returns
returns c = journals_in_turn_are_sound
