use Rattle.sc_law_entries.proofs.RingProofs.SoundWorlds.{draws_are_of_one_log}
use Rattle.sc_law_entries.proofs.ring.draws_are_of_one_log.Goals as goal

pub returns : goal.returns
returns c = draws_are_of_one_log
