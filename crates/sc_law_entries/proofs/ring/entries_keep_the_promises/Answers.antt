use Rattle.sc_law_entries.proofs.RingProofs.SoundWorlds.{entries_keep_the_promises}
use Rattle.sc_law_entries.proofs.ring.entries_keep_the_promises.Goals as goal

pub returns : goal.returns
returns c = entries_keep_the_promises
