use Rattle.sc_law_entries.proofs.RingProofs.SoundWorlds.{entries_keep_the_ring}
use Rattle.sc_law_entries.proofs.ring.entries_keep_the_ring.Goals as goal

pub returns : goal.returns
returns c = entries_keep_the_ring
