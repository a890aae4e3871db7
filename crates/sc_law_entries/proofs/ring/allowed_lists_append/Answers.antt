use Rattle.sc_law_entries.proofs.RingProofs.SoundWorlds.{allowed_lists_append}
use Rattle.sc_law_entries.proofs.ring.allowed_lists_append.Goals as goal

pub returns : goal.returns
returns c = allowed_lists_append
