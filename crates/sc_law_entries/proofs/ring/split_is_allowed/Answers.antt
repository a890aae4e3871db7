use Rattle.sc_law_entries.proofs.RingProofs.RingExample.{split_is_allowed}
use Rattle.sc_law_entries.proofs.ring.split_is_allowed.Goals as goal

pub returns : goal.returns
returns c = split_is_allowed
