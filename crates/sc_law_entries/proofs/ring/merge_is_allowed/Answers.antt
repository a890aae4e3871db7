use Rattle.sc_law_entries.proofs.RingProofs.RingExample.{merge_is_allowed}
use Rattle.sc_law_entries.proofs.ring.merge_is_allowed.Goals as goal

pub returns : goal.returns
returns c = merge_is_allowed
