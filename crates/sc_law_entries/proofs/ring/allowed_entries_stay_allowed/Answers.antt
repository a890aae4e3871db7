use Rattle.sc_law_entries.proofs.RingProofs.Grows.{allowed_entries_stay_allowed}
use Rattle.sc_law_entries.proofs.ring.allowed_entries_stay_allowed.Goals as goal

pub returns : goal.returns
returns c = allowed_entries_stay_allowed
