-- A pump leaves the log of its replica.
use Rattle.std.proofs.Common.{◌≡◌, ℕ, List, refl, ap}
use Rattle.sc_node_table.specs.Values.{Command}
use Rattle.sc_words.specs.paxos.PaxosDefinitions.{LogState, next_of}
use Rattle.sc_node_table.specs.NodeDefinitions.{offered, pumped, Place, next}
use Rattle.sc_law_walks.proofs.WalkLemmas.{pumped_freely}

-- the log of a place
abbrev log_of : Place → LogState Command
log_of place = place.0.log

offered_same : (log : LogState Command) (slot : ℕ) (set : List ℕ) (command : Command) (place : Place) → log_of place ≡ log → log_of (offered slot set command place) ≡ log
unfolding offered
offered_same log slot set command place e = e

-- so the next slot stays
pub pump_next : (place : Place) → next (pumped place).0 ≡ next place.0
pump_next place = ap next_of (pumped_freely (λ (p : Place). log_of p ≡ log_of place) (λ r mails more acts backlog e. e) (offered_same (log_of place)) place refl)
