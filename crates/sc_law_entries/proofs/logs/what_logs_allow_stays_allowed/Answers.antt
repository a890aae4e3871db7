use Rattle.sc_law_entries.proofs.LogsProofs.Allowing.{allowed_stays_allowed, prefixes_allow, states_allow}
use Rattle.sc_law_entries.proofs.logs.what_logs_allow_stays_allowed.Goals as goal

pub returns : goal.returns
returns c = record { stays = allowed_stays_allowed; prefixes = prefixes_allow; states = states_allow }
