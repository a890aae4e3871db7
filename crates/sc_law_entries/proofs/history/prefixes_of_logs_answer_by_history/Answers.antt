use Rattle.sc_law_entries.proofs.HistoryProofs.HistoryPrefixes.{prefixes_answer, logs_make_states}
use Rattle.sc_law_entries.proofs.history.prefixes_of_logs_answer_by_history.Goals as goal

pub returns : goal.returns
returns c = record { states = logs_make_states; prefixes = prefixes_answer }
