-- The lemmas of this part of the crate that others cite, under one name.
pub use Rattle.sc_law_entries.proofs.HistoryProofs.EntryMoves.{entries_report}
pub use Rattle.sc_law_entries.proofs.HistoryProofs.EntriesExample.{example_of_entries}
pub use Rattle.sc_law_entries.proofs.HistoryProofs.HistoryPrefixes.{own_first, other_first, logs_make_states, heads, parts_at, prefixes_answer}
pub use Rattle.sc_law_entries.proofs.HistoryProofs.Logs.{ordered_either, applied_same, state_same, called_members}
pub use Rattle.sc_law_entries.proofs.HistoryProofs.Staying.{free_by, free_by_no}
pub use Rattle.sc_law_entries.proofs.HistoryProofs.StoreAdditions.{calls_of}
