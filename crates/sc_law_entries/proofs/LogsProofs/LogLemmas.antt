-- The lemmas of this part of the crate that others cite, under one name.
pub use Rattle.sc_law_entries.proofs.LogsProofs.OneMap.{allowed_entries_make_one_map}
pub use Rattle.sc_law_entries.proofs.LogsProofs.BirthRecords.{find_base}
pub use Rattle.sc_law_entries.proofs.LogsProofs.ChildrenInLogs.{log_append}
pub use Rattle.sc_law_entries.proofs.LogsProofs.Generations.{group_found}
pub use Rattle.sc_law_entries.proofs.LogsProofs.BirthsInLogs.{recorded_append, stays_there, BornBy, born_by}
pub use Rattle.sc_law_entries.proofs.LogsProofs.AllowedOneByOne.{all_allowed}
pub use Rattle.sc_law_entries.proofs.LogsProofs.FactsInTurn.{state_there, JournalFacts, IsBorn}
pub use Rattle.sc_law_entries.proofs.LogsProofs.RowsInTwoParts.{in_turn_parts, rows_go_on}
pub use Rattle.sc_law_entries.proofs.LogsProofs.Findings.{groups_are_found as groups_are_born_under_new_names_found, entries_are_logs as entries_are_allowed_logs_logs, deciding_rows, groups_are_found, groups_are_old_or_new, entries_make_one_map}
pub use Rattle.sc_law_entries.proofs.LogsProofs.Histories.{deciding_rows_stay}
pub use Rattle.sc_law_entries.proofs.LogsProofs.Allowing.{allowed_parts, allows, states_allow, prefixes_allow, allowed_stays_allowed}
pub use Rattle.sc_law_entries.proofs.LogsProofs.Allows.{groups_allow_others}
pub use Rattle.sc_law_entries.proofs.LogsProofs.Times.{among_place}
pub use Rattle.sc_law_entries.proofs.LogsProofs.LogLaws.{journals_in_turn_are_sound}
