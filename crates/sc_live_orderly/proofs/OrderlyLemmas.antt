-- The lemmas of this crate that others cite, under one name.
pub use Rattle.sc_live_orderly.proofs.MailAndRowCounts.{Each-behind, mails_are_owed, goes_are_few, rows_are, rows_of_all, goes_in_time}
pub use Rattle.sc_live_orderly.proofs.RowsInTime.{in_time_before, last_in_time, in_time_tidy, by_time}
pub use Rattle.sc_live_orderly.proofs.RowsOfSchedules.{orderly, by_rows, Each-append}
pub use Rattle.sc_live_orderly.proofs.PassedLines.{IsManyLine, WasQuiet, was_quiet}
pub use Rattle.sc_live_orderly.proofs.PotentialBounds.{IsPaid, pays, count_push, delivered}
pub use Rattle.sc_live_orderly.proofs.RemainingMail.{empty_by, TakesFirst, takes_first, is_born-from, rest-row, tidy, tidy-calm, quiet-empty, rest-calm, after-row, may-born}
pub use Rattle.sc_live_orderly.proofs.MailCopies.{filter_sum, less_at}
pub use Rattle.sc_live_orderly.proofs.SeatSums.{seat_found, one_changes}
pub use Rattle.sc_live_orderly.proofs.QuietLineEnds.{never_cut_by}
pub use Rattle.sc_live_orderly.proofs.SpacedLines.{rows_in_time, deliveries_and_orders, ends_quiet}
pub use Rattle.sc_live_orderly.proofs.SettledInTime.{settled_in_time}
pub use Rattle.sc_live_orderly.proofs.UncutPrefixes.{uncut_before}
pub use Rattle.sc_live_orderly.proofs.LastLineQuiet.{ends_quiet_at_last}
pub use Rattle.sc_live_orderly.proofs.StartedActors.{started_when_whole, was_quiet_started}
pub use Rattle.sc_live_orderly.proofs.WholeJournals.{holds_when_whole}
pub use Rattle.sc_live_orderly.proofs.PlainRowsInTime.{plain_in_time}
