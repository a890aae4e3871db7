-- The definitions of this crate that other crates cite, under one name.
pub use Rattle.sc_thread_ports.specs.turn.Turn.{StartsWith, rows_by, view, left_with, with_turn, with_row, longer, IsTrueOf, with_seen, merged_seen, entered_with, IsTrueOver, newcomer, IsTrueLater, Status, unused, carried, settled, put_status, TurnHolder, free, held, turn_word, opener, note, with_given, informed, merged, OwnsNumber, Fits, HasTurn, Kept, acquire_returns, look_returns, read_returns, append_returns, release_returns, with_counted, CanLeave, Looks, ReadsCount, Appends, shorter}
pub use Rattle.sc_thread_ports.specs.turn.Seats.{known, OfOneStart}
