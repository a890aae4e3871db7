-- The definitions of this crate that other crates cite, under one name.
pub use Rattle.sc_thread_ports.specs.exchange.BareRows.{rows_of, bare_rows, rows_from, row_by}
pub use Rattle.sc_thread_ports.specs.exchange.Addressed.{is_mail_to, is_addressed, all_addressed}
pub use Rattle.sc_thread_ports.specs.exchange.Answers.{IsLook, IsFetch, fetched_number, number_in, IsFirstTo, IsGlance}
pub use Rattle.sc_thread_ports.specs.exchange.Fetches.{WasPending, HasFetched, delivered}
pub use Rattle.sc_thread_ports.specs.exchange.Turns.{change, may_change, Turned, RowTurned, Changed, SeatLooked, SeatTurned}
pub use Rattle.sc_thread_ports.specs.exchange.Ports.{seen, made, Stays, Looked, Appended, IsTrue, given, joined_ports, SameExchange, ChangedBy, MayNotChange, MayPost, IsAddressed}
