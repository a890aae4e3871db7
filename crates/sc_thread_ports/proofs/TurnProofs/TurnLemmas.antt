-- The lemmas of this crate that others cite, under one name.
pub use Rattle.sc_thread_ports.proofs.TurnProofs.ListPrefixes.{starts_trans, starts_more, rows_by_same, rows_by_other, rows_by_none, rows_by-append}
pub use Rattle.sc_thread_ports.proofs.TurnProofs.Leaving.{made_more, one_row_more}
