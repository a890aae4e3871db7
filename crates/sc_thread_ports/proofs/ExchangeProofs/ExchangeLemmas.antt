-- The lemmas of this crate that others cite, under one name.
pub use Rattle.sc_thread_ports.proofs.ExchangeProofs.Done.{rows_of-append, quiet}
pub use Rattle.sc_thread_ports.proofs.ExchangeProofs.Knowing.{own_length, looked_trans, stays_trans}
pub use Rattle.sc_thread_ports.proofs.ExchangeProofs.Addressing.{crashed_own, first_stays, all_addressed-append, crashed_waits}
