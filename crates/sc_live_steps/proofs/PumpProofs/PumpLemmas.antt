-- The lemmas of this part of the crate that others cite, under one name.
pub use Rattle.sc_live_steps.proofs.PumpProofs.Pumping.{pumps_leave as pumps_leave_none, none_at, none_from}
