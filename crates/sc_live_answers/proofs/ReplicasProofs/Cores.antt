-- Calls leave the core of a group as it is, and what an order or a choice leaves is one of two.
pub use Rattle.sc_live_steps.proofs.FollowingProofs.StoppingLeaders.{called_core}
