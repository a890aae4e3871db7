-- Re-exports of the definitions of this part of the crate that others cite.
pub use Rattle.sc_law_refusal.specs.patience.Patience.{StandsAt, StandsIn, WasGivenUp, GivesUpInTime}
