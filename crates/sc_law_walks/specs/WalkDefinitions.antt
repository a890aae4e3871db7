-- Re-exports of the definitions of this crate that others cite.
pub use Rattle.sc_law_walks.specs.ReplicaSteps.{GoesOn, IfThere}
pub use Rattle.sc_law_walks.specs.Waiting.{IsKept, IsFiled, IsFiledOnMail, IsAsked, IsOrder}
