-- The definitions of this crate that others cite, under one name.
pub use Rattle.sc_paxos.specs.OneEach.{IsOneEach}
pub use Rattle.sc_paxos.specs.Roomy.{Roomy}
