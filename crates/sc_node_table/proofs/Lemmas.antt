-- The lemmas of this crate that others cite, under one name.
pub use Rattle.sc_node_table.proofs.SamenessLemmas.{decides_commands}
pub use Rattle.sc_node_table.proofs.Readiness.{one-shorter, turn-next, turn-shorter, executed_ready-none}
