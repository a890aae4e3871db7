-- The child of an entry is one of its log's.
pub use Rattle.sc_law_groups.proofs.WholeProofs.JournalsInTurn.{child_in}
