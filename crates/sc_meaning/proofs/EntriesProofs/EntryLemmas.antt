-- The lemmas of this crate that others cite, under one name.
pub use Rattle.sc_meaning.proofs.EntriesProofs.Children.{births_are_children}
pub use Rattle.sc_meaning.proofs.EntriesProofs.Names.{draw_cases, found_name, names_differ, other_name}
pub use Rattle.sc_meaning.proofs.EntriesProofs.Pushes.{world_append}
pub use Rattle.sc_meaning.proofs.EntriesProofs.Worked.{draw, born, entry, cut}
pub use Rattle.sc_meaning.proofs.EntriesProofs.Nothing.{part_of_nothing}
pub use Rattle.sc_meaning.proofs.EntriesProofs.WorkedCovers.{one_of}
