-- The lemmas of this crate that others cite, under one name.
pub use Rattle.sc_words.proofs.IdealProofs.Apart.{get-part, same_contents, apart}
pub use Rattle.sc_words.proofs.IdealProofs.Joins.{parts_join, or_else, get-with_pairs, none_past, sorted_rest, ties}
pub use Rattle.sc_words.proofs.IdealProofs.Kept.{get-kept, insert-kept, remove-kept, retain-kept, entries-kept, entries-part, is_sorted_from, all_end_below, part_ends_below}
pub use Rattle.sc_words.proofs.IdealProofs.Tables.{joined_by_number, get-joined_with}
