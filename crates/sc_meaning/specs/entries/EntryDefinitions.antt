-- Re-exports of the definitions of this crate that others cite.
pub use Rattle.sc_meaning.specs.entries.Births.{birth_of, division_of, division_in, division_by}
pub use Rattle.sc_meaning.specs.entries.Decisions.{concluded, begun_split, decision, named_watcher, amended, is_of, transaction_in, with_outcome, with_watcher, transactions_after, begun_transaction}
pub use Rattle.sc_meaning.specs.entries.Effective.{effective, effective_by, is_open, serves, after_outcome, is_commit}
pub use Rattle.sc_meaning.specs.entries.Laws.{BirthsAreChildren}
pub use Rattle.sc_meaning.specs.entries.Parts.{IsPlaced, HoldsItsPart, ServesItsCut}
pub use Rattle.sc_meaning.specs.entries.Rings.{Covers, arc_in, both_arcs, is_cut_of, recut, ring_decided, ring_merged, ring_moved, ring_divided, parts_of, first_cut, ring_after, decided_by, HaveArcs}
pub use Rattle.sc_meaning.specs.entries.Worlds.{StoreWorld, named_group, is_named, after_command, world_of, first_world, with_result, groups_after, with_group, recorded, world_after, CoverThroughout}
