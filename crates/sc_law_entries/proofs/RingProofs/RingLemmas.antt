-- The lemmas of this part of the crate that others cite, under one name.
pub use Rattle.sc_law_entries.proofs.RingProofs.View.{IsOnRing, Ring, Holds}
pub use Rattle.sc_law_entries.proofs.RingProofs.Arcs.{end_right, right_is}
pub use Rattle.sc_law_entries.proofs.RingProofs.Cover.{from_at, at-same, at-other}
pub use Rattle.sc_law_entries.proofs.RingProofs.Links.{IsPair, pair_meets, not_back}
pub use Rattle.sc_law_entries.proofs.RingProofs.Notes.{any_keeps, any_new}
pub use Rattle.sc_law_entries.proofs.RingProofs.EntryKinds.{unheard}
pub use Rattle.sc_law_entries.proofs.RingProofs.Ends.{own_story, same_lock, group_none}
pub use Rattle.sc_law_entries.proofs.RingProofs.Effects.{decisions, eff, arc_of, Old, succ_of, view_of, outcome_of, living, eff_by, eff_free, living_is, Decisions, settle_by, living_by}
pub use Rattle.sc_law_entries.proofs.RingProofs.RequestsAndOrders.{serving, Kept, lock_free, watch_settled}
pub use Rattle.sc_law_entries.proofs.RingProofs.Finds.{some_none, Pairwise, map_among, pairwise_from, pairwise_filter, all_pairs}
pub use Rattle.sc_law_entries.proofs.RingProofs.CutLookups.{arcs_in, arc_of_cut}
pub use Rattle.sc_law_entries.proofs.RingProofs.GroupsInLists.{groups_in, with_child, groups_are, brief, story_brief, decision_is}
pub use Rattle.sc_law_entries.proofs.RingProofs.Insides.{InsideOf, inside_part, no_shared, outside_next, room_of}
pub use Rattle.sc_law_entries.proofs.RingProofs.CommittedViews.{apart_of, mine_old, own_is, part_eff, IsDeciding, promise_settled}
pub use Rattle.sc_law_entries.proofs.RingProofs.Reshapes.{Ends, part_is}
pub use Rattle.sc_law_entries.proofs.RingProofs.Moves.{cut_is, part_room, less_room}
pub use Rattle.sc_law_entries.proofs.RingProofs.Decisions.{mine_open}
pub use Rattle.sc_law_entries.proofs.RingProofs.Worlds.{KeptWorld, kept_after, fits, kept_on}
pub use Rattle.sc_law_entries.proofs.RingProofs.Start.{at_start}
pub use Rattle.sc_law_entries.proofs.RingProofs.SoundWorlds.{store_after, entries_keep_the_promises, allowed_lists_append, sound_world, entries_keep_the_ring, owned}
pub use Rattle.sc_law_entries.proofs.RingProofs.Grows.{allowed_entries_stay_allowed}
