-- The definitions of this crate that others cite, under one name.
pub use Rattle.sc_group_table.specs.machine.Finishes.{can_gain, gained_group, lost_group, moved, welcomed_group, participant_after, watcher_after, party_freed, settled_in, finished, watch_ended, closed, gained_core, lost_core, pred_after, voted_after, gone_group}
pub use Rattle.sc_group_table.specs.machine.Group.{group_of, Group, base_of}
pub use Rattle.sc_group_table.specs.machine.Machine.{applied, done, served_by_note, served, called, ordered_by, split_group}
pub use Rattle.sc_group_table.specs.machine.Orders.{refusal_of, ordered, with_node, without_node, limit_refused, locked_in, migrate_refused, repart_refused, refused_in, refused_free, begin_refused, split_refused, body_refused, join_refused, leave_refused}
pub use Rattle.sc_group_table.specs.machine.Plans.{can_split, may_merge, Plan, can_cut, has_key_of, split_plan, merged_group, merge_plan, closing_group, closing_plan, can_repart, taken, giving_group, taking_group, giving_plan, taking_plan, repart_plan, can_migrate, migrated_group, migrate_plan, frozen_of, can_join, can_merge, merged_route, part_gift, merged_link, merged_succ, succ_with, kept_arc, merged_core, closing_core, enriched, whole_gift}
pub use Rattle.sc_group_table.specs.machine.Splits.{staying, has_named, left_group, child_of, right_members, splits_at_once, left_link, left_members, right_core, right_succ, is_locked_in, right_link, CanSplit, left_core}
pub use Rattle.sc_group_table.specs.machine.Totals.{AreNeighbours, KeepTheTotal, IsJoined, HasItsPart}
pub use Rattle.sc_group_table.specs.machine.Transactions.{released, watch_recorded, asks_watcher, committed, begun_group, aborted, heard_group, granted, participant_answered, vote_recorded, watch_answered, is_coordinating, decided, decided_group, given_up}
pub use Rattle.sc_group_table.specs.machine.Votes.{has_voted, vote_of, watch_vote_of, voted_on, body_no, no_of, offer_no, place_no, size_no, bound_by, past_of, watch_no, watched, offer_voted}
pub use Rattle.sc_group_table.specs.machine.Logs.{state_after, entry_of, entry_by, done_by, effects_of}
pub use Rattle.sc_group_table.specs.machine.Children.{child_by, ordered_child, released_child, answered_child, watched_child}
