-- Re-exports of the definitions of this part of the crate that others cite.
pub use Rattle.sc_law_entries.specs.ring.Allowed.{StoryWorld, first_recorded, recorded_after, Sources, IsVoteCast, IsAllowed, AreAllowed, recorded_stories, recorded_next, IsWatchVoteCast, IsShared}
pub use Rattle.sc_law_entries.specs.ring.Invariant.{Groups, IsCoordinating, Facts, LockOk, IsPromised, has_born, has_decided, IsOwnBody, IsFrozen, IsAgreed, IsEarned, Origin, GroupOk, IsVoter, IsWatcher, StoryOk}
pub use Rattle.sc_law_entries.specs.ring.Stories.{Story, Stories, put, with_story, unsigned, offer_for, new_story, vote_by, with_vote, with_watch_vote, with_decision, with_asked, stories_after, vote_in, watch_vote_in, with_answer, offer_with, watch_with, unsigned_watch, watch_for, merge_watch, no_stories}
pub use Rattle.sc_law_entries.specs.ring.RingLaws.{BeginInPlace, stories_of, BeginsInPlace, IsRingSound, draw_of, AllowedEntriesStayAllowed, EntriesKeepTheRing, EntriesKeepThePromises, DrawsAreOfOneLog, AllowedListsAppend, StandsBetween}
pub use Rattle.sc_law_entries.specs.ring.RingExample.{drawn, example_entry, ring_cut_of, sources, merge_put, watcher_put, merge_get, group_one, group_two, group_three, merge_bases, two_called, two_frozen, merge_offer, merge_watch_asked, merge_outcome, merge_entries, split_left, split_right, split_bases, split_entries, MergeIsAllowed, SplitIsAllowed}
