-- The lemmas of this part of the crate that others cite, under one name.
pub use Rattle.sc_law_groups.proofs.WholeProofs.Apart.{IsNew, IsOldOrNew}
pub use Rattle.sc_law_groups.proofs.WholeProofs.Asking.{BeginsShared, hears_merges, none_split, splits_fit}
pub use Rattle.sc_law_groups.proofs.WholeProofs.FreshChildren.{fresh_children, listed}
pub use Rattle.sc_law_groups.proofs.WholeProofs.Coming.{IsDull, comes}
pub use Rattle.sc_law_walks.proofs.WalkLemmas.{EndsIt, voting_group}
pub use Rattle.sc_law_groups.proofs.WholeProofs.Distinct.{parties_are_apart, dull_same}
pub use Rattle.sc_law_groups.proofs.WholeProofs.Fitting.{merges_fit, no_vote}
pub use Rattle.sc_law_groups.proofs.WholeProofs.WholePrefixes.{goes_on_from}
pub use Rattle.sc_law_groups.proofs.WholeProofs.Granting.{speaks}
pub use Rattle.sc_law_groups.proofs.WholeProofs.Growing.{grown}
pub use Rattle.sc_law_groups.proofs.WholeProofs.LawfulJournals.{StepsKeep, holds}
pub use Rattle.sc_law_groups.proofs.WholeProofs.Members.{members_stay_rosters}
pub use Rattle.sc_law_groups.proofs.WholeProofs.Scheduled.{orders_allowed}
pub use Rattle.sc_law_groups.proofs.WholeProofs.Seats.{all_apart, formed_apart}
pub use Rattle.sc_law_groups.proofs.WholeProofs.LawfulSoundness.{lawful_journals_decide_in_turn, fewer_orders}
pub use Rattle.sc_law_groups.proofs.WholeProofs.Speaking.{stands_heard, stands_offer, stands_watch}
pub use Rattle.sc_law_groups.proofs.WholeProofs.Starts.{bases_from, first_and_others}
pub use Rattle.sc_law_groups.proofs.WholeProofs.StoryWalks.{StoryParts, stories_hold}
pub use Rattle.sc_law_groups.proofs.WholeProofs.JournalsInTurn.{newborn_is_new, Holds}
pub use Rattle.sc_law_groups.proofs.WholeProofs.LineGroups.{of_up_to, in_up_to, group_place, right_in}
pub use Rattle.sc_law_groups.proofs.WholeProofs.WholeLaws.{lawful_journals_are_sound, valid_journals_are_sound, valid_entries_are_logs, well_formed_journals_are_sound}
pub use Rattle.sc_law_groups.proofs.WholeProofs.StartLaws.{valid_scenarios_begin_well}
pub use Rattle.sc_law_groups.proofs.WholeProofs.StartValid.{bounded_is_formed}
