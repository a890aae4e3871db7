-- The lemmas of this part of the crate that others cite, under one name.
pub use Rattle.sc_law_groups.proofs.GroupProofs.EachElement.{each_got, Each-take}
pub use Rattle.sc_law_groups.proofs.GroupProofs.WithoutOne.{Each-without_slot, slot_among, rest_length}
pub use Rattle.sc_law_groups.proofs.GroupProofs.Growth.{IsLearnt, by_own_log, grown_learnt}
pub use Rattle.sc_law_groups.proofs.GroupProofs.Rosters.{ordered_if, free_refusal, applied_roster}
pub use Rattle.sc_law_groups.proofs.GroupProofs.Invariant.{Steps, rule, first, IsFlying, IsTrue, IsReplica, OffersMade, birth, AreSets, next_after, IsState}
pub use Rattle.sc_law_groups.proofs.GroupProofs.Speech.{Speaks, IsSaid, AreSaid, Meets}
pub use Rattle.sc_law_groups.proofs.GroupProofs.Midway.{Fine}
pub use Rattle.sc_law_groups.proofs.GroupProofs.MajorityVotes.{each_voter, each_after, learnt_here}
pub use Rattle.sc_law_groups.proofs.GroupProofs.ChosenEntries.{IsChildOf}
pub use Rattle.sc_law_groups.proofs.GroupProofs.PartsOfNodes.{mailed_kids}
pub use Rattle.sc_law_groups.proofs.GroupProofs.Holding.{held, Holds, IsOther, holds_none}
pub use Rattle.sc_law_groups.proofs.GroupProofs.Names.{IsOneOf, IsNamedAnswer, IsNamedIn}
pub use Rattle.sc_law_groups.proofs.GroupProofs.GroupNodes.{IsNode}
pub use Rattle.sc_law_groups.proofs.GroupProofs.Ticks.{MayTick}
pub use Rattle.sc_law_groups.proofs.GroupProofs.Projected.{steps-push}
pub use Rattle.sc_law_groups.proofs.GroupProofs.FirstRows.{or_now, issue-push, Journal, split_at}
pub use Rattle.sc_law_groups.proofs.GroupProofs.ScheduledOrders.{OrdersOnly, GivesAllowedOrder, told_induction}
pub use Rattle.sc_law_groups.proofs.GroupProofs.Clients.{IsAnswered, IsIssued, EachClient, HaveOneSection}
pub use Rattle.sc_law_groups.proofs.GroupProofs.Families.{h_of, Kept, IsLater, Moved, push, decided_made, entry_offered, Part, IsNodeAt, IsClientAt, Stepped, log_goes_on}
pub use Rattle.sc_law_groups.proofs.GroupProofs.LoggedReplies.{prefix_is}
pub use Rattle.sc_law_groups.proofs.GroupProofs.Replicated.{one_value, is_log, longest, executed_is}
pub use Rattle.sc_law_groups.proofs.GroupProofs.ScenarioBirths.{first_of, at_start}
pub use Rattle.sc_law_groups.proofs.GroupProofs.RowSteps.{number_among, among_numbers}
pub use Rattle.sc_law_groups.proofs.GroupProofs.JournalPlayers.{HasPlayers}
pub use Rattle.sc_law_groups.proofs.GroupProofs.JournalRows.{MayGiveOrder, KnowsOffspring, moved}
