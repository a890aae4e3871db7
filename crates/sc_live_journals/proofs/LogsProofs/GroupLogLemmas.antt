-- The lemmas of this part of the crate that others cite, under one name.
pub use Rattle.sc_live_journals.proofs.LogsProofs.ReplicasAlongLogs.{at, IsAlong, is_next, by_log, next_ready_is, one_past, entered_along}
pub use Rattle.sc_live_journals.proofs.LogsProofs.CountedMajorities.{counted_learnt, each_with_slot}
pub use Rattle.sc_live_journals.proofs.LogsProofs.JournalPrefixes.{no_client, one_node, ArePrefixes, part, roster, prefixes, sent_in, said_in, along, opens, flying, whole, prefix, found, stay}
pub use Rattle.sc_live_journals.proofs.LogsProofs.NodesInGroups.{nodes_stay_nodes, slots_have_nodes}
pub use Rattle.sc_live_journals.proofs.LogsProofs.Views.{views_are_replicas}
pub use Rattle.sc_live_journals.proofs.LogsProofs.CombinedLaws.{slots_have_rosters, replicas_are_logged, commands_come_next, states_are_logged, members_are_nodes}
