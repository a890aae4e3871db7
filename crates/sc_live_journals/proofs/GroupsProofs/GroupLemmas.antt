-- The lemmas of this part of the crate that others cite, under one name.
pub use Rattle.sc_live_journals.proofs.GroupsProofs.WellLedBeginnings.{scenarios_begin_led, children_begin_led}
pub use Rattle.sc_live_journals.proofs.GroupsProofs.PlayersAtBirth.{scenarios_well_born as scenarios_are_well_born, scenarios_well_born}
pub use Rattle.sc_live_journals.proofs.GroupsProofs.LeadersAtRest.{quiet_leaders_rest}
pub use Rattle.sc_live_journals.proofs.GroupsProofs.DatedMarks.{dated_in, taken_dated, rows_dated}
pub use Rattle.sc_live_journals.proofs.GroupsProofs.JournalEvents.{events_go_on}
pub use Rattle.sc_live_journals.proofs.GroupsProofs.IdleLeaderRows.{asides_stay, orders_stay, promises_stay}
pub use Rattle.sc_live_journals.proofs.GroupsProofs.ReplicaInvariants.{scenarios_kept_born as scenarios_are_kept_born, replicas_kept as replicas_are_kept, kept_leaders_rest, replicas_kept, scenarios_kept_born, top_plays}
pub use Rattle.sc_live_journals.proofs.GroupsProofs.LeaderEvents.{leaders_keep_led}
pub use Rattle.sc_live_journals.proofs.GroupsProofs.LearningReplicas.{pledged_none}
pub use Rattle.sc_live_journals.proofs.GroupsProofs.NodeMail.{scene}
pub use Rattle.sc_live_journals.proofs.GroupsProofs.IdleEvents.{mails_keep_led, others_keep_led}
pub use Rattle.sc_live_journals.proofs.GroupsProofs.QuietGroups.{quiet_groups_led as quiet_groups_are_led, quiet_groups_led, first_at}
pub use Rattle.sc_live_journals.proofs.GroupsProofs.Rows.{rows_keep_led, marks_all}
pub use Rattle.sc_live_journals.proofs.GroupsProofs.SentStates.{each_among, among_marks}
pub use Rattle.sc_live_journals.proofs.GroupsProofs.SlotNodes.{nodes_born as nodes_are_born_slotted}
pub use Rattle.sc_live_journals.proofs.GroupsProofs.TaughtGroups.{rows_keep_taught, scenarios_begin_taught, children_begin_taught, groups_taught_through as groups_are_taught_through}
pub use Rattle.sc_live_journals.proofs.GroupsProofs.OwnGreatestBallots.{nodes_keep as nodes_keep_tops, nodes_born as nodes_are_born_topped, Plays, replay_well}
