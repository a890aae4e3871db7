-- The lemmas of this part of the crate that others cite, under one name.
pub use Rattle.sc_live_journals.proofs.RowsProofs.NonPaxosMail.{asides_still as asides_stay_still, asides_still}
pub use Rattle.sc_live_journals.proofs.RowsProofs.ScenarioGroups.{view_born, none_some, born_facts, born_leads, own_replica, next_born, promise_born}
pub use Rattle.sc_live_journals.proofs.RowsProofs.Elections.{elections_keep as elections_keep_following, entered_name, elections_keep, entered_me}
pub use Rattle.sc_live_journals.proofs.RowsProofs.EvenGroups.{quiet_rests as quiet_groups_rest, quiet_rests}
pub use Rattle.sc_live_journals.proofs.RowsProofs.MailWithoutMarks.{names_stay, others_hear_nothing, none_marked}
pub use Rattle.sc_live_journals.proofs.RowsProofs.FollowingRows.{rows_keep as rows_keep_following, same_some, rows_keep}
pub use Rattle.sc_live_journals.proofs.RowsProofs.LeadersInGroups.{steps_lead}
pub use Rattle.sc_live_journals.proofs.RowsProofs.LearntEntries.{learnt_entries_executed as learnt_entries_are_executed}
pub use Rattle.sc_live_journals.proofs.RowsProofs.GroupNamesInRows.{mailed_keeps, order_keeps, made_keeps}
pub use Rattle.sc_live_journals.proofs.RowsProofs.RowMarks.{rows_are as rows_are_of_groups, rows_are, at_zero}
pub use Rattle.sc_live_journals.proofs.RowsProofs.OwnBallots.{ballots_own as ballots_are_own, births_alone as births_play_alone, ballots_own, births_alone}
pub use Rattle.sc_live_journals.proofs.RowsProofs.MailRows.{fit, goes_on, known, told_is, all_fit, no_lead, apart_off, row_in, head, within, aside_mark, leads_here, named, row_to, taken, idle_apart, waits_here}
pub use Rattle.sc_live_journals.proofs.RowsProofs.SilentMail.{AreQuiet, wide_mark}
pub use Rattle.sc_live_journals.proofs.RowsProofs.UnmovedLeaders.{leads_stay}
pub use Rattle.sc_live_journals.proofs.RowsProofs.ReplicaSteps.{steps_take, states_take, uncounted_pass, steps_elect, still_idle as still_rows_are_idle, still_idle}
pub use Rattle.sc_live_journals.proofs.RowsProofs.PlayerRows.{others_idle as others_rows_are_idle, rows_replicas as rows_are_replicas, found_name, delivered, others_idle, rows_replicas}
pub use Rattle.sc_live_journals.proofs.RowsProofs.ReplicaViews.{view_others, new_is, view_is, view_was, sent_is, new_others, child_me}
pub use Rattle.sc_live_journals.proofs.RowsProofs.ReplicaInvariant.{nodes_born as nodes_are_born_well_kept, Plays, Found, found_well, replay_well, nodes_born}
pub use Rattle.sc_live_steps.proofs.FollowingProofs.MailTables.{floor_low as floor_most}
