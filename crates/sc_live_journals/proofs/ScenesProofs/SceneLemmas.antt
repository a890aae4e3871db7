-- The lemmas of this part of the crate that others cite, under one name.
pub use Rattle.sc_live_journals.proofs.ScenesProofs.AnswersAndLateMail.{asked_keep}
pub use Rattle.sc_live_journals.proofs.ScenesProofs.VotesAndOrders.{votes_keep, orders_keep}
pub use Rattle.sc_live_journals.proofs.ScenesProofs.Deliveries.{fresh_stay as fresh_groups_stay, own_errand}
pub use Rattle.sc_live_journals.proofs.ScenesProofs.RowKinds.{asides_stay, asides_are, leaders_are, entries_are}
pub use Rattle.sc_live_journals.proofs.ScenesProofs.RowPremises.{found_step as found_orders_step, found_step, IsQuestion}
pub use Rattle.sc_live_journals.proofs.ScenesProofs.UntouchedGroups.{client_leaves, got_nothing, quiet_errands, unknown_apart, aside_is, asks_it}
pub use Rattle.sc_live_journals.proofs.ScenesProofs.CreatedReplicas.{states_keep}
pub use Rattle.sc_live_journals.proofs.ScenesProofs.OrderRows.{leaders_keep, asides_keep, row_of_comes}
pub use Rattle.sc_live_journals.proofs.ScenesProofs.UntakenMail.{takes_one, left_by, left_row, errands-append, TakesOne}
pub use Rattle.sc_live_journals.proofs.ScenesProofs.NewestLeaders.{lead_runs, lead_found, IsNewest, newest_is}
pub use Rattle.sc_live_journals.proofs.ScenesProofs.UnrelatedRows.{others_keep}
pub use Rattle.sc_live_journals.proofs.ScenesProofs.QuietJournals.{quiet_over as quiet_scenes_are_over, fly_lone as works_fly_lone, begin_in_quiet as orders_begin_in_quiet, none_left, fly_lone, quiet_over, free_by}
pub use Rattle.sc_live_journals.proofs.ScenesProofs.ErrandLeaders.{answers_reach as answers_reach_leaders, answers_reach, errand_among}
pub use Rattle.sc_live_journals.proofs.ScenesProofs.SceneReceivers.{rows_taken as rows_are_taken, now_is, rows_taken, was_is, OneOf, all_sent, all_children, misses, each_is}
pub use Rattle.sc_live_journals.proofs.ScenesProofs.SceneRows.{rows_are as rows_are_of_scenes, calm_is}
pub use Rattle.sc_live_journals.proofs.ScenesProofs.UntouchedBySteps.{asked_fresh, fresh_errand}
pub use Rattle.sc_live_journals.proofs.ScenesProofs.SceneViews.{tell as scenes_tell, tell, no_lead, seat_among, view_among}
