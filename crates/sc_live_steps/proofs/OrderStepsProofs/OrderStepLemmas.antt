-- The lemmas of this part of the crate that others cite, under one name.
pub use Rattle.sc_live_steps.proofs.OrderStepsProofs.OrderAndVoteRows.{first, second, changed-step, opened-step, voted-step}
pub use Rattle.sc_live_steps.proofs.OrderStepsProofs.DecisionRows.{aborted-step, decided-step, heard-step, ended-step}
pub use Rattle.sc_live_steps.proofs.OrderStepsProofs.Errands.{errands-none}
pub use Rattle.sc_live_steps.proofs.OrderStepsProofs.ErrandTables.{tables-file as leaders_file_orders, tables-pass as tables_pass_questions, tables-ask-on as tables_ask_on, right_none, tables-file, tables-ask-on, offer_is, watch_row_is, tables-pass, left_none}
pub use Rattle.sc_live_steps.proofs.OrderStepsProofs.QuietStages.{quiet-still as quiet_orders_are_over, still-only, quiet-still}
pub use Rattle.sc_live_steps.proofs.OrderStepsProofs.NamedValues.{among-left, among-right, cases-draw, found, tagged, tokens}
pub use Rattle.sc_live_steps.proofs.OrderStepsProofs.PartyChanges.{closing-errand, errands_of, no-errand, closing-work, no-work, work_of}
pub use Rattle.sc_live_steps.proofs.OrderStepsProofs.LoneWorkPumps.{pumps-keep as pumps_keep_work}
pub use Rattle.sc_live_steps.proofs.OrderStepsProofs.QuestionRows.{passes-step, asks-step, files-step}
pub use Rattle.sc_live_steps.proofs.OrderStepsProofs.OrderIntake.{reported-step, rests-step}
pub use Rattle.sc_live_steps.proofs.OrderStepsProofs.Entries.{orders-leave as orders_leave, votes-leave as votes_leave, orders-leave, votes-leave}
pub use Rattle.sc_live_steps.proofs.OrderStepsProofs.VoteRecords.{records-leave as records_leave, watch-records-leave as watch_records_leave, ends-leave as ends_leave, records-leave, ends-leave, watch-records-leave}
pub use Rattle.sc_live_steps.proofs.OrderStepsProofs.OrderTables.{tables-order as tables_order, tables-order}
pub use Rattle.sc_live_steps.proofs.OrderStepsProofs.LoneEntries.{entries-run-alone as entries_run_alone, entries-run-alone}
pub use Rattle.sc_live_steps.proofs.OrderStepsProofs.LoneVotes.{votes-count-alone as votes_count_alone, votes-count-alone}
pub use Rattle.sc_live_steps.proofs.OrderStepsProofs.IdleRows.{tables-rest as tables_rest, promises-keep as promises_keep_work, tables-rest, promises-keep}
