-- The lemmas of this part of the crate that others cite, under one name.
pub use Rattle.sc_live_steps.proofs.FollowingProofs.StoppingLeaders.{ReadyAlone, alone_on, acts_stop_alone, entered_core, note_core, served_core, called_core}
pub use Rattle.sc_live_steps.proofs.FollowingProofs.QueueingRows.{rows_lead, aside_is, order_is}
pub use Rattle.sc_live_steps.proofs.FollowingProofs.LeaderPrepares.{rows_ask_next}
pub use Rattle.sc_live_steps.proofs.FollowingProofs.FirstLeaders.{leaders_begin}
pub use Rattle.sc_live_steps.proofs.FollowingProofs.CountedEntries.{entries_lead, taught_state, landed_is, landed_taught, entered_keeps, ends}
pub use Rattle.sc_live_steps.proofs.FollowingProofs.AskedSlots.{slots_are_kept, prepares_are_known, nothing}
pub use Rattle.sc_live_steps.proofs.FollowingProofs.ElectionPrepares.{elections_ask_next}
pub use Rattle.sc_live_steps.proofs.FollowingProofs.LeastMembers.{tables_elect}
pub use Rattle.sc_live_steps.proofs.FollowingProofs.TableElections.{elections_lead, among_numbers}
pub use Rattle.sc_live_steps.proofs.FollowingProofs.ElectionRows.{self_election-keeps as elections_keep_following, self_election-keeps, last_promise}
pub use Rattle.sc_live_steps.proofs.FollowingProofs.EntryMail.{entries_report, with_state, with_both}
pub use Rattle.sc_live_steps.proofs.FollowingProofs.ExecutedEntries.{executions_lead, stays_led, on_leads, on_next, on_ready, ready_of, ready_leads, are_push, are_next, entered_sets}
pub use Rattle.sc_live_steps.proofs.FollowingProofs.HintRows.{hints_are_kept, nodes_heed}
pub use Rattle.sc_live_steps.proofs.FollowingProofs.Hints.{hinted-append, count-hinted}
pub use Rattle.sc_live_steps.proofs.FollowingProofs.FlightSlots.{slot_out}
pub use Rattle.sc_live_steps.proofs.FollowingProofs.QuietProgress.{begins as groups_begin_following, quiet-even as quiet_groups_are_even, quiet-even, begins, all_votes, decided}
pub use Rattle.sc_live_steps.proofs.FollowingProofs.NodeMarks.{counts_of, each-row, idle-keeps, takes-keeps}
pub use Rattle.sc_live_steps.proofs.FollowingProofs.LeaderTables.{none_taken, none_there}
pub use Rattle.sc_live_steps.proofs.FollowingProofs.LeaderRows.{leads-keeps as leaders_keep_following, least_in, leads-keeps}
pub use Rattle.sc_live_steps.proofs.FollowingProofs.FollowerTables.{tables as tables_follow, looked_same, over, over_off, place2, looks, told_is, tables, entered_floor}
pub use Rattle.sc_live_steps.proofs.FollowingProofs.Marks.{reached-least, reached-append, pledged-append, pledged-most, rises, offers-reached, among-either, count-reached, count-pledged, offers-each, taught-each, among-left, among-right}
pub use Rattle.sc_live_steps.proofs.FollowingProofs.MailTables.{states as states_make_replicas, saw_either, same_mark, states, floor_low}
pub use Rattle.sc_live_steps.proofs.FollowingProofs.Offers.{pumps_offer}
pub use Rattle.sc_live_steps.proofs.FollowingProofs.FlightOrderRows.{order_is_kept}
pub use Rattle.sc_live_steps.proofs.FollowingProofs.FlightOrder.{apart_without, apart_polled, apart_pushed}
pub use Rattle.sc_live_steps.proofs.FollowingProofs.OwnPrepares.{own_is_kept, leaders_count_own}
pub use Rattle.sc_live_steps.proofs.FollowingProofs.KeptVotes.{with_kept}
pub use Rattle.sc_live_steps.proofs.FollowingProofs.OutsideMail.{announced_keeps, spoken_same, turned_kept, spoken_kept, ended_kept, announced_kept}
pub use Rattle.sc_live_steps.proofs.FollowingProofs.TableHints.{hints_follow, heirs_elect, leaders_leave_last}
pub use Rattle.sc_live_steps.proofs.FollowingProofs.LearningMembers.{taught_is_kept, quiet_members_know}
pub use Rattle.sc_live_steps.proofs.FollowingProofs.TakenVotes.{vote_row}
