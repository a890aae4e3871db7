-- The definitions of this crate that others cite, under one name.
pub use Rattle.sc_node_table.specs.Acts.{with_act, has_act, is_of_kind, is_giving_up}
unfoldable pub use Rattle.sc_node_table.specs.Acts.{act_queued}
pub use Rattle.sc_node_table.specs.Election.{stopped, open_nodes, is_in_some, AsksTheOpenSets}
unfoldable pub use Rattle.sc_node_table.specs.Election.{saw, ended, elected, nodes_to}
pub use Rattle.sc_node_table.specs.Execute.{is_among, all_ready, answer_of, slot_lost, left_gone, looked_for, next_child, has_room, next_ready, ending, child_at, order_result, with_entry}
unfoldable pub use Rattle.sc_node_table.specs.Execute.{entered, executed_one, executed_ready, executed, answered_or_put_back, effect_reported, announced, learnt_to, welcomed, landed, left, looked}
pub use Rattle.sc_node_table.specs.Install.{named, asked_to_promise}
unfoldable pub use Rattle.sc_node_table.specs.Install.{install_to, welcomed_all, jumped}
pub use Rattle.sc_node_table.specs.Mails.{answer_to, sent, result_sent, order_number}
unfoldable pub use Rattle.sc_node_table.specs.Mails.{sent_others, sent_all, answered, answered_all, order_reported, dismissed, dismissed_all}
pub use Rattle.sc_node_table.specs.Node.{NodeState, replica_of, is_node, node_table, born_replicas, born_node, with_replica, group_of_mail, may_come, taken_by, routed, on_mail, with_new, with_born, group_of_order, on_order, ordered_of, unknown, with_made, absent, is_before, on_tick, are_in_order}
unfoldable pub use Rattle.sc_node_table.specs.Node.{with_children, ticked, names_after_ticks}
pub use Rattle.sc_node_table.specs.Ordering.{first_of_both, named_refused, ordered_command, untaken, takes_name, queued_or_refused, names_after, has_drawn_all}
unfoldable pub use Rattle.sc_node_table.specs.Ordering.{ordered_row}
pub use Rattle.sc_node_table.specs.Policy.{is_at_rest, policy_line, wished_line, names_after_tick, with_command, with_line, names_with}
unfoldable pub use Rattle.sc_node_table.specs.Policy.{wishing}
pub use Rattle.sc_node_table.specs.Pump.{admits_requests, is_act, Found, waits, refused_by, turned_down, from_acts, found_by, StaysSettled}
unfoldable pub use Rattle.sc_node_table.specs.Pump.{pumped_from, pumped, next_queued, from_backlog, from_queues, found_for, offered}
pub use Rattle.sc_node_table.specs.Questions.{asked_link, question, asked_first, asked_node, watcher_link, offer_of, heard_question, union_watch, split_watch, both_link, child_link}
pub use Rattle.sc_node_table.specs.Queues.{queued_number, is_request_of, without_request, with_order_queued, request_before}
unfoldable pub use Rattle.sc_node_table.specs.Queues.{put_back}
pub use Rattle.sc_node_table.specs.Reminders.{waited_in, reminders, patience, one_tick_more}
unfoldable pub use Rattle.sc_node_table.specs.Reminders.{reminded}
pub use Rattle.sc_node_table.specs.Replica.{ReplicaState, Place, Executed, childless, name_of, next, members, settled, flying, last_slot, first_ballot, born_replica, waits_in, either, taken_at, listed, taken_from, first_set, may_offer, under_way, open_slots, is_idle, set_at, floor_of, installed_replica}
unfoldable pub use Rattle.sc_node_table.specs.Replica.{forgotten}
pub use Rattle.sc_node_table.specs.Rows.{request_refusal, refused_at, ask_answered, most_taught, uncounted}
unfoldable pub use Rattle.sc_node_table.specs.Rows.{learn_row, queued, requested, request_row, mailed, made_by, stepped, ask_row, taught, install_row, took_over, looked_up, tick_row, asked_again, last_entry_sent}
pub use Rattle.sc_node_table.specs.Sameness.{same_command, same_numbers, same_op, same_arc, same_link, same_route, same_pair, same_pairs, same_client, same_clients, same_body, same_offer, same_watch, same_no, same_frozen, same_vote, same_past, same_gift, same_outcome, DecidesCommands}
pub use Rattle.sc_node_table.specs.Slots.{without_slot, numbers_from, slots_ahead, at_slot, with_slot, rest_of}
pub use Rattle.sc_node_table.specs.Spoken.{before_of, asked_on, vote_sent, watch_sent, aborted_to, aborted_watcher, given_up_by, vote_answered, released_to, watch_answered_by, before_in, begun_result, spoken_number, result_reported, begun_asks, heard_from, outcome_result, decided_result}
unfoldable pub use Rattle.sc_node_table.specs.Spoken.{spoken, spoken_mails, begun_reported, went_on}
pub use Rattle.sc_node_table.specs.Transactions.{noted_outcome, voted_to, watched_to, next_asked, asked_next, noted_vote, awaits_vote, awaits_watch, is_bound, offered_by, sent_elsewhere, standing_vote, vote_met, vote_queued, watch_met, watch_queued, watched_by, outcome_sent, gone_vote, standing_by}
unfoldable pub use Rattle.sc_node_table.specs.Transactions.{elsewhere_row, offer_row, outcome_row, vote_row, watch_row, watched_row}
pub use Rattle.sc_node_table.specs.Voting.{hinted, accepted_to, leads, vote_tallied, voted, promise_to}
unfoldable pub use Rattle.sc_node_table.specs.Voting.{took, accept_row, readied, accepted_row, promised, prepare_row, nack_row, promise_row}
