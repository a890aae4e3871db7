-- That a group's log is one in a lawful journal of a valid scenario, where it has leaders.
use Rattle.sc_live_answers.proofs.LedGroupsProofs.GroupEnds.{groups_begin_standing as groups_begin_standing_by, ends_are_logged as ends_are_logged_by, replicas_run_logs as replicas_run_logs_by, children_are_begun as children_are_begun_by, members_move_one_way}
use Rattle.sc_scenario.proofs.ScenarioProofs.Lemmas.{valid_scenarios_are_bounded}
use Rattle.sc_law_groups.proofs.WholeProofs.WholeLemmas.{valid_scenarios_begin_well}
use Rattle.sc_law_entries.proofs.NamesProofs.NameLemmas.{orders_are_allowed_allowed, orders_are_allowed_wishes, orders_are_allowed_positions, names_have_one_owner_others}
use Rattle.sc_live_answers.specs.AnswerDefinitions.{GroupsBeginStanding, EndsAreLogged, ChildrenAreBegun, LedLogsAreOne, ReplicasRunLogs, GroupsAreBornOrNot, GroupsBeginLed, GroupsAreLed, LedRowsGoOn, GroupsBeginTaught, GroupsAreTaught}
use Rattle.sc_live_answers.proofs.LedGroupsProofs.SingleLogs.{led_logs_are_one as led_logs_are_one_by}
use Rattle.sc_live_journals.proofs.LogsProofs.GroupLogLemmas.{slots_have_rosters, replicas_are_logged, commands_come_next, states_are_logged, members_are_nodes, views_are_replicas}
use Rattle.sc_live_answers.proofs.LedGroupsProofs.GroupsAtBirth.{born_or_not, groups_begin_led as groups_begin_led_by, groups_begin_taught as groups_begin_taught_by}
use Rattle.sc_live_journals.proofs.GroupsProofs.GroupLemmas.{scenarios_begin_led, children_begin_led, scenarios_are_well_born, scenarios_are_kept_born, replicas_are_kept, events_go_on, scenarios_begin_taught, children_begin_taught, groups_are_taught_through}
use Rattle.sc_live_answers.proofs.LedMailProofs.LeadersInTime.{groups_are_led as groups_are_led_by, led_rows_go_on as led_rows_go_on_by}
use Rattle.sc_live_answers.proofs.LedGroupsProofs.EntryLearners.{groups_are_taught as groups_are_taught_by}

-- Each group of the journal begins with a first member, and is not gone then.
pub groups_begin_standing : GroupsBeginStanding
groups_begin_standing = groups_begin_standing_by valid_scenarios_are_bounded valid_scenarios_begin_well orders_are_allowed_allowed orders_are_allowed_wishes orders_are_allowed_positions names_have_one_owner_others

-- A group that is gone by its log stays so, is not as it begins, and each replica says so of it at its next slot, also with an entry more that a Learn brings.
pub ends_are_logged : EndsAreLogged
ends_are_logged = ends_are_logged_by valid_scenarios_are_bounded valid_scenarios_begin_well orders_are_allowed_allowed orders_are_allowed_wishes orders_are_allowed_positions names_have_one_owner_others

-- After any rows of the journal each replica's state is the log's at its next slot.
pub replicas_run_logs : ReplicasRunLogs
replicas_run_logs = replicas_run_logs_by valid_scenarios_are_bounded valid_scenarios_begin_well orders_are_allowed_allowed orders_are_allowed_wishes orders_are_allowed_positions names_have_one_owner_others

-- Each child that a node makes by a mail is a group of the journal, as it began.
pub children_are_begun : ChildrenAreBegun
children_are_begun = children_are_begun_by valid_scenarios_are_bounded valid_scenarios_begin_well orders_are_allowed_allowed orders_are_allowed_wishes orders_are_allowed_positions names_have_one_owner_others

-- So its log is one, where it has leaders: one that leads at each slot, counts its entry and sends the states of it, and goes on to no slot of a group that is gone.
pub led_logs_are_one : LedLogsAreOne
led_logs_are_one = led_logs_are_one_by slots_have_rosters views_are_replicas replicas_are_logged commands_come_next states_are_logged members_are_nodes groups_begin_standing ends_are_logged children_are_begun members_move_one_way

-- Each group of the journal is one of the scenario, or no node has a replica of it at the births.
pub groups_are_born_or_not : GroupsAreBornOrNot
groups_are_born_or_not = born_or_not valid_scenarios_are_bounded valid_scenarios_begin_well orders_are_allowed_allowed orders_are_allowed_wishes orders_are_allowed_positions names_have_one_owner_others

-- So it is well led at the births: one of the scenario as it begins, and each other since no node has a replica of it.
pub groups_begin_led : GroupsBeginLed
groups_begin_led = groups_begin_led_by valid_scenarios_are_bounded groups_are_born_or_not slots_have_rosters groups_begin_standing ends_are_logged scenarios_begin_led children_begin_led

-- So it has leaders, by who executes each slot first, and is well led after each row, where rows come in time and its mail is sent so.
pub groups_are_led : GroupsAreLed
groups_are_led = groups_are_led_by scenarios_are_well_born scenarios_are_kept_born replicas_are_kept events_go_on led_logs_are_one slots_have_rosters groups_begin_led

-- And each of these rows is one of the group of a known kind, which says how its course moves.
pub led_rows_go_on : LedRowsGoOn
led_rows_go_on = led_rows_go_on_by scenarios_are_well_born scenarios_are_kept_born replicas_are_kept events_go_on led_logs_are_one slots_have_rosters groups_begin_led

-- At the births each member of a state of the group has learnt the entry after it.
pub groups_begin_taught : GroupsBeginTaught
groups_begin_taught = groups_begin_taught_by valid_scenarios_are_bounded groups_are_born_or_not slots_have_rosters groups_begin_standing ends_are_logged scenarios_begin_taught children_begin_taught

-- So after each row each has learnt it or does by its mail, and nobody else learns one; and the group's log is one.
pub groups_are_taught : GroupsAreTaught
groups_are_taught = groups_are_taught_by scenarios_are_well_born groups_are_taught_through groups_are_led led_logs_are_one groups_begin_taught
