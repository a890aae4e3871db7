-- What a quiet prefix of a calm journal says of its groups, links, routes and notes.
use Rattle.sc_live_answers.proofs.LinksProofs.LinkLogs.{links_were_members as links_were_members_by}
use Rattle.sc_scenario.proofs.ScenarioProofs.Lemmas.{valid_scenarios_are_bounded}
use Rattle.sc_law_groups.proofs.WholeProofs.WholeLemmas.{valid_scenarios_begin_well, valid_journals_are_sound, valid_entries_are_logs}
use Rattle.sc_law_entries.proofs.NamesProofs.NameLemmas.{orders_are_allowed_allowed, orders_are_allowed_wishes, orders_are_allowed_positions, names_have_one_owner_others}
use Rattle.sc_live_answers.specs.AnswerDefinitions.{LinksWereMembers, GroupsAreAskedThrough, FreeGroupsHaveArcs, PrefixesAreFound, QuietPrefixesHaveGroups, QuietLogsAreExecuted, MembersAreHome, NoMailForStrangers, EntriesCreateChildren, ChildrenAreMade, PrefixMembersHaveReplicas, PrefixGroupsHaveReplicas, RoutesInPrefixesAgree, PrefixesAreKnown, PrefixesAreReachable, PrefixesAreTakenIn, PrefixesAreLinked, StillPrefixesAreFree, IssuedAreBegun, PrefixNotesAreBegun, PrefixesGoInTurn, PrefixesStayInTurn, FirstGroupsAreReached}
use Rattle.sc_live_answers.proofs.RestProofs.OfferedSlots.{asked_through}
use Rattle.sc_live_journals.proofs.GroupsProofs.GroupLemmas.{events_go_on, rows_keep_taught, scenarios_are_well_born}
use Rattle.sc_live_answers.proofs.LinksProofs.Arcs.{free_groups_have_arcs as free_groups_have_arcs_by}
use Rattle.sc_live_answers.proofs.QuietProofs.QuietPrefixes.{prefixes_are_found as prefixes_are_found_by}
use Rattle.sc_live_answers.proofs.ReplicasProofs.MemberNodes.{members_are_home as members_are_home_by}
use Rattle.sc_live_answers.proofs.ErrandsProofs.UnknownReceivers.{strangers_get_none}
use Rattle.sc_live_answers.proofs.ChildrenProofs.LogChildren.{entries_create_children as entries_create_children_by}
use Rattle.sc_live_answers.proofs.ChildrenProofs.ChildReplicas.{children_are_made as children_are_made_by}
use Rattle.sc_live_answers.proofs.LedGroupsProofs.LedGroupLaws.{groups_are_born_or_not, groups_begin_taught, replicas_run_logs}
use Rattle.sc_live_answers.proofs.ReplicasProofs.GroupReplicas.{prefix_members_have_replicas as prefix_members_have_replicas_by, prefix_groups_have_replicas as prefix_groups_have_replicas_by}
use Rattle.sc_live_answers.proofs.QuietProofs.QuietPrefixGroupLogs.{quiet_prefixes_have_groups as quiet_prefixes_have_groups_by, quiet_logs_are_executed as quiet_logs_are_executed_by}
use Rattle.sc_live_answers.proofs.QuietProofs.QuietPrefixGroups.{routes_in_prefixes_agree as routes_in_prefixes_agree_by}
use Rattle.sc_live_answers.proofs.RestProofs.ReachableGroups.{prefixes_are_known as prefixes_are_known_by, prefixes_are_reachable as prefixes_are_reachable_by, prefixes_are_taken_in as prefixes_are_taken_in_by}
use Rattle.sc_live_answers.proofs.QuietProofs.QuietLinks.{prefixes_are_linked as prefixes_are_linked_by}
use Rattle.sc_live_answers.proofs.RestProofs.FreeGroups.{still_prefixes_are_free as still_prefixes_are_free_by}
use Rattle.sc_live_answers.proofs.RequestsProofs.BegunRequests.{issued_are_begun as issued_are_begun_by}
use Rattle.sc_live_answers.proofs.RestProofs.NotedRequests.{prefix_notes_are_begun as prefix_notes_are_begun_by}
use Rattle.sc_live_answers.proofs.RestProofs.GroupEndsInPrefixes.{prefixes_go_in_turn as prefixes_go_in_turn_by, prefixes_stay_in_turn as prefixes_stay_in_turn_by}
use Rattle.sc_live_answers.proofs.RequestsProofs.RequestLaws.{lawful_replicas_are_named_once}
use Rattle.sc_live_journals.proofs.ChartsProofs.ChartLemmas.{led_stand_once}
use Rattle.sc_live_journals.proofs.MailProofs.MailLemmas.{replicas_last, entries_leave_over}
use Rattle.sc_live_journals.proofs.LogsProofs.GroupLogLemmas.{views_are_replicas}
use Rattle.sc_live_answers.proofs.LedGroupsProofs.GroupEndOrder.{turns_go_on}
use Rattle.sc_live_answers.proofs.ReplicasProofs.FirstReplicas.{first_groups_are_reached as first_groups_are_reached_by}

-- After a lawful journal in which no group is bound, the nodes that links and routes name were members of the groups that these name.
pub links_were_members : LinksWereMembers
links_were_members = links_were_members_by valid_scenarios_are_bounded valid_scenarios_begin_well orders_are_allowed_allowed orders_are_allowed_wishes orders_are_allowed_positions names_have_one_owner_others

-- No mail ever asks for anything of a group beyond the bound of the course in which it is well led.
pub groups_are_asked_through : GroupsAreAskedThrough
groups_are_asked_through = asked_through events_go_on rows_keep_taught

-- A group that stands, and is bound in no transaction by its log, has an arc of the ring.
pub free_groups_have_arcs : FreeGroupsHaveArcs
free_groups_have_arcs = free_groups_have_arcs_by valid_scenarios_are_bounded valid_scenarios_begin_well orders_are_allowed_allowed orders_are_allowed_wishes orders_are_allowed_positions names_have_one_owner_others

-- The groups of a prefix of a lawful journal are groups of the journal, and each replica is of one of them.
pub prefixes_are_found : PrefixesAreFound
prefixes_are_found = prefixes_are_found_by valid_scenarios_are_bounded valid_scenarios_begin_well orders_are_allowed_allowed orders_are_allowed_wishes orders_are_allowed_positions names_have_one_owner_others valid_journals_are_sound

-- The members of each slot of each group are nodes of the scenario.
pub members_are_home : MembersAreHome
members_are_home = members_are_home_by valid_scenarios_are_bounded valid_scenarios_begin_well orders_are_allowed_allowed orders_are_allowed_wishes orders_are_allowed_positions names_have_one_owner_others

-- So no mail of any group goes to who is no actor, where all groups are well led.
pub no_mail_for_strangers : NoMailForStrangers
no_mail_for_strangers = strangers_get_none prefixes_are_found members_are_home

-- A replica makes the child of each entry that it executes by a Learn of its next slot, or by a vote, if its node is a member of the child.
pub entries_create_children : EntriesCreateChildren
entries_create_children = entries_create_children_by valid_scenarios_are_bounded valid_scenarios_begin_well orders_are_allowed_allowed orders_are_allowed_wishes orders_are_allowed_positions names_have_one_owner_others

-- So each member of a child has a replica of it, or the Learn of the entry that names it is under way, in a journal whose rows come in time.
pub children_are_made : ChildrenAreMade
children_are_made = children_are_made_by valid_scenarios_are_bounded groups_are_born_or_not scenarios_are_well_born entries_create_children

-- And what has a replica then has one at each of its first members.
pub prefix_members_have_replicas : PrefixMembersHaveReplicas
prefix_members_have_replicas =
    prefix_members_have_replicas_by valid_scenarios_are_bounded valid_scenarios_begin_well orders_are_allowed_allowed orders_are_allowed_wishes orders_are_allowed_positions names_have_one_owner_others scenarios_are_well_born
    groups_begin_taught groups_are_asked_through no_mail_for_strangers prefixes_are_found children_are_made

-- Each group that has a replica in a quiet prefix is a quiet group then, and was asked for nothing beyond its course.
pub quiet_prefixes_have_groups : QuietPrefixesHaveGroups
quiet_prefixes_have_groups = quiet_prefixes_have_groups_by scenarios_are_well_born groups_begin_taught groups_are_asked_through no_mail_for_strangers prefix_members_have_replicas

-- And all that was decided is executed.
pub quiet_logs_are_executed : QuietLogsAreExecuted
quiet_logs_are_executed = quiet_logs_are_executed_by scenarios_are_well_born groups_begin_taught groups_are_asked_through no_mail_for_strangers prefixes_are_found prefix_members_have_replicas

-- Replicas of one group that are gone know the same route in a quiet prefix.
pub routes_in_prefixes_agree : RoutesInPrefixesAgree
routes_in_prefixes_agree = routes_in_prefixes_agree_by quiet_logs_are_executed prefixes_are_found

-- So each group of a quiet prefix has a replica.
pub prefix_groups_have_replicas : PrefixGroupsHaveReplicas
prefix_groups_have_replicas =
    prefix_groups_have_replicas_by valid_scenarios_are_bounded valid_scenarios_begin_well orders_are_allowed_allowed orders_are_allowed_wishes orders_are_allowed_positions names_have_one_owner_others scenarios_are_well_born
    groups_begin_taught groups_are_asked_through no_mail_for_strangers prefixes_are_found children_are_made

-- The groups of a quiet prefix are known, where each has a replica and none is bound.
pub prefixes_are_known : PrefixesAreKnown
prefixes_are_known = prefixes_are_known_by quiet_logs_are_executed prefixes_are_found prefix_groups_have_replicas free_groups_have_arcs

-- Then links and routes name nodes that have replicas.
pub prefixes_are_reachable : PrefixesAreReachable
prefixes_are_reachable = prefixes_are_reachable_by quiet_logs_are_executed prefixes_are_found prefix_groups_have_replicas links_were_members

-- So the nodes of the group that a group went into have a replica of that.
pub prefixes_are_taken_in : PrefixesAreTakenIn
prefixes_are_taken_in = prefixes_are_taken_in_by quiet_logs_are_executed prefixes_are_found prefix_groups_have_replicas links_were_members

-- And the link of a group that stands is as a quiet journal asks it.
pub prefixes_are_linked : PrefixesAreLinked
prefixes_are_linked = prefixes_are_linked_by quiet_logs_are_executed prefixes_are_found prefix_groups_have_replicas free_groups_have_arcs links_were_members valid_journals_are_sound valid_entries_are_logs

-- Where nothing of an order is left, no group is bound by its log.
pub still_prefixes_are_free : StillPrefixesAreFree
still_prefixes_are_free = still_prefixes_are_free_by quiet_logs_are_executed prefixes_are_found prefix_groups_have_replicas

-- Each request that was issued in rows that come in time is begun.
pub issued_are_begun : IssuedAreBegun
issued_are_begun = issued_are_begun_by valid_scenarios_are_bounded

-- So the group of a leader that stands in a quiet prefix has noted begun requests alone, and all values that it has come of such.
pub prefix_notes_are_begun : PrefixNotesAreBegun
prefix_notes_are_begun = prefix_notes_are_begun_by valid_scenarios_are_bounded valid_scenarios_begin_well orders_are_allowed_allowed orders_are_allowed_wishes orders_are_allowed_positions names_have_one_owner_others valid_journals_are_sound valid_entries_are_logs issued_are_begun free_groups_have_arcs quiet_logs_are_executed prefixes_are_found prefix_groups_have_replicas

-- So they do in a quiet prefix, where they did in an earlier one in which no group was bound, and at most one went since, into one that stands.
pub prefixes_go_in_turn : PrefixesGoInTurn
prefixes_go_in_turn = prefixes_go_in_turn_by valid_scenarios_are_bounded lawful_replicas_are_named_once led_stand_once prefixes_are_found quiet_logs_are_executed routes_in_prefixes_agree replicas_last replicas_run_logs views_are_replicas entries_leave_over turns_go_on

-- Groups go one after another in a quiet prefix, where they did in an earlier one in which no group was bound, and none went since.
pub prefixes_stay_in_turn : PrefixesStayInTurn
prefixes_stay_in_turn = prefixes_stay_in_turn_by prefixes_go_in_turn

-- The groups of the scenario have replicas at their first members in each prefix of a calm journal.
pub first_groups_are_reached : FirstGroupsAreReached
first_groups_are_reached = first_groups_are_reached_by valid_scenarios_are_bounded prefixes_are_found
