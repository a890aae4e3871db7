-- A line of requests in a calm journal, between two orders: each row finds what it needs, and the line leaves a quiet journal.
use Rattle.sc_live_answers.proofs.RequestsProofs.RequestLineEnds.{replicas_quiet}
use Rattle.sc_scenario.proofs.ScenarioProofs.Lemmas.{valid_scenarios_are_bounded}
use Rattle.sc_live_answers.specs.AnswerDefinitions.{LinesLeaveReplicasQuiet, LinesLeaveQuiet, LawfulJournalsHaveOneLog, LawfulLinesLeaveQuiet, AnswersAreExpected, LinesAskLeaders, RequestRowsFindCalm, QuietJournalsCountOnce, LawfulReplicasAreNamedOnce, LawfulQuietJournalsCountOnce}
use Rattle.sc_live_answers.proofs.LinesProofs.QuietLines.{leave_quiet}
use Rattle.sc_live_answers.proofs.LinesProofs.EqualReplicas.{lawful_one_log}
use Rattle.sc_law_groups.proofs.WholeProofs.WholeLemmas.{valid_scenarios_begin_well, lawful_journals_decide_in_turn, valid_journals_are_sound}
use Rattle.sc_law_entries.proofs.NamesProofs.NameLemmas.{orders_are_allowed_allowed, orders_are_allowed_wishes, orders_are_allowed_positions, names_have_one_owner_others}
use Rattle.sc_law_entries.proofs.LogsProofs.LogLemmas.{groups_are_born_under_new_names_found}
use Rattle.sc_live_answers.proofs.RequestsProofs.LawfulRequestLines.{lawful_leave}
use Rattle.sc_live_answers.proofs.LinesProofs.SingleTokens.{expected}
use Rattle.sc_live_answers.proofs.RequestsProofs.RequestLineLeaders.{lines_lead}
use Rattle.sc_live_answers.proofs.RequestsProofs.RequestRows.{request_rows}
use Rattle.sc_live_answers.proofs.RequestsProofs.ClientAnswers.{answers_heard as answers_are_heard_calmly, clients_go as clients_go_calmly}
use Rattle.sc_live_answers.proofs.RequestsProofs.RequestLineStarts.{count_once}
use Rattle.sc_live_answers.proofs.LinesProofs.UniqueReplicas.{named_once, lawful_count_once}

-- Where a line of requests from a quiet journal leaves no mail to anybody, all replicas are quiet again: groups that stand are led and have executed all, groups that are gone stay so, and hints rise. That replicas of one group which executed as much are in one state is a premise.
pub lines_leave_replicas_quiet : LinesLeaveReplicasQuiet
lines_leave_replicas_quiet = replicas_quiet valid_scenarios_are_bounded

-- Where a line of requests from a quiet journal leaves no mail to anybody, the journal is quiet again: each client that has started has all replies, and each other is as at its birth; what the executed states note is begun, and no mail is left.
pub lines_leave_quiet : LinesLeaveQuiet
lines_leave_quiet = leave_quiet valid_scenarios_are_bounded

-- In each lawful journal of a valid scenario replicas of one group that executed as much are in one state: each has executed a prefix of its group's one log.
pub lawful_journals_have_one_log : LawfulJournalsHaveOneLog
lawful_journals_have_one_log =
    lawful_one_log valid_scenarios_are_bounded valid_scenarios_begin_well orders_are_allowed_allowed orders_are_allowed_wishes orders_are_allowed_positions names_have_one_owner_others
    lawful_journals_decide_in_turn groups_are_born_under_new_names_found valid_journals_are_sound

-- Where a line of requests in a lawful journal begins in a quiet one and leaves no mail to anybody, the journal is quiet again, and all replicas may pump if all might before.
pub lawful_lines_leave_quiet : LawfulLinesLeaveQuiet
lawful_lines_leave_quiet = lawful_leave valid_scenarios_are_bounded lawful_journals_have_one_log lines_leave_replicas_quiet lines_leave_quiet

-- In a line of requests the first mail to a client is the answer that it waits for, of the node and the group that it asked.
pub answers_are_expected : AnswersAreExpected
answers_are_expected = expected valid_scenarios_are_bounded

-- In a line of requests each client would ask the node that leads, of each group that it knows but for that which it asked last.
pub lines_ask_leaders : LinesAskLeaders
lines_ask_leaders = lines_lead valid_scenarios_are_bounded

-- In a line of requests whatever comes next, in order, finds what it needs: a client that starts, an answer that it takes, and each mail of a node, by a chart that counts as the setting does.
pub request_rows_find_calm : RequestRowsFindCalm
request_rows_find_calm = request_rows valid_scenarios_are_bounded answers_are_heard_calmly clients_go_calmly answers_are_expected lines_ask_leaders

-- In a quiet journal each client's request is under way once at most, counting one where none waits. That no node has two replicas of one group is a premise.
pub quiet_journals_count_once : QuietJournalsCountOnce
quiet_journals_count_once = count_once valid_scenarios_are_bounded

-- In a lawful journal of a valid scenario no node has two replicas of one group.
pub lawful_replicas_are_named_once : LawfulReplicasAreNamedOnce
lawful_replicas_are_named_once = named_once valid_scenarios_are_bounded valid_scenarios_begin_well orders_are_allowed_allowed orders_are_allowed_wishes orders_are_allowed_positions names_have_one_owner_others

-- In a quiet lawful journal of a valid scenario each client's request is under way once at most.
pub lawful_quiet_journals_count_once : LawfulQuietJournalsCountOnce
lawful_quiet_journals_count_once = lawful_count_once quiet_journals_count_once lawful_replicas_are_named_once
