-- Which groups go while an order is under way since a quiet prefix of a calm journal.
use Rattle.sc_live_answers.proofs.VotesProofs.RecordedLocks.{merges_end_at_owner as merges_go_home_by}
use Rattle.sc_scenario.proofs.ScenarioProofs.Lemmas.{valid_scenarios_are_bounded}
use Rattle.sc_law_groups.proofs.WholeProofs.WholeLemmas.{valid_scenarios_begin_well}
use Rattle.sc_law_entries.proofs.NamesProofs.NameLemmas.{orders_are_allowed_allowed, orders_are_allowed_wishes, orders_are_allowed_positions, names_have_one_owner_others}
use Rattle.sc_live_answers.specs.AnswerDefinitions.{MergesEndAtOwner, EndingGroupsBegin, EndingGroupsGoOn, OneGroupEnds, GroupsEndInTurn}
use Rattle.sc_live_answers.proofs.OrdersProofs.EndingGroupsAtStart.{ending_groups_begin as ending_groups_begin_by}
use Rattle.sc_live_answers.proofs.QuietProofs.QuietPrefixLaws.{prefixes_are_found, still_prefixes_are_free, prefixes_go_in_turn}
use Rattle.sc_live_answers.proofs.LedGroupsProofs.LedGroupLaws.{ends_are_logged, replicas_run_logs, groups_begin_standing}
use Rattle.sc_live_answers.proofs.OrdersProofs.EndingGroupsAfterDeliveries.{ending_groups_go_on as ending_groups_go_on_by}
use Rattle.sc_live_answers.proofs.OrdersProofs.OrderFactLaws.{replicas_are_recorded}
use Rattle.sc_live_answers.proofs.OrdersProofs.EndingGroups.{one_group_ends_by, groups_end_in_turn_by}

-- A group that promised a transaction by which a group is merged goes into the one for which its name was drawn, which is another.
pub merges_end_at_owner : MergesEndAtOwner
merges_end_at_owner =
    merges_go_home_by valid_scenarios_are_bounded valid_scenarios_begin_well orders_are_allowed_allowed orders_are_allowed_wishes orders_are_allowed_positions
    names_have_one_owner_others

-- Once an order is given in a quiet prefix no more groups are gone than before.
pub ending_groups_begin : EndingGroupsBegin
ending_groups_begin = ending_groups_begin_by prefixes_are_found ends_are_logged

-- After each delivery each group that is gone was so in the quiet, or went by the order's transaction, whose coordinator stood in the quiet.
pub ending_groups_go_on : EndingGroupsGoOn
ending_groups_go_on = ending_groups_go_on_by replicas_are_recorded prefixes_are_found replicas_run_logs ends_are_logged groups_begin_standing

-- So since a quiet prefix one group more is gone at most, and it went into one that stands.
pub one_group_ends : OneGroupEnds
one_group_ends = one_group_ends_by merges_end_at_owner prefixes_are_found

-- So groups go one after another once the journal is quiet again.
pub groups_end_in_turn : GroupsEndInTurn
groups_end_in_turn = groups_end_in_turn_by one_group_ends still_prefixes_are_free prefixes_go_in_turn
