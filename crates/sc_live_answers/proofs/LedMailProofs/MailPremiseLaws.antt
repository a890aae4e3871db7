-- That mail which comes to a node in a journal in which its group is well led finds what the law of calm scenarios asks of it.
use Rattle.sc_live_answers.proofs.LedMailProofs.GroupMailPremises.{group_mail_finds as group_mail_finds_by}
use Rattle.sc_scenario.proofs.ScenarioProofs.Lemmas.{valid_scenarios_are_bounded}
use Rattle.sc_live_answers.specs.AnswerDefinitions.{GroupMailFinds, StatesStand, JournalMailFinds}
use Rattle.sc_live_answers.proofs.LedGroupsProofs.StandingStates.{states_stand as states_stand_by}
use Rattle.sc_live_answers.proofs.LedGroupsProofs.LedGroupLaws.{led_rows_go_on, groups_are_led, led_logs_are_one}
use Rattle.sc_live_answers.proofs.LedMailProofs.JournalMailPremises.{journal_mail_finds as journal_mail_finds_by}

-- Mail of a group that is well led, delivered to a node, finds what is asked of it, where it has what its kind needs besides.
pub group_mail_finds : GroupMailFinds
group_mail_finds = group_mail_finds_by valid_scenarios_are_bounded

-- Nobody comes to a group by the entry by which it goes, so no state of a group that is gone is sent.
pub states_stand : StatesStand
states_stand = states_stand_by led_rows_go_on

-- So all mail of a group, in first rows of a journal whose rows come in time, finds what is asked of it, where it has what its kind needs besides.
pub journal_mail_finds : JournalMailFinds
journal_mail_finds = journal_mail_finds_by groups_are_led led_logs_are_one led_rows_go_on group_mail_finds states_stand
