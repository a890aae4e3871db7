-- Of one group through a calm journal, that its mail is sent as its leader's course needs it.
use Rattle.sc_live_answers.proofs.ReplicasProofs.ReplicasAtBirth.{groups_born}
use Rattle.sc_scenario.proofs.ScenarioProofs.Lemmas.{valid_scenarios_are_bounded}
use Rattle.sc_live_answers.proofs.LedGroupsProofs.LedGroupLaws.{groups_are_born_or_not, groups_are_led, led_logs_are_one, groups_begin_led}
use Rattle.sc_live_answers.specs.AnswerDefinitions.{GroupsAreBornAsBegun, GroupsBeginSent, NextRowsAreSent}
use Rattle.sc_live_answers.proofs.LedMailProofs.GroupMail.{begin_sent, rows_sent}
use Rattle.sc_live_journals.proofs.MailProofs.MailLemmas.{journals_keep_idle}
use Rattle.sc_live_journals.proofs.GroupsProofs.GroupLemmas.{scenarios_are_well_born, events_go_on}

-- The replicas of a group at the births are as the group begins.
pub groups_are_born_as_begun : GroupsAreBornAsBegun
groups_are_born_as_begun = groups_born valid_scenarios_are_bounded groups_are_born_or_not

-- Each group of the journal is well led at the births, with one log, and its mail is sent so.
pub groups_begin_sent : GroupsBeginSent
groups_begin_sent = begin_sent valid_scenarios_are_bounded journals_keep_idle scenarios_are_well_born groups_are_led led_logs_are_one events_go_on groups_begin_led groups_are_born_as_begun

-- So it is after one row more of a journal whose rows come in time, in the course that comes of its row, where no first member is sent anything before it has its replica.
pub next_rows_are_sent : NextRowsAreSent
next_rows_are_sent = rows_sent valid_scenarios_are_bounded journals_keep_idle scenarios_are_well_born groups_are_led led_logs_are_one events_go_on groups_begin_led groups_are_born_as_begun
