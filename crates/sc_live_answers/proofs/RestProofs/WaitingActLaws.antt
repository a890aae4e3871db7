-- That no act waits at a replica with nothing in flight, since a quiet prefix of a calm journal.
use Rattle.sc_live_answers.proofs.RestProofs.WaitingActs.{none_waits as none_waits_by}
use Rattle.sc_live_steps.proofs.PumpProofs.PumpLemmas.{pumps_leave_none}
use Rattle.sc_live_journals.proofs.MailProofs.MailLemmas.{journals_keep_idle, slots_are_left}
use Rattle.sc_live_journals.proofs.GroupsProofs.GroupLemmas.{scenarios_are_well_born, scenarios_are_kept_born}
use Rattle.sc_live_answers.proofs.QuietProofs.QuietPrefixLaws.{prefixes_are_found, no_mail_for_strangers}
use Rattle.sc_live_journals.proofs.LogsProofs.GroupLogLemmas.{slots_have_rosters}
use Rattle.sc_live_answers.specs.AnswerDefinitions.{NoneWaits}

-- No act waits at a replica with nothing in flight: once an order is given, after each delivery, and in the next quiet prefix.
pub none_waits : NoneWaits
none_waits = none_waits_by pumps_leave_none journals_keep_idle scenarios_are_well_born prefixes_are_found slots_are_left scenarios_are_kept_born slots_have_rosters no_mail_for_strangers
