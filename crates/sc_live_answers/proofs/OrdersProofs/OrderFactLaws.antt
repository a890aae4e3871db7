-- What the commands and the mail of one order are at the group that takes them, since the quiet before it.
use Rattle.sc_live_answers.proofs.VotesProofs.RecordedLocks.{replicas_are_recorded as replicas_are_recorded_by, outcomes_taken}
use Rattle.sc_scenario.proofs.ScenarioProofs.Lemmas.{valid_scenarios_are_bounded}
use Rattle.sc_law_groups.proofs.WholeProofs.WholeLemmas.{valid_scenarios_begin_well, valid_journals_are_sound, valid_entries_are_logs}
use Rattle.sc_law_entries.proofs.NamesProofs.NameLemmas.{orders_are_allowed_allowed, orders_are_allowed_wishes, orders_are_allowed_positions, names_have_one_owner_others, counters_part_names, drawn_names_are_new_drawn}
use Rattle.sc_live_answers.specs.AnswerDefinitions.{ReplicasAreRecorded, OutcomesAreTaken, MailComesUnsettled, AskedGroupsStood, TrueOrdersGoOn, TrueOrdersBegin, VotesAreTrue, RecordsAreTrue, EntriesAreTrue, SettledOrdersBegin, SettledOrdersGoOn, CoordinatorsAreSettled, HintedOrdersGoOn}
use Rattle.sc_live_answers.proofs.VotesProofs.UnsettledMail.{mail_unsettled}
use Rattle.sc_live_answers.proofs.ErrandsProofs.QuestionedGroups.{asked_groups_stood as asked_groups_stood_by, true_goes_on}
use Rattle.sc_live_answers.proofs.OrdersProofs.OrderFactsAtStart.{true_begins}
use Rattle.sc_live_answers.proofs.VotesProofs.TrueEntries.{votes_true}
use Rattle.sc_live_answers.proofs.VotesProofs.RecordedVotes.{records_true}
use Rattle.sc_live_answers.proofs.VotesProofs.OutcomesInFlight.{entries_true}
use Rattle.sc_live_answers.proofs.OrdersProofs.SettledLeaders.{settled_begin, settled_go_on, coordinators_settle}
use Rattle.sc_live_answers.proofs.ErrandsProofs.QuestionReceivers.{hinted_go_on}

-- What the lock of each replica's group says was recorded, and what a replica has in flight is allowed in its group's log, by what all logs of the journal record.
pub replicas_are_recorded : ReplicasAreRecorded
replicas_are_recorded =
    replicas_are_recorded_by valid_scenarios_are_bounded valid_scenarios_begin_well orders_are_allowed_allowed orders_are_allowed_wishes orders_are_allowed_positions
    names_have_one_owner_others

-- The outcome that a journal records of a transaction can be carried out by its participant, as it was when it voted.
pub outcomes_are_taken : OutcomesAreTaken
outcomes_are_taken =
    outcomes_taken valid_scenarios_are_bounded valid_scenarios_begin_well orders_are_allowed_allowed orders_are_allowed_wishes orders_are_allowed_positions
    names_have_one_owner_others

-- A question that is under way since a quiet journal finds that no vote stands on it, since its transaction's name is new and the group that is asked is as it was; and a vote finds that no outcome is noted at its coordinator.
pub mail_comes_unsettled : MailComesUnsettled
mail_comes_unsettled = mail_unsettled valid_scenarios_are_bounded drawn_names_are_new_drawn

-- Whom an order asks after a delivery stood in the quiet before it: the successor that its coordinator had then, and next that of the participant, as the participant handed it over.
pub asked_groups_stood : AskedGroupsStood
asked_groups_stood = asked_groups_stood_by replicas_are_recorded

-- What is known of an order since a quiet journal is so after one more delivery: the name of its transaction was not in use then, its leaders have executed what the stage says, and the group that is asked stood then.
pub true_orders_go_on : TrueOrdersGoOn
true_orders_go_on = true_goes_on replicas_are_recorded

-- What is known of an order since a quiet journal is so from when it is given: the name that its node draws was not in use, and its leader has executed nothing.
pub true_orders_begin : TrueOrdersBegin
true_orders_begin =
    true_begins valid_scenarios_are_bounded valid_scenarios_begin_well orders_are_allowed_allowed orders_are_allowed_wishes orders_are_allowed_positions
    names_have_one_owner_others counters_part_names

-- What leaders have in flight of an order since a quiet journal is true, where it begins a transaction or a group votes: who is asked is another group, none has voted before, a watcher says Yes, and the leader stays.
pub votes_are_true : VotesAreTrue
votes_are_true = votes_true replicas_are_recorded valid_journals_are_sound valid_entries_are_logs valid_scenarios_are_bounded drawn_names_are_new_drawn

-- So are the votes that a coordinator has in flight: a participant's Yes decides, or asks a watcher that is another group, and a watcher's vote decides.
pub records_are_true : RecordsAreTrue
records_are_true = records_true replicas_are_recorded valid_journals_are_sound valid_entries_are_logs

-- Each command that a leader has in flight of an order since a quiet journal is true.
pub entries_are_true : EntriesAreTrue
entries_are_true = entries_true replicas_are_recorded valid_journals_are_sound valid_entries_are_logs outcomes_are_taken votes_are_true records_are_true

-- Since a quiet journal nobody is asked to promise a ballot in the group that gets an order, or coordinates its transaction: not by the row that gives it.
pub settled_orders_begin : SettledOrdersBegin
settled_orders_begin = settled_begin replicas_are_recorded

-- Nor is anybody by a delivery, since the leader has one command in flight at most, by which nobody comes.
pub settled_orders_go_on : SettledOrdersGoOn
settled_orders_go_on = settled_go_on replicas_are_recorded

-- So a coordinator that is to ask elsewhere has its promises.
pub coordinators_are_settled : CoordinatorsAreSettled
coordinators_are_settled = coordinators_settle replicas_are_recorded

-- A leader asks the least member by a link, or the node that a mail names.
pub hinted_orders_go_on : HintedOrdersGoOn
hinted_orders_go_on = hinted_go_on replicas_are_recorded
