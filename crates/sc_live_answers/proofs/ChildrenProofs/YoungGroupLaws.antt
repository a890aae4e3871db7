-- What holds of the groups that were nowhere in a quiet journal, while an order is under way since it.
use Rattle.sc_live_answers.proofs.ChildrenProofs.YoungGroupRows.{groups_stay}
use Rattle.sc_live_journals.proofs.GroupsProofs.GroupLemmas.{scenarios_are_well_born}
use Rattle.sc_live_answers.proofs.LedGroupsProofs.LedGroupLaws.{children_are_begun, replicas_run_logs, groups_are_taught}
use Rattle.sc_live_answers.specs.AnswerDefinitions.{YoungGroupsStay, ChildrenWereNowhere, ChildrenAreCreated}
use Rattle.sc_live_answers.proofs.ChildrenProofs.ChildrenUnderOrders.{children_were}
use Rattle.sc_live_journals.proofs.MailProofs.MailLemmas.{replicas_last, slots_are_left}
use Rattle.sc_live_answers.proofs.WorkProofs.WaitingWorkLaws.{deliveries_keep_work}
use Rattle.sc_live_answers.proofs.ChildrenProofs.YoungMembers.{children_created}
use Rattle.sc_scenario.proofs.ScenarioProofs.Lemmas.{valid_scenarios_are_bounded}
use Rattle.sc_law_groups.proofs.WholeProofs.WholeLemmas.{valid_scenarios_begin_well}
use Rattle.sc_law_entries.proofs.NamesProofs.NameLemmas.{orders_are_allowed_allowed, orders_are_allowed_wishes, orders_are_allowed_positions, names_have_one_owner_others}
use Rattle.sc_live_journals.proofs.LogsProofs.GroupLogLemmas.{views_are_replicas}
use Rattle.sc_live_steps.proofs.FollowingProofs.FollowingLemmas.{quiet_members_know}

-- A group that was nowhere in a quiet journal stays as it begins while an order is under way: once the order is given, and by each delivery.
pub young_groups_stay : YoungGroupsStay
young_groups_stay = groups_stay scenarios_are_well_born children_are_begun

-- Each child that a row makes then is of a group that was nowhere in the quiet.
pub children_were_nowhere : ChildrenWereNowhere
children_were_nowhere = children_were deliveries_keep_work

-- Of the groups that were nowhere in the quiet, one that is there is the child of an order that splits; it is where its parent knows it, at each first member in the next quiet journal; and the children that a row makes are young.
pub children_are_created : ChildrenAreCreated
children_are_created =
    children_created
    (record {
      bounded = valid_scenarios_are_bounded;
      begin = valid_scenarios_begin_well;
      allowed = orders_are_allowed_allowed;
      wishes = orders_are_allowed_wishes;
      positions = orders_are_allowed_positions;
      free = names_have_one_owner_others;
      views = views_are_replicas;
      runs = replicas_run_logs;
    })
    (record { last = replicas_last; left = slots_are_left; taught = groups_are_taught; know = quiet_members_know }) scenarios_are_well_born children_are_begun deliveries_keep_work
