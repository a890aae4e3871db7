use Rattle.sc_live_answers.proofs.AnswersProofs.ChartedScenarios.{LineLaws, journals_go_on}
use Rattle.sc_live_answers.proofs.AnswersProofs.SegmentParts.{SegmentLaws}
use Rattle.sc_live_answers.proofs.AnswersProofs.SegmentRows.{RowLaws}
use Rattle.sc_live_answers.proofs.RestProofs.PrefixLaws.{journals_begin_resting, orders_leave_resting}
use Rattle.sc_live_answers.proofs.RequestsProofs.RequestPhaseLaws.{asked_rows_find_calm, asked_rows_go_on, requests_begin_asked, requests_keep_groups, requests_rest_again}
use Rattle.sc_live_answers.proofs.ErrandsProofs.ErrandReceiverLaws.{requests_send_no_errands}
use Rattle.sc_live_answers.proofs.ErrandsProofs.ErrandReceivers.{homeward_actors as node_errands_reach_players}
use Rattle.sc_live_answers.proofs.ReplicasProofs.NameLaws.{clients_are_near, names_stay_few}
use Rattle.sc_live_answers.proofs.OrdersProofs.OrderInvariantLaws.{deliveries_keep_ordered, orders_begin_ordered}
use Rattle.sc_live_answers.proofs.QuietProofs.QuietPrefixLaws.{prefixes_are_found}
use Rattle.sc_live_answers.proofs.LedMailProofs.WellLedLeaders.{well_led_lead_alone}
use Rattle.sc_live_answers.proofs.RequestsProofs.RequestLaws.{lawful_replicas_are_named_once}
use Rattle.sc_live_answers.proofs.ReplicasProofs.PlayerViews.{views_agree}
use Rattle.sc_live_journals.proofs.MailProofs.MailLemmas.{desks_are_not_born, mail_is_posted, replicas_last}
use Rattle.sc_live_journals.proofs.ChartsProofs.ChartLemmas.{charts_follow, quiet_charts_rest}
use Rattle.sc_live_answers.proofs.LinesProofs.SettingLaws.{quiet_journals_have_frames}
use Rattle.sc_live_answers.proofs.AnswersProofs.CalmRowLaws.{chart_hints_rise, order_charts_follow}
use Rattle.sc_live_answers.proofs.AnswersProofs.AnswerLaws.{calm_journals_are_short, orders_may_be_given}
use Rattle.sc_live_plain.proofs.PlainLemmas.{calm_lines_are_spaced, roomy_scenarios_are_calm}
use Rattle.sc_live_steps.proofs.CalmStepsProofs.CalmStepLemmas.{kept_calm_is_measured, resting_owes_little}
use Rattle.sc_live_answers.proofs.answered_laws.calm_journals_go_on.Goals as goal

pub returns : goal.returns
returns c =
    let segment : SegmentLaws = record {
      begin_law = journals_begin_resting;
      ask_law = requests_begin_asked;
      stay_law = asked_rows_go_on;
      find_law = asked_rows_find_calm;
      groups_law = requests_keep_groups;
      again_law = requests_rest_again;
      silent_law = requests_send_no_errands;
      actors_law = node_errands_reach_players;
      near_law = clients_are_near;
      names_law = names_stay_few;
      told_law = orders_begin_ordered;
      keep_law = deliveries_keep_ordered;
      over_law = orders_leave_resting;
    } in
    let rows : RowLaws = record {
      all_bounded = c.valid_scenarios_are_bounded.ensures;
      found_law = prefixes_are_found;
      alone_law = well_led_lead_alone;
      once_law = lawful_replicas_are_named_once;
      agree_law = views_agree;
      last_law = replicas_last;
      rest_law = quiet_charts_rest;
      frames_law = quiet_journals_have_frames;
      rise_law = chart_hints_rise;
      order_law = order_charts_follow;
      chart_law = charts_follow;
    } in
    let lines : LineLaws = record {
      roomy_law = roomy_scenarios_are_calm;
      short_law = calm_journals_are_short;
      given_law = orders_may_be_given;
      spaced_law = calm_lines_are_spaced;
      posted_law = mail_is_posted;
      desk_law = desks_are_not_born;
    } in
    journals_go_on segment rows lines kept_calm_is_measured resting_owes_little
