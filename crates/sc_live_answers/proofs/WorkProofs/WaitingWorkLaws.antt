-- What stands at groups while an order is under way.
use Rattle.sc_live_answers.proofs.WorkProofs.WorkAtStart.{orders_begin}
use Rattle.sc_live_journals.proofs.GroupsProofs.GroupLemmas.{scenarios_are_well_born}
use Rattle.sc_scenario.proofs.ScenarioProofs.Lemmas.{valid_scenarios_are_bounded}
use Rattle.sc_live_answers.specs.AnswerDefinitions.{OrdersBeginWork, DeliveriesKeepWork}
use Rattle.sc_live_answers.proofs.WorkProofs.WorkInPrefixes.{deliveries_keep}

-- From an order given in quiet on, it stands at its group, or nothing does; and where it splits that, no group had the name that it draws.
pub orders_begin_work : OrdersBeginWork
orders_begin_work = orders_begin scenarios_are_well_born valid_scenarios_are_bounded

-- While an order is under way, what stands at groups stays what the order may make of them, by each delivery: no queued request, no filler, no request and no answer in mail.
pub deliveries_keep_work : DeliveriesKeepWork
deliveries_keep_work = deliveries_keep scenarios_are_well_born
