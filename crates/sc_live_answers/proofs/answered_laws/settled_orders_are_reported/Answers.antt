use Rattle.sc_live_answers.proofs.AnswersProofs.SettledOrders.{orders_reported}
use Rattle.sc_live_answers.proofs.answered_laws.settled_orders_are_reported.Goals as goal

pub returns : goal.returns
returns c = orders_reported c.valid_scenarios_are_bounded.ensures c.calm_journals_go_on.ensures.reported
