use Rattle.sc_live_answers.proofs.AnswersProofs.OrdersInQuiet.{started_answered, orders_reported}
use Rattle.sc_live_answers.proofs.answered_laws.orders_in_quiet_are_answered.Goals as goal

pub returns-clause-requests : goal.returns-clause-requests
returns-clause-requests c = started_answered c.valid_scenarios_are_bounded.ensures c.valid_journals_are_sound.ensures c.calm_journals_go_on.ensures.timely

pub returns-clause-orders : goal.returns-clause-orders
returns-clause-orders c = orders_reported c.valid_scenarios_are_bounded.ensures c.calm_journals_go_on.ensures.timely_reported
