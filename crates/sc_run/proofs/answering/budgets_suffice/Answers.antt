use Rattle.std.proofs.Common.{inl, inr}
use Rattle.sc_run.proofs.WithinBudget.{suffice}
use Rattle.sc_run.proofs.answering.budgets_suffice.Goals as goal

pub returns : goal.returns
returns c = suffice c.plain_lines_end_quiet.ensures c.plain_journals_are_answered.ensures c.plain_journals_are_light.ensures c.calm_lines_settle.ensures c.calm_requests_are_answered.ensures c.settled_requests_are_answered.ensures c.last_lines_answer.ensures c.settled_orders_are_reported.ensures c.healed_stores_answer.ensures
