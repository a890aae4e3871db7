use Rattle.sc_live_plain.proofs.BudgetProofs.MadeScenarios.{made_at_budget}
use Rattle.sc_live_plain.proofs.made_scenarios_are_at_budget.Goals as goal

pub returns : goal.returns
returns c = made_at_budget
