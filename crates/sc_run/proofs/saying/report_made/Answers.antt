use Rattle.std.proofs.Common.{rules, ◌≡◌, subst}
use Rattle.std.proofs.lemmas.Result.{IfOk-weaker}
use Rattle.sc_scenario.specs.scenario.Made.{made_scenario}
use Rattle.sc_scenario.specs.scenario.Valid.{IsValid}
use Rattle.sc_scenario.specs.declared.scenario.scenarios.Scenario.{Scenario}
use Rattle.sc_run.specs.Run.{Comes, ShowsReport}
use Rattle.sc_run.proofs.saying.report_made.Goals as goal

pub returns : goal.returns
returns g c =
    let is : c.in_ok-scenario.scenario ≡ made_scenario c.args.n c.args.seed = c.in_ok-scenario.ensures in
    let valid : IsValid (made_scenario c.args.n c.args.seed) = search rules in
    IfOk-weaker c.report.result _ _ (λ begun comes. record {
      valid = valid;
      at_budget = c.made_scenarios_are_at_budget.ensures c.args.n c.args.seed c.requires.1;
      comes = subst (λ (s : Scenario). Comes (ShowsReport s) s begun.0 begun.1) is comes;
    }) c.report.ensures
