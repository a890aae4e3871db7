use Rattle.std.proofs.Common.{◌≡◌, ℕ, List, ap, subst, inl, rules}
use Rattle.std.specs.Prelude.{Result, Ok}
use Rattle.std.specs.Result.{result_ok}
use Rattle.sc_scenario.specs.scenario.Grammar.{HasVerdict, verdict_of}
use Rattle.sc_scenario.specs.scenario.Valid.{IsValid}
use Rattle.sc_scenario.specs.declared.scenario.reading.ScenarioError.{ScenarioError}
use Rattle.sc_scenario.specs.declared.scenario.scenarios.Scenario.{Scenario}
use Rattle.sc_tests_rows.proofs.scenarios.scenario_of.Goals as goal

-- a scenario that was read is valid
read_so : (text : List ℕ) (result : Result Scenario ScenarioError) (scenario : Scenario) → HasVerdict (verdict_of text) result → result ≡ Ok scenario → IsValid scenario
read_so text result scenario has is =
    let read : verdict_of text ≡ Ok scenario = subst (HasVerdict (verdict_of text)) is has in
    inl (record { text = text; read = ap result_ok read })

pub returns : goal.returns
returns g c =
    let is : c.read_scenario.result ≡ Ok c.expect.result = search rules in
    read_so c.args.input.now c.read_scenario.result c.expect.result c.read_scenario.ensures is
