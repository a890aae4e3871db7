-- Made scenarios are at their budget.
use Rattle.std.proofs.Common.{◌≡◌, ℕ, zero, suc, ◌+◌, ◌*◌, length, sum_by, ap, arith}
use Rattle.std.proofs.lemmas.List.Sums.{sum_by_push}
use Rattle.sc_base.specs.Definitions.{Each}
use Rattle.sc_words.proofs.PaxosProofs.PaxosLemmas.{Each-push}
use Rattle.sc_scenario.specs.scenario.Definitions.{made_ops, made_clients, made_goes, made_scenario}
use Rattle.sc_scenario.specs.declared.scenario.scenarios.Asks.{Asks}
use Rattle.sc_scenario.specs.declared.scenario.scenarios.SchedLine.TheVariants.{Go, Settle}
use Rattle.sc_live_plain.specs.PlainDefinitions.{AllowsDeliveries, budget_of, requests_of, MadeScenariosAreAtBudget}
use Rattle.sc_scenario.proofs.ScenarioProofs.Lemmas.{ops_counted as ops_count}

-- k clients with n requests each have k times n together
clients_count : (seed n k : ℕ) → sum_by (λ (asks : Asks). length asks.ops) (made_clients seed n k) ≡ k * n
unfolding made_clients
clients_count seed n zero = omega arith
clients_count seed n (suc k) =
    let rest = clients_count seed n k in
    let here = ops_count seed n k n in
    let push = sum_by_push (λ (asks : Asks). length asks.ops) (made_clients seed n k) (record { client = k + 1; ops = made_ops seed n k n }) in
    let product : suc k * n ≡ k * n + n = omega arith in
    omega (arith, rest, here, push, product)

goes_allowed : (budget k : ℕ) → Each (AllowsDeliveries budget) (made_goes k)
unfolding made_goes
goes_allowed budget zero = tt
goes_allowed budget (suc k) = Each-push (AllowsDeliveries budget) (made_goes k) (Go (k + 1)) (goes_allowed budget k) tt

pub made_at_budget : MadeScenariosAreAtBudget
made_at_budget n seed few =
    let budget = budget_of (made_scenario n seed) in
    let all : requests_of (made_scenario n seed) ≡ 16 * n = clients_count seed n 16 in
    let fact : budget_of (made_scenario n seed) ≡ 16 * n * 44 = ap (λ requests. requests * 44) all in
    Each-push (AllowsDeliveries budget) (made_goes 16) (Settle 1000000) (goes_allowed budget 16) (omega (arith, fact, few))
