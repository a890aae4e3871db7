-- The budget of a calm scenario covers what all players owe at their births and what one order raises.
use Rattle.std.specs.Prelude.{◌≡◌, ◌+◌, ◌*◌, ◌≤◌, length}
use Rattle.sc_scenario.specs.declared.scenario.scenarios.Scenario.{Scenario}
use Rattle.sc_meaning.specs.sound.SoundDefinitions.{births, as_nodes}
use Rattle.sc_live_steps.specs.calm.CalmDefinitions.{Chart, births_owe}
use Rattle.sc_live_plain.specs.PlainDefinitions.{orders_of, calm_budget_of}

-- the chart before the first row of a scenario with G groups and N orders: no way by hints is longer than N + 1, and no client is sent on more often than G + N times
pub record IsFirstChart (scenario : Scenario) (first : Chart) : Type 0 where
  pub most : first.ways.most ≡ orders_of scenario + 1
  pub reach : first.reach.most ≡ length scenario.groups + orders_of scenario

-- by a first chart (`IsFirstChart`), where there is an order, what clients owe at their births and the most that one order raises are together at most the budget
abbrev pub BirthsAreCovered : Type 0
BirthsAreCovered =
    (scenario : Scenario) (first : Chart) → IsFirstChart scenario first → 1 ≤ orders_of scenario
    → births_owe first (births as_nodes scenario) + (242 + 4 * first.ways.most) ≤ calm_budget_of scenario
