-- Scenarios that can be played.
use Rattle.std.specs.Prelude.{◌≡◌, ℕ, ◌<◌, ◌≤◌, true, All, Contains}
use Rattle.sc_actor.specs.declared.schedules.Line.TheVariants.{Go, Crash}
use Rattle.sc_actor.specs.System.{are_apart}
use Rattle.sc_scenario.specs.scenario.Valid.{IsValid}
use Rattle.sc_scenario.specs.declared.scenario.scenarios.Scenario.{Scenario}
use Rattle.sc_node_table.specs.Node.{are_in_order}
use Rattle.sc_meaning.specs.sound.Players.{most_actor, births, schedule, AreFew, as_nodes}

-- what playing a scenario needs: groups in the order of their names, actors with different numbers from 1 to 96, no actor with both a `go` line and a `crash` line, and no client with more requests than the limit
pub record CanPlay (scenario : Scenario) : Type 0 where
  pub ordered : are_in_order scenario.groups ≡ true
  pub apart : are_apart (births as_nodes scenario) ≡ true
  pub numbered : All (λ seat. (0 < seat.who) × (seat.who ≤ most_actor)) (births as_nodes scenario)
  pub spared : (who : ℕ) → Contains (schedule scenario) (Go who) → ¬ Contains (schedule scenario) (Crash who)
  pub few : AreFew scenario

-- each valid scenario can be played
abbrev pub ValidCanPlay : Type 0
ValidCanPlay = (scenario : Scenario) → IsValid scenario → CanPlay scenario
