-- Scenarios within their budget, plain or calm, and what holds of the journals of each.
use Rattle.std.specs.Prelude.{◌≡◌, ◌⊎◌, ℕ, List, false}
use Rattle.sc_words.specs.declared.commands.orders.OrderLine.{OrderLine}
use Rattle.sc_mail.specs.declared.bodies.Mail.{Mail}
use Rattle.sc_actor.specs.declared.rows.Row.{Row}
use Rattle.sc_actor.specs.Walk.{unsettled}
use Rattle.sc_scenario.specs.scenario.Valid.{IsValid}
use Rattle.sc_scenario.specs.declared.scenario.scenarios.Scenario.{Scenario}
use Rattle.sc_meaning.specs.sound.Players.{system_of, schedule, Lawful, Whole, as_nodes}
use Rattle.sc_live_plain.specs.Budget.{IsAtBudget, AreAnswered}
use Rattle.sc_live_plain.specs.CalmBudget.{IsCalmAtBudget}
use Rattle.sc_live_plain.specs.LastLine.{LastLinesAnswer}
use Rattle.sc_live_plain.specs.PlainLaws.{PlainJournalsAreLight}
use Rattle.sc_live_answers.specs.AnsweredRequests.{SettledRequestsAreAnswered}
use Rattle.sc_live_answers.specs.ReportedOrders.{SettledOrdersAreReported}
use Rattle.sc_live_healed.specs.HealedStores.{HealedStoresAnswer}

-- the scenario is plain and at its budget, or calm and at its budget
abbrev pub IsWithinBudget : Scenario → Type 0
IsWithinBudget scenario = IsAtBudget scenario ⊎ IsCalmAtBudget scenario

-- In each lawful journal of a valid scenario within its budget no line is cut off with mail pending, in each whole one every request of a client whose `go` line is followed by a line of deliveries is answered, and no journal of a plain one passes the limit. In each whole journal of a calm one in which no line was cut off such requests are answered too, whatever its lines allow, and the result of each order is reported; in each whole journal of a plain one whose last line is at the budget, whatever lines before it were cut off, such requests are answered too. In each whole journal of a scenario whose lines heal, in which no line was cut off, the store heals.
pub record BudgetsSuffice : Type 0 where
  pub settled : (words : ℕ → ℕ → ℕ × ℕ) (scenario : Scenario) (journal : List (Row Mail OrderLine)) → IsValid scenario → IsWithinBudget scenario → Lawful as_nodes words scenario journal
      → unsettled (system_of as_nodes words scenario) (schedule scenario) journal ≡ false
  pub answered : (words : ℕ → ℕ → ℕ × ℕ) (scenario : Scenario) (journal : List (Row Mail OrderLine)) → IsValid scenario → IsWithinBudget scenario → Lawful as_nodes words scenario journal → Whole as_nodes words scenario journal
      → AreAnswered scenario journal
  pub light : PlainJournalsAreLight
  pub uncut : SettledRequestsAreAnswered
  pub last : LastLinesAnswer
  pub reported : SettledOrdersAreReported
  pub healed : HealedStoresAnswer
