-- What the report says of an order is what happened: the result that the journal reports first of it.
use Rattle.std.specs.Prelude.{◌≡◌, ℕ, List, ◌∷◌, ◌++◌, None, Some}
use Rattle.sc_words.specs.declared.commands.orders.OrderLine.{OrderLine}
use Rattle.sc_words.specs.declared.commands.orders.OrderResult.{OrderResult}
use Rattle.sc_mail.specs.declared.bodies.Mail.{Mail}
use Rattle.sc_actor.specs.declared.rows.Row.{Row}
use Rattle.sc_actor.specs.Mail.{mails}
use Rattle.sc_scenario.specs.declared.scenario.scenarios.Scenario.{Scenario}
use Rattle.sc_meaning.specs.sound.Players.{as_nodes}
use Rattle.sc_law_refusal.specs.results.ReportedResults.{HasHappened}
use Rattle.sc_world.specs.Summary.{reported_of}

-- a row of a journal is the first that reports of an order with a number, and the result that it reports has happened
pub record IsReportedFirst (scenario : Scenario) (journal : List (Row Mail OrderLine)) (number : ℕ) (result : OrderResult) : Type 0 where
  pub before : List (Row Mail OrderLine)
  pub row : Row Mail OrderLine
  pub later : List (Row Mail OrderLine)
  pub are : journal ≡ before ++ row ∷ later
  pub first : reported_of number (mails before) ≡ None
  pub reports : reported_of number row.sent ≡ Some result
  pub happened : HasHappened as_nodes scenario before row number result

-- each result that the report of a journal gives of an order was reported by a row in which it had happened
abbrev pub LinesHaveHappened : Scenario → List (Row Mail OrderLine) → Type 0
LinesHaveHappened scenario journal = (number : ℕ) (result : OrderResult) → reported_of number (mails journal) ≡ Some result → IsReportedFirst scenario journal number result
