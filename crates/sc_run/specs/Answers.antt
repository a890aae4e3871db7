-- What a run does. Where no read or write error comes and memory suffices, it answers a plain scenario at its budget, and a calm one; and with status 0 it answers any calm one.
use Rattle.std.specs.Prelude.{◌≡◌, ◌⊎◌, ℕ, List, Option, None, Some, Ok}
use Rattle.sc_texts.specs.edges.Causes.{Rose}
use Rattle.sc_texts.specs.edges.Uses.{SourceUse, SinkUse}
use Rattle.sc_words.specs.declared.commands.orders.OrderLine.{OrderLine}
use Rattle.sc_mail.specs.declared.bodies.Mail.{Mail}
use Rattle.sc_actor.specs.declared.rows.Row.{Row}
use Rattle.sc_scenario.specs.scenario.Grammar.{verdict_of}
use Rattle.sc_scenario.specs.scenario.Made.{made_scenario}
use Rattle.sc_scenario.specs.declared.scenario.scenarios.Scenario.{Scenario}
use Rattle.sc_live_plain.specs.Budget.{IsAtBudget, AreAnswered}
use Rattle.sc_live_plain.specs.CalmBudget.{IsCalm, IsCalmAtBudget}
use Rattle.sc_live_answers.specs.ReportedOrders.{AreOrdersReported}
use Rattle.sc_cli.specs.Subcommands.{subcommand_by}
use Rattle.sc_cli.specs.declared.subcommands.Subcommand.{Subcommand}
use Rattle.sc_cli.specs.declared.subcommands.Subcommand.TheVariants as ask
use Rattle.sc_run.specs.declared.done.Done.{Done}
use Rattle.sc_run.specs.Run.{Ends}

-- the input, where the source's bytes are known, is the text of this scenario
abbrev pub IsText : SourceUse → Scenario → Type 0
IsText source scenario = (input : List ℕ) × (source.left ≡ Some input) × (verdict_of input ≡ Ok scenario)

-- the scenario that is to be run: that of the input, or the one that is made
abbrev pub IsAskedFor : Option Subcommand → SourceUse → Scenario → Type 0
IsAskedFor None source scenario = ⊥
IsAskedFor (Some ask.Run) source scenario = IsText source scenario
IsAskedFor (Some ask.Journal) source scenario = IsText source scenario
IsAskedFor (Some ask.Audit) source scenario = ⊥
IsAskedFor (Some ask.Pool) source scenario = IsText source scenario
IsAskedFor (Some ask.Explain) source scenario = ⊥
IsAskedFor (Some (ask.Scan sight)) source scenario = IsText source scenario
IsAskedFor (Some (ask.Make n seed)) source scenario = scenario ≡ made_scenario n seed

-- the status is 0, and in the journal that is handed back every request of a client whose `go` line is followed by a line of deliveries is answered, and the result of each order is reported
pub record AnswersAll (scenario : Scenario) (done : Done) : Type 0 where
  pub status : done.status ≡ 0
  pub journal : List (Row Mail OrderLine)
  pub journal_is : done.journal ≡ Some journal
  pub answered : AreAnswered scenario journal
  pub reported : AreOrdersReported scenario journal

-- Where the arguments ask for a scenario of this kind, and no read or write error came, a run answers all; or its status is one of these.
abbrev pub AnswersWhere : (Scenario → Type 0) → (ℕ → Type 0) → List (List ℕ) → SourceUse → SinkUse → Done → Type 0
AnswersWhere IsSuch May words source sink done =
    (scenario : Scenario) → IsAskedFor (subcommand_by words) source scenario → IsSuch scenario
    → (Rose source.errors_before source.errors_after → ⊥) → (Rose sink.errors_before sink.errors_after → ⊥)
    → AnswersAll scenario done ⊎ May done.status

-- Where the scenario is plain and at its budget, a run answers all; or it ran out of memory.
abbrev pub AnswersWithinBudget : List (List ℕ) → SourceUse → SinkUse → Done → Type 0
AnswersWithinBudget words source sink done = AnswersWhere IsAtBudget (λ status. status ≡ 8) words source sink done

-- Where the scenario is calm and at its budget, a run answers all; or its journal is full, or it ran out of memory.
abbrev pub AnswersCalmly : List (List ℕ) → SourceUse → SinkUse → Done → Type 0
AnswersCalmly words source sink done = AnswersWhere IsCalmAtBudget (λ status. (status ≡ 7) ⊎ (status ≡ 8)) words source sink done

-- Where the arguments ask for a calm scenario, a run with status 0 answers every request of each client whose `go` line is followed by a line of deliveries, and reports the result of each order.
abbrev pub AnswersOnStatusZero : List (List ℕ) → SourceUse → Done → Type 0
AnswersOnStatusZero words source done =
    (scenario : Scenario) → IsAskedFor (subcommand_by words) source scenario → IsCalm scenario → done.status ≡ 0 → AnswersAll scenario done

-- What a run does: it prints a text whose cause is the arguments and the input, or it runs out of memory; and it answers all of a scenario at its budget, and of a calm one where its status is 0.
pub record Runs (words : List (List ℕ)) (source : SourceUse) (sink : SinkUse) (done : Done) : Type 0 where
  pub ends : Ends words source sink done
  pub budget : AnswersWithinBudget words source sink done
  pub calm : AnswersCalmly words source sink done
  pub zero : AnswersOnStatusZero words source done
