-- A plain scenario of which the last line alone is at the budget.
use Rattle.std.specs.Prelude.{◌≡◌, ℕ, ◌^◌, ◌≤◌, true, List, [], ◌∷◌, ◌++◌, length}
use Rattle.sc_base.specs.Definitions.{Each}
use Rattle.sc_node_table.specs.Values.{OrderLine, Mail, Row}
use Rattle.sc_mail.specs.Definitions.{body_weight}
use Rattle.sc_actor.specs.Definitions.{is_quiet, journal_bytes}
use Rattle.sc_scenario.specs.declared.scenario.scenarios.Scenario.{Scenario}
use Rattle.sc_scenario.specs.declared.scenario.scenarios.SchedLine.{SchedLine}
use Rattle.sc_scenario.specs.scenario.Definitions.{IsValid}
use Rattle.sc_meaning.specs.sound.SoundDefinitions.{Lawful, Whole, as_nodes, system_of}
use Rattle.sc_live_plain.specs.Budget.{AllowsDeliveries, delivers, budget_of, AreAnswered}

-- A plain scenario whose last line is at the budget: each line starts a client or delivers pending mail, the first of one actor or any number of all; and the last line delivers pending mail of all actors, and has room for the budget.
pub record EndsAtBudget (scenario : Scenario) : Type 0 where
  pub before : List SchedLine
  pub last : SchedLine
  pub lines_are : scenario.lines ≡ before ++ last ∷ []
  pub plain : Each (AllowsDeliveries 0) before
  pub is_delivery : delivers last ≡ true
  pub room : AllowsDeliveries (budget_of scenario) last

-- each whole lawful journal of a valid plain scenario whose last line is at the budget ends with no mail pending, whatever lines before it were cut off
abbrev pub LastLinesEndQuiet : Type 0
LastLinesEndQuiet =
    (words : ℕ → ℕ → ℕ × ℕ) (scenario : Scenario) (journal : List (Row Mail OrderLine))
    → IsValid scenario → EndsAtBudget scenario → Lawful as_nodes words scenario journal → Whole as_nodes words scenario journal
    → is_quiet (system_of as_nodes words scenario) journal ≡ true

-- in each such journal with at most 2^28 rows every request is answered of a client whose `go` line is followed by a line of deliveries, which the last line is
abbrev pub LastLinesAnswer : Type 0
LastLinesAnswer =
    (words : ℕ → ℕ → ℕ × ℕ) (scenario : Scenario) (journal : List (Row Mail OrderLine))
    → IsValid scenario → EndsAtBudget scenario → Lawful as_nodes words scenario journal → Whole as_nodes words scenario journal → length journal ≤ 2 ^ 28
    → AreAnswered scenario journal

-- no lawful journal of a valid plain scenario whose last line is at the budget counts more than 2^30 bytes, the limit of journals
abbrev pub LastLinesAreLight : Type 0
LastLinesAreLight =
    (words : ℕ → ℕ → ℕ × ℕ) (scenario : Scenario) (journal : List (Row Mail OrderLine))
    → IsValid scenario → EndsAtBudget scenario → Lawful as_nodes words scenario journal
    → journal_bytes (λ mail. body_weight mail.body) journal ≤ 2 ^ 30
