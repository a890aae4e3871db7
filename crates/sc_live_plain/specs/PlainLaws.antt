-- The laws of plain scenarios at their budget.
use Rattle.std.specs.Prelude.{◌≡◌, ℕ, ◌^◌, ◌≤◌, false, List}
use Rattle.sc_base.specs.Definitions.{most_requests}
use Rattle.sc_node_table.specs.Values.{OrderLine, Mail, Row}
use Rattle.sc_mail.specs.Definitions.{body_weight}
use Rattle.sc_actor.specs.Definitions.{journal_bytes, unsettled}
use Rattle.sc_scenario.specs.declared.scenario.scenarios.Scenario.{Scenario}
use Rattle.sc_scenario.specs.scenario.Definitions.{made_scenario, IsValid}
use Rattle.sc_meaning.specs.sound.SoundDefinitions.{Lawful, Whole, as_nodes, schedule, system_of}
use Rattle.sc_live_plain.specs.Budget.{IsAtBudget, AreAnswered}

-- in each lawful journal of a valid plain scenario at its budget no line of deliveries is cut off with mail pending
abbrev pub PlainLinesEndQuiet : Type 0
PlainLinesEndQuiet =
    (words : ℕ → ℕ → ℕ × ℕ) (scenario : Scenario) (journal : List (Row Mail OrderLine))
    → IsValid scenario → IsAtBudget scenario → Lawful as_nodes words scenario journal
    → unsettled (system_of as_nodes words scenario) (schedule scenario) journal ≡ false

-- in each whole lawful journal of a valid plain scenario at its budget every request is answered of a client whose `go` line is followed by a line of deliveries
abbrev pub PlainRequestsAreAnswered : Type 0
PlainRequestsAreAnswered =
    (words : ℕ → ℕ → ℕ × ℕ) (scenario : Scenario) (journal : List (Row Mail OrderLine))
    → IsValid scenario → IsAtBudget scenario → Lawful as_nodes words scenario journal → Whole as_nodes words scenario journal
    → AreAnswered scenario journal

-- no lawful journal of a valid plain scenario at its budget counts more than 2^30 bytes, the limit of journals
abbrev pub PlainJournalsAreLight : Type 0
PlainJournalsAreLight =
    (words : ℕ → ℕ → ℕ × ℕ) (scenario : Scenario) (journal : List (Row Mail OrderLine))
    → IsValid scenario → IsAtBudget scenario → Lawful as_nodes words scenario journal
    → journal_bytes (λ mail. body_weight mail.body) journal ≤ 2 ^ 30

-- every scenario that `make` generates is plain and at its budget
abbrev pub MadeScenariosAreAtBudget : Type 0
MadeScenariosAreAtBudget = (n seed : ℕ) → n ≤ most_requests → IsAtBudget (made_scenario n seed)
