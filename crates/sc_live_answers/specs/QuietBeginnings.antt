-- A valid scenario begins with a quiet journal.
use Rattle.std.specs.Prelude.{◌≡◌, ℕ, List, [], ◌∷◌}
use Rattle.sc_node_table.specs.Values.{Base}
use Rattle.sc_scenario.specs.declared.scenario.scenarios.Scenario.{Scenario}
use Rattle.sc_scenario.specs.scenario.Definitions.{IsValid}
use Rattle.sc_live_plain.specs.PlainDefinitions.{IsQuietJournal}

-- before its first row the journal of a valid scenario is quiet (`IsQuietJournal`)
abbrev pub QuietJournalsBegin : Type 0
QuietJournalsBegin =
    (words : ℕ → ℕ → ℕ × ℕ) (scenario : Scenario) (first : Base) (others : List Base) → IsValid scenario → scenario.groups ≡ first ∷ others → IsQuietJournal words scenario first []
