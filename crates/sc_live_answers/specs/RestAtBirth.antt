-- A calm journal rests before its first row.
use Rattle.std.specs.Prelude.{◌≡◌, ℕ, List, [], ◌∷◌}
use Rattle.sc_node_table.specs.Values.{Base}
use Rattle.sc_scenario.specs.declared.scenario.scenarios.Scenario.{Scenario}
use Rattle.sc_live_steps.specs.calm.CalmDefinitions.{Rows}
use Rattle.sc_live_answers.specs.CalmJournals.{IsCalmJournal}
use Rattle.sc_live_answers.specs.RestingPrefixes.{RestsAt}

-- before its first row a calm journal rests (`RestsAt`)
abbrev pub JournalsBeginResting : Type 0
JournalsBeginResting =
    (words : ℕ → ℕ → ℕ × ℕ) (scenario : Scenario) (first : Base) (others : List Base) (journal : Rows) → scenario.groups ≡ first ∷ others → IsCalmJournal words scenario journal → RestsAt words scenario first journal []
