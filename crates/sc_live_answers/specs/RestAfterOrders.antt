-- A calm journal rests again once an order is over.
use Rattle.std.specs.Prelude.{◌≡◌, ℕ, true, List, ◌∷◌}
use Rattle.sc_node_table.specs.Values.{Base}
use Rattle.sc_actor.specs.Definitions.{is_quiet}
use Rattle.sc_scenario.specs.declared.scenario.scenarios.Scenario.{Scenario}
use Rattle.sc_meaning.specs.sound.SoundDefinitions.{births, as_nodes}
use Rattle.sc_live_steps.specs.calm.CalmDefinitions.{players, Rows}
use Rattle.sc_live_answers.specs.CalmJournals.{IsCalmJournal}
use Rattle.sc_live_answers.specs.RestingPrefixes.{RestsAt}
use Rattle.sc_live_answers.specs.OrderInvariant.{IsOrderedSince}

-- once the journal is quiet again after an order, it rests again (`RestsAt`)
abbrev pub OrdersLeaveResting : Type 0
OrdersLeaveResting =
    (words : ℕ → ℕ → ℕ × ℕ) (scenario : Scenario) (first : Base) (others : List Base) (journal quiet rows : Rows) → scenario.groups ≡ first ∷ others → IsCalmJournal words scenario journal → IsOrderedSince words scenario first journal quiet rows
    → is_quiet (players words (births as_nodes scenario)) rows ≡ true → RestsAt words scenario first journal rows
