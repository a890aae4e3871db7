-- No client takes mail while an order is under way.
use Rattle.std.specs.Prelude.{◌≡◌, ℕ}
use Rattle.sc_node_table.specs.Values.{Base, Client, Seat}
use Rattle.sc_actor.specs.Definitions.{value}
use Rattle.sc_client_table.specs.table.TableDefinitions.{Client as ClientState}
use Rattle.sc_scenario.specs.declared.scenario.scenarios.Scenario.{Scenario}
use Rattle.sc_meaning.specs.sound.SoundDefinitions.{Player, player_table}
use Rattle.sc_live_steps.specs.calm.CalmDefinitions.{Rows}
use Rattle.sc_live_answers.specs.CalmJournals.{IsCalmJournal, ContinuesBy}
use Rattle.sc_live_answers.specs.OrderInvariant.{IsOrderedSince}

-- while an order is under way each delivery is to a node
abbrev pub TakersAreNodes : Type 0
TakersAreNodes =
    (words : ℕ → ℕ → ℕ × ℕ) (scenario : Scenario) (first : Base) (journal quiet rows : Rows) (seat : Seat Player) (number : ℕ) → IsCalmJournal words scenario journal → IsOrderedSince words scenario first journal quiet rows
    → ContinuesBy words scenario journal rows seat number → (client : ClientState) → value player_table seat rows ≡ Client client → ⊥
