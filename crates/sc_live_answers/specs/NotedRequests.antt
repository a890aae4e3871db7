-- The requests which groups have noted in a quiet prefix of a calm journal were begun.
use Rattle.std.specs.Prelude.{◌≡◌, ℕ, ◌≤◌, List, ◌∷◌, Some}
use Rattle.sc_base.specs.Definitions.{Among}
use Rattle.sc_node_table.specs.Values.{Draw, Base}
use Rattle.sc_actor.specs.Definitions.{value}
use Rattle.sc_live_orderly.specs.OrderlyDefinitions.{AreInTime}
use Rattle.sc_scenario.specs.scenario.Definitions.{IsValid}
use Rattle.sc_scenario.specs.declared.scenario.scenarios.Asks.{Asks}
use Rattle.sc_scenario.specs.declared.scenario.scenarios.Scenario.{Scenario}
use Rattle.sc_meaning.specs.sound.SoundDefinitions.{births, as_nodes, player_table, client_seat, route_of, issue_row}
use Rattle.sc_live_steps.specs.calm.CalmDefinitions.{players, StandsQuiet, Rows}
use Rattle.sc_live_plain.specs.PlainDefinitions.{replicas_after, frame_at_rest, IsBegun, begun_of, IsPlainGroup}
use Rattle.sc_live_answers.specs.QuietPrefixes.{IsQuietPrefix}
use Rattle.sc_live_answers.specs.Links.{AreAllFree}

-- in rows that come in time each request that a client issued is begun
abbrev pub IssuedAreBegun : Type 0
IssuedAreBegun =
    (words : ℕ → ℕ → ℕ × ℕ) (scenario : Scenario) (first : Base) (others : List Base) (rows : Rows) (asks : Asks) (seq at : ℕ) → IsValid scenario → scenario.groups ≡ first ∷ others → AreInTime (players words (births as_nodes scenario)) rows → Among asks scenario.clients
    → issue_row asks.client seq rows ≡ Some at → seq ≤ begun_of (value player_table (client_seat (route_of first) asks) rows)

-- in a quiet prefix where no group is locked, the group of each leader that stands has noted only begun requests, and holds only values that such requests wrote
abbrev pub PrefixNotesAreBegun : Type 0
PrefixNotesAreBegun =
    (words : ℕ → ℕ → ℕ × ℕ) (scenario : Scenario) (journal prefix : Rows) → IsQuietPrefix words scenario journal prefix → AreAllFree scenario prefix
    → (group : Draw) (stands : StandsQuiet (replicas_after scenario prefix) group) → IsPlainGroup (IsBegun scenario prefix) (frame_at_rest stands.lead) stands.lead.group
