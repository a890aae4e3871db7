-- A group which is not gone, and is bound in no transaction, has an arc of the ring.
use Rattle.std.specs.Prelude.{◌≡◌, ℕ, ◌<◌, ◌^◌, None}
use Rattle.sc_base.specs.Definitions.{Among, IsArc}
use Rattle.sc_node_table.specs.Values.{Base, Free}
use Rattle.sc_scenario.specs.scenario.Definitions.{IsValid}
use Rattle.sc_scenario.specs.declared.scenario.scenarios.Scenario.{Scenario}
use Rattle.sc_meaning.specs.sound.SoundDefinitions.{groups_at, decided_state, as_nodes, Lawful}
use Rattle.sc_law_entries.specs.logs.LogDefinitions.{Rows}

-- each group of a lawful journal of a valid scenario has an arc that begins on the ring, where it is not locked and not gone by its decided log
abbrev pub FreeGroupsHaveArcs : Type 0
FreeGroupsHaveArcs =
    (words : ℕ → ℕ → ℕ × ℕ) (scenario : Scenario) (rows : Rows) (base : Base) → IsValid scenario → Lawful as_nodes words scenario rows → Among base (groups_at as_nodes scenario.groups rows)
    → (decided_state as_nodes base rows).core.lock ≡ Free → (decided_state as_nodes base rows).core.gone ≡ None → IsArc (decided_state as_nodes base rows).core.arc × ((decided_state as_nodes base rows).core.arc.lo < 2 ^ 32)
