-- Members of groups are nodes of their scenario.
use Rattle.std.specs.Prelude.{◌≡◌, ℕ, ◌≤◌, true}
use Rattle.sc_node_table.specs.Values.{Base}
use Rattle.sc_base.specs.Definitions.{is_member}
use Rattle.sc_scenario.specs.declared.scenario.scenarios.Scenario.{Scenario}
use Rattle.sc_meaning.specs.sound.SoundDefinitions.{Ahead}
use Rattle.sc_law_entries.specs.logs.LogDefinitions.{Rows}
use Rattle.sc_live_journals.specs.logs.LogDefinitions.{logged_sets, IsGroupOf}

-- the first members of each group of a lawful journal of a valid scenario, and the members of each slot of its log, are nodes of the scenario
pub record MembersAreHome : Type 0 where
  pub first : (ahead : Ahead) (words : ℕ → ℕ → ℕ × ℕ) (scenario : Scenario) (journal : Rows) (base : Base) → IsGroupOf ahead words scenario journal base → (node : ℕ) → is_member base.core.members node ≡ true → (1 ≤ node) × (node ≤ scenario.nodes)
  pub slots : (ahead : Ahead) (words : ℕ → ℕ → ℕ × ℕ) (scenario : Scenario) (journal : Rows) (base : Base) → IsGroupOf ahead words scenario journal base
      → (slot node : ℕ) → is_member (logged_sets ahead base journal slot) node ≡ true → (1 ≤ node) × (node ≤ scenario.nodes)
