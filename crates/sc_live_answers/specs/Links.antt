-- The nodes which links and routes name were members of the groups that these name.
use Rattle.std.specs.Prelude.{◌≡◌, ℕ, ◌≤◌, true, List, length, take, Some}
use Rattle.sc_base.specs.Definitions.{Among, is_member}
use Rattle.sc_node_table.specs.Values.{Draw, Base, Free, Route}
use Rattle.sc_group_table.specs.machine.MachineDefinitions.{group_of, state_after}
use Rattle.sc_scenario.specs.scenario.Definitions.{IsValid}
use Rattle.sc_scenario.specs.declared.scenario.scenarios.Scenario.{Scenario}
use Rattle.sc_meaning.specs.sound.SoundDefinitions.{groups_at, decided_log, decided_state, as_nodes, Lawful}
use Rattle.sc_law_entries.specs.logs.LogDefinitions.{Rows}

-- the node was a member of the group with this name, after some prefix of its decided log
pub record WasMember (scenario : Scenario) (rows : Rows) (name : Draw) (node : ℕ) : Type 0 where
  pub base : Base
  pub among : Among base (groups_at as_nodes scenario.groups rows)
  pub named : base.core.id ≡ name
  pub after : ℕ
  pub within : after ≤ length (decided_log as_nodes base rows)
  pub member : is_member (state_after (group_of base) (take after (decided_log as_nodes base rows))).core.members node ≡ true

-- the list has at least one node, and each of its nodes was a member of the group with this name
pub record WereMembers (scenario : Scenario) (rows : Rows) (name : Draw) (nodes : List ℕ) : Type 0 where
  pub some : 1 ≤ length nodes
  pub each : (node : ℕ) → is_member nodes node ≡ true → WasMember scenario rows name node

-- no group of these rows is locked in a transaction, by its decided log
abbrev pub AreAllFree : Scenario → Rows → Type 0
AreAllFree scenario rows = (base : Base) → Among base (groups_at as_nodes scenario.groups rows) → (decided_state as_nodes base rows).core.lock ≡ Free

-- after a lawful journal of a valid scenario in which no group is locked, the link of each group, and the route by which it went, name nodes that were members of the group named
pub record LinksWereMembers : Type 0 where
  pub links : (words : ℕ → ℕ → ℕ × ℕ) (scenario : Scenario) (rows : Rows) (base : Base) → IsValid scenario → Lawful as_nodes words scenario rows → AreAllFree scenario rows → Among base (groups_at as_nodes scenario.groups rows)
      → WereMembers scenario rows (decided_state as_nodes base rows).core.succ.group (decided_state as_nodes base rows).core.succ.members
  pub routes : (words : ℕ → ℕ → ℕ × ℕ) (scenario : Scenario) (rows : Rows) (base : Base) (into : Route) → IsValid scenario → Lawful as_nodes words scenario rows → AreAllFree scenario rows → Among base (groups_at as_nodes scenario.groups rows)
      → (decided_state as_nodes base rows).core.gone ≡ Some into → WereMembers scenario rows into.group into.members
