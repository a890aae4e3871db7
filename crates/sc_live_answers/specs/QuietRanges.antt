-- The groups that stand in a quiet journal are those of the ranges of its decided ring.
use Rattle.std.specs.Prelude.{◌≡◌, ℕ, ◌<◌, ◌^◌, List, None, Some}
use Rattle.sc_base.specs.Definitions.{Among, IsArc}
use Rattle.sc_node_table.specs.Values.{Draw, Base, OrderLine, Mail, Row}
use Rattle.sc_law_entries.specs.logs.LogDefinitions.{AreItsLogs}
use Rattle.sc_group_table.specs.machine.MachineDefinitions.{Group}
use Rattle.sc_node_table.specs.NodeDefinitions.{ReplicaState}
use Rattle.sc_scenario.specs.declared.scenario.scenarios.Scenario.{Scenario}
use Rattle.sc_meaning.specs.sound.SoundDefinitions.{groups_at, world_at, decided_state, as_nodes, IsOneMap}
use Rattle.sc_live_steps.specs.calm.CalmDefinitions.{HasReplica, IsNewest}
use Rattle.sc_live_plain.specs.PlainDefinitions.{replicas_after, AreFramesOf, IsQuietJournal, Frame}
use Rattle.sc_live_answers.specs.GroupRing.{AreOfCuts}

-- the state of a group after its decided log in these rows
abbrev pub state_of : Scenario → List (Row Mail OrderLine) → Base → Group
state_of scenario rows base = decided_state as_nodes base rows

-- each replica is of a group of the journal, each group has a replica, a replica that has executed as much as any of its group has executed the group's whole log, and a group that stands has an arc of the ring
pub record AreKnown (scenario : Scenario) (rows : List (Row Mail OrderLine)) : Type 0 where
  pub named : (group : Draw) (node : ℕ) (r : ReplicaState) → replicas_after scenario rows group node ≡ Some r → (base : Base) × Among base (groups_at as_nodes scenario.groups rows) × (base.core.id ≡ group)
  pub there : (base : Base) → Among base (groups_at as_nodes scenario.groups rows) → (node : ℕ) × HasReplica (replicas_after scenario rows) base.core.id node
  pub newest : (base : Base) (r : ReplicaState) → Among base (groups_at as_nodes scenario.groups rows) → IsNewest (replicas_after scenario rows) base.core.id r → r.group ≡ state_of scenario rows base
  pub arcs : (base : Base) → Among base (groups_at as_nodes scenario.groups rows) → (state_of scenario rows base).core.gone ≡ None → IsArc (state_of scenario rows base).core.arc × ((state_of scenario rows base).core.arc.lo < 2 ^ 32)

-- in a quiet journal whose groups make one map (`IsOneMap`), the groups that stand are those of the ranges of the ring, each with the record that the map has of it
abbrev pub QuietGroupsHaveCuts : Type 0
QuietGroupsHaveCuts =
    (words : ℕ → ℕ → ℕ × ℕ) (scenario : Scenario) (first : Base) (rows : List (Row Mail OrderLine)) (frames : List Frame)
    → IsOneMap (world_at as_nodes scenario.groups rows) → AreItsLogs as_nodes scenario.groups rows → AreKnown scenario rows
    → IsQuietJournal words scenario first rows → AreFramesOf (replicas_after scenario rows) frames → AreOfCuts (world_at as_nodes scenario.groups rows) frames
