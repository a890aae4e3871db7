-- The setting that a quiet journal gives to the requests behind it: the frames of the groups that stand, and that links and routes name nodes that have a replica.
use Rattle.std.specs.Prelude.{◌≡◌, ℕ, ◌≤◌, true, List, ◌∷◌, Some, None, length, map, filter, flat_map}
use Rattle.sc_base.specs.Definitions.{Among, is_member}
use Rattle.sc_node_table.specs.Values.{Draw, Base, Route, OrderLine, Mail, Row}
use Rattle.sc_actor.specs.Definitions.{value}
use Rattle.sc_node_table.specs.NodeDefinitions.{ReplicaState, numbers_from}
use Rattle.sc_scenario.specs.declared.scenario.scenarios.Scenario.{Scenario}
use Rattle.sc_scenario.specs.scenario.Definitions.{IsValid}
use Rattle.sc_meaning.specs.sound.SoundDefinitions.{player_table, node_seat, as_nodes, Lawful}
use Rattle.sc_live_steps.specs.calm.CalmDefinitions.{Ways, View as Replicas, HasReplica, StandsQuiet}
use Rattle.sc_live_plain.specs.PlainDefinitions.{replicas_after, setting_at, AreFramesOf, IsQuietJournal, frame_at_rest, replicas_of, IsRingOf, IsLinkedSetting, Frame}

-- the replicas of all nodes of the scenario after some rows, node by node
abbrev pub nodes_replicas : Scenario → List (Row Mail OrderLine) → List ReplicaState
nodes_replicas scenario rows =
    flat_map (λ me. replicas_of (value player_table (node_seat as_nodes scenario.groups scenario.policy me) rows)) (numbers_from 1 scenario.nodes)

-- the frames of the groups of replicas that run
abbrev pub frames_after : Scenario → List (Row Mail OrderLine) → List Frame
frames_after scenario rows = map frame_at_rest (filter (λ r. r.running) (nodes_replicas scenario rows))

-- all replicas are at nodes of the scenario
abbrev pub AreAtNodes : Scenario → List (Row Mail OrderLine) → Type 0
AreAtNodes scenario rows = (group : Draw) (node : ℕ) → HasReplica (replicas_after scenario rows) group node → (1 ≤ node) × (node ≤ scenario.nodes)

-- in a quiet journal `frames_after` has the frames of exactly the groups that stand
abbrev pub QuietJournalsHaveFrames : Type 0
QuietJournalsHaveFrames =
    (words : ℕ → ℕ → ℕ × ℕ) (scenario : Scenario) (first : Base) (rows : List (Row Mail OrderLine)) → IsValid scenario → Lawful as_nodes words scenario rows → IsQuietJournal words scenario first rows → AreAtNodes scenario rows
    → AreFramesOf (replicas_after scenario rows) (frames_after scenario rows)

-- each link and each route names at least one node, each node of a route has a replica of the route's group, and no replica of a group that stands knows it as gone
pub record AreReachable (at : Replicas) : Type 0 where
  pub links : (group : Draw) (quiet : StandsQuiet at group) → 1 ≤ length quiet.lead.group.core.succ.members
  pub routes : (group : Draw) (node : ℕ) (r : ReplicaState) (into : Route) → at group node ≡ Some r → r.group.core.gone ≡ Some into
      → (1 ≤ length into.members) × ((who : ℕ) → is_member into.members who ≡ true → HasReplica at into.group who)
  pub stand : (group : Draw) (quiet : StandsQuiet at group) (node : ℕ) (r : ReplicaState) → at group node ≡ Some r → r.group.core.gone ≡ None

-- a setting whose links and routes are as `AreReachable` says is linked (`IsLinkedSetting`), where its groups stand round the ring
abbrev pub QuietSettingsAreLinked : Type 0
QuietSettingsAreLinked =
    (at : Replicas) (frames : List Frame) (ways : Ways) → AreFramesOf at frames → AreReachable at → ((group : Draw) (quiet : StandsQuiet at group) → quiet.lead.group.core.id ≡ group)
    → ((frame : Frame) → Among frame frames → (rest : List Frame) × IsRingOf (setting_at at frames ways) (frame ∷ rest)) → IsLinkedSetting (setting_at at frames ways)
