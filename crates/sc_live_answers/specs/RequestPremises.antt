-- Mail finds what the potential needs while clients ask, between two orders of a calm journal.
use Rattle.std.specs.Prelude.{◌≡◌, ℕ, ◌+◌, ◌≤◌, List}
use Rattle.sc_base.specs.Definitions.{Among, Each, client_actor}
use Rattle.sc_node_table.specs.Values.{Draw, Op, Route, OrderLine, Mail, Node, Row}
use Rattle.sc_node_table.specs.NodeDefinitions.{NodeState}
use Rattle.sc_scenario.specs.declared.scenario.scenarios.Scenario.{Scenario}
use Rattle.sc_live_steps.specs.calm.CalmDefinitions.{Chart, AreBounded, IsCalmFor, MayPump, Elsewhere, StandsOnce}
use Rattle.sc_live_plain.specs.PlainDefinitions.{Setting, IsHome, HasGoneTo, IsSetting, IsCalmNode, IsCalmMail, ComesInTime, Frame, IsBegun}

-- a chart counts as a setting does: its ways are the setting's, each group that has a replica is among its groups once, and a group that is gone is farther, by at least one end, from a group that stands than the one that it went into
pub record CountsAs (set : Setting) (chart : Chart) : Type 0 where
  pub bounded : AreBounded chart.ways
  pub far : (group : Draw) (node : ℕ) → chart.ways.far group node ≡ set.ways.far group node
  pub named : (group : Draw) (node : ℕ) → IsHome set group node → StandsOnce group chart.groups
  pub stand : (frame : Frame) → Among frame set.frames → Among frame.core.id chart.reach.standing × (chart.reach.distance frame.core.id ≡ 0)
  pub go : (group : Draw) (into : Route) → HasGoneTo set group into → Each (λ other. other ≡ group → ⊥) chart.reach.standing × (chart.reach.distance into.group + 1 ≤ chart.reach.distance group)

-- a node whose replicas may pump finds what the potential needs in each mail of requests that comes to it when it is due
abbrev pub RequestsAreTakenCalmly : Type 0
RequestsAreTakenCalmly =
    (scenario : Scenario) (rows : List (Row Mail OrderLine)) (set : Setting) (chart : Chart) (elsewhere : Elsewhere) (node : NodeState) (mail : Mail)
    → IsSetting set → CountsAs set chart → IsCalmNode (IsBegun scenario rows) set node → Each MayPump node.replicas
    → IsCalmMail (IsBegun scenario rows) set mail → mail.to ≡ node.me
    → ((client seq : ℕ) (op : Op) → IsBegun scenario rows client seq op → node.me ≡ client_actor client → ⊥) → ComesInTime (IsBegun scenario rows) set node mail
    → IsCalmFor chart elsewhere mail (Node node)
