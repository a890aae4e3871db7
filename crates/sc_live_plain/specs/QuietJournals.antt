-- A quiet journal of a calm scenario: one with no mail pending, from which on clients may ask.
use Rattle.std.specs.Prelude.{◌≡◌, ℕ, ◌+◌, ◌-◌, ◌≤◌, ◌||◌, is_some, if◌then◌else◌, Bool, true, false, List, [], ◌∷◌, Option, Some, None}
use Rattle.sc_base.specs.Definitions.{Among, Each, client_actor, least_of}
use Rattle.sc_node_table.specs.Values.{Draw, Base, Route, OrderLine, Mail, Node, Client, Row}
use Rattle.sc_actor.specs.Definitions.{value, has_started}
use Rattle.sc_client_table.specs.table.TableDefinitions.{Client as ClientState}
use Rattle.sc_node_table.specs.NodeDefinitions.{NodeState, ReplicaState}
use Rattle.sc_scenario.specs.declared.scenario.scenarios.Asks.{Asks}
use Rattle.sc_scenario.specs.declared.scenario.scenarios.Scenario.{Scenario}
use Rattle.sc_scenario.specs.scenario.Definitions.{IsValid}
use Rattle.sc_meaning.specs.sound.SoundDefinitions.{player_table, node_seat, client_seat, route_of, system_of, as_nodes}
use Rattle.sc_live_orderly.specs.OrderlyDefinitions.{rest, is_born}
use Rattle.sc_live_steps.specs.calm.CalmDefinitions.{Ways, View as Replicas, HasReplica, StandsQuiet, IsQuiet}
use Rattle.sc_live_plain.specs.RequestPhase.{IsAsking}
use Rattle.sc_live_plain.specs.RequestLines.{NobodyWaits}
use Rattle.sc_live_plain.specs.QuietFrames.{IsKept, frame_at_rest}
use Rattle.sc_live_plain.specs.LeaderMail.{Other, mark}
use Rattle.sc_live_plain.specs.LeaderMailInJournals.{replica_at}
use Rattle.sc_live_plain.specs.CalmNodes.{Setting, IsSetting}
use Rattle.sc_live_plain.specs.Frames.{Frame}
use Rattle.sc_live_plain.specs.PlainClients.{IsBegun}
use Rattle.sc_live_plain.specs.PlainNodes.{IsPlainGroup}

-- the replicas after some rows, by group and node
abbrev pub replicas_after : Scenario → List (Row Mail OrderLine) → Replicas
replicas_after scenario rows group node = replica_at scenario rows group node

-- the setting that these replicas, frames and ways give
abbrev pub setting_at : Replicas → List Frame → Ways → Setting
setting_at at frames ways = record { frames = frames; at = at; ways = ways }

-- a replica that does not run, of a group that stands for it, names a node that is nearer to the group's leader; and the leader of a group that stands is nearer than any other node
pub record DoHintsRise (at : Replicas) (ways : Ways) : Type 0 where
  pub leads : (group : Draw) (quiet : StandsQuiet at group) (node : ℕ) → (node ≡ quiet.lead.me → ⊥) → ways.far group quiet.lead.me + 1 ≤ ways.far group node
  pub hints : (group : Draw) (node hint : ℕ) (r : ReplicaState) → at group node ≡ Some r → r.running ≡ false → r.group.core.gone ≡ None → r.hint ≡ Some hint → ways.far group hint + 1 ≤ ways.far group node

-- the list has the frames of exactly the groups that stand
pub record AreFramesOf (at : Replicas) (frames : List Frame) : Type 0 where
  pub stand : (group : Draw) (quiet : StandsQuiet at group) → Among (frame_at_rest quiet.lead) frames
  pub are : (frame : Frame) → Among frame frames → (group : Draw) × (quiet : StandsQuiet at group) × (frame_at_rest quiet.lead ≡ frame)

-- an upper bound of the number of hints that lead from a node to a replica that runs or is gone, where no replica of the group has seen a ballot with a later round than `latest`
abbrev pub hints_left : ℕ → Option ReplicaState → ℕ
hints_left latest None = 1 + latest
hints_left latest (Some r) = if r.running || is_some r.group.core.gone then 0 else 1 + latest - r.top.round

-- the ways of a journal: how far a node is from its group's leader is `hints_left` by the latest round that was seen in the group
abbrev pub ways_at : Replicas → (Draw → ℕ) → ℕ → (Draw → Option (Draw × Bool)) → Ways
ways_at at latest most asks = record { far = λ group node. hints_left (latest group) (at group node); most = most; asked_group = asks }

-- in a quiet journal hints lead nearer to a leader by the ways of `ways_at`, where no replica of a group that stands is gone
abbrev pub QuietHintsRise : Type 0
QuietHintsRise =
    (at : Replicas) (first : Route) (clients : List (Bool × ClientState)) (latest : Draw → ℕ) (most : ℕ) (asks : Draw → Option (Draw × Bool)) → IsQuiet at first clients
    → ((group : Draw) (node : ℕ) (r : ReplicaState) → at group node ≡ Some r → r.me ≡ node)
    → ((group : Draw) (node : ℕ) (r : ReplicaState) → at group node ≡ Some r → r.top.round ≤ latest group)
    → ((group : Draw) (quiet : StandsQuiet at group) (node : ℕ) (r : ReplicaState) → at group node ≡ Some r → r.group.core.gone ≡ None) → DoHintsRise at (ways_at at latest most asks)

-- a quiet journal, by its players: its replicas and clients are as `IsQuiet` says, each replica is as any journal keeps it, the requests that leaders have noted are begun, and no mail is left but to the desk, to which results of orders go
pub record IsQuietJournal (words : ℕ → ℕ → ℕ × ℕ) (scenario : Scenario) (first : Base) (rows : List (Row Mail OrderLine)) : Type 0 where
  pub clients : List (Bool × ClientState)
  pub quiet : IsQuiet (replicas_after scenario rows) (route_of first) clients
  pub kept : (group : Draw) (node : ℕ) (r : ReplicaState) → replica_at scenario rows group node ≡ Some r → IsKept group node r
  pub noted : (group : Draw) (stands : StandsQuiet (replicas_after scenario rows) group) → IsPlainGroup (IsBegun scenario rows) (frame_at_rest stands.lead) stands.lead.group
  pub nodes : (me : ℕ) → 1 ≤ me → me ≤ scenario.nodes → (node : NodeState) × (value player_table (node_seat as_nodes scenario.groups scenario.policy me) rows ≡ Node node) × (node.me ≡ me)
  pub players : (asks : Asks) → Among asks scenario.clients → (client : ClientState) × (value player_table (client_seat (route_of first) asks) rows ≡ Client client) × (client.me ≡ asks.client) × (client.requests ≡ asks.ops)
      × Among (has_started rows (client_actor asks.client), client) clients
  pub reached : HasReplica (replicas_after scenario rows) (route_of first).group (least_of (route_of first).members)
  pub none : (who : ℕ) → is_born (system_of as_nodes words scenario) who ≡ true → rest (system_of as_nodes words scenario) rows who ≡ []
  pub desk : (who : ℕ) → is_born (system_of as_nodes words scenario) who ≡ false → Each (λ mail. (name : Draw) → mark name mail ≡ Other) (rest (system_of as_nodes words scenario) rows who)

-- from a quiet journal on clients may ask: its setting is one, `IsAsking` holds, and no request waits
abbrev pub QuietJournalsAsk : Type 0
QuietJournalsAsk =
    (words : ℕ → ℕ → ℕ × ℕ) (scenario : Scenario) (first : Base) (others : List Base) (rows : List (Row Mail OrderLine)) (frames : List Frame) (ways : Ways)
    → IsValid scenario → scenario.groups ≡ first ∷ others → IsQuietJournal words scenario first rows → AreFramesOf (replicas_after scenario rows) frames → DoHintsRise (replicas_after scenario rows) ways
    → IsSetting (setting_at (replicas_after scenario rows) frames ways) × IsAsking words scenario (setting_at (replicas_after scenario rows) frames ways) first rows × NobodyWaits scenario first rows
