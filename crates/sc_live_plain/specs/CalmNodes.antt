-- Nodes and mail while clients ask alone, between two orders of a calm journal.
use Rattle.std.specs.Prelude.{◌≡◌, ℕ, ◌+◌, ◌≤◌, true, false, List, Option, Some, None, ◌⊎◌}
use Rattle.sc_base.specs.Definitions.{Among, Each, client_actor}
use Rattle.sc_node_table.specs.Values.{Draw, Op, Got, Row, Route, OrderLine, AnswerBody, Value, NotLeader, NotMine, Gone, Stale, Mail, MailBody, Request, Answer, Prepare, Promise, Accept, Accepted, Nack, Learn, Ask, Install, TxPrepare, TxVote, TxOutcome, TxElsewhere, TxWatch, TxWatched, Told}
use Rattle.sc_node_table.specs.NodeDefinitions.{NodeState, replica_of, node_table, ReplicaState, next, last_slot, slots_ahead}
use Rattle.sc_scenario.specs.declared.scenario.scenarios.Scenario.{Scenario}
use Rattle.sc_live_steps.specs.calm.CalmDefinitions.{Ways, View as Replicas}
use Rattle.sc_live_plain.specs.Frames.{Frame, IsFrame, AreNamedApart}
use Rattle.sc_live_plain.specs.PlainClients.{IsBegun}
use Rattle.sc_live_plain.specs.PlainMail.{Requests, IsPlainBody, IsPlainMail}
use Rattle.sc_live_plain.specs.PlainNodes.{IsPlainNode, IsDue}

-- what no request changes between two orders: the frames of the groups that stand, the replicas as they were before, and how many hints lead from each node to a replica that runs or is gone
pub record Setting : Type 0 where
  pub frames : List Frame
  pub at : Replicas
  pub ways : Ways

-- the node has a replica of the group
pub record IsHome (set : Setting) (group : Draw) (node : ℕ) : Type 0 where
  pub r : ReplicaState
  pub is_there : set.at group node ≡ Some r

-- some replica of the group knows that it went into another, by this route
pub record HasGoneTo (set : Setting) (group : Draw) (into : Route) : Type 0 where
  pub node : ℕ
  pub r : ReplicaState
  pub is_there : set.at group node ≡ Some r
  pub went : r.group.core.gone ≡ Some into

-- the frames are of groups that stand, with different names; each leading node has a replica, and is nearer than any other node
pub record IsSetting (set : Setting) : Type 0 where
  pub are : (frame : Frame) → Among frame set.frames → IsFrame frame
  pub apart : AreNamedApart set.frames
  pub leads : (frame : Frame) → Among frame set.frames → IsHome set frame.core.id frame.lead
  pub nearer : (frame : Frame) (node : ℕ) → Among frame set.frames → (node ≡ frame.lead → ⊥) → set.ways.far frame.core.id frame.lead + 1 ≤ set.ways.far frame.core.id node

-- the node has a replica of the group, and is nearer to its leader than the node `from`
pub record IsNearer (set : Setting) (group : Draw) (from node : ℕ) : Type 0 where
  pub has : IsHome set group node
  pub near : set.ways.far group node + 1 ≤ set.ways.far group from

-- what a replica that does not run knows: the route by which its group went, or the name of a node that is nearer to the leader
abbrev pub KnowsBetter : Setting → Draw → ReplicaState → Option Route → Type 0
KnowsBetter set group r (Some into) = HasGoneTo set group into
KnowsBetter set group r None = (node : ℕ) × (r.hint ≡ Some node) × IsNearer set group r.me node

-- a node between two orders: its replicas of groups that stand are plain, none but their leaders run, and each replica that does not run knows a nearer node or where its group went
pub record IsCalmNode (begun : Requests) (set : Setting) (node : NodeState) : Type 0 where
  pub plain : IsPlainNode begun set.frames node
  pub own : (group : Draw) (r : ReplicaState) → replica_of group node.replicas ≡ Some r → r.me ≡ node.me
  pub has : (group : Draw) → IsHome set group node.me → (r : ReplicaState) × (replica_of group node.replicas ≡ Some r)
  pub runs : (group : Draw) (r : ReplicaState) → replica_of group node.replicas ≡ Some r → r.running ≡ true → (frame : Frame) × Among frame set.frames × (frame.core.id ≡ group) × (node.me ≡ frame.lead)
  pub stops : (group : Draw) (r : ReplicaState) → replica_of group node.replicas ≡ Some r → r.running ≡ false → KnowsBetter set group r r.group.core.gone

-- an answer that names a nearer node of the group, or the group into which it went
abbrev pub IsAsideAnswer : Setting → Draw → ℕ → AnswerBody → Type 0
IsAsideAnswer set group from (NotLeader (Some node)) = IsNearer set group from node
IsAsideAnswer set group from (Gone into) = HasGoneTo set group into
IsAsideAnswer set group from (NotLeader None) = ⊥
IsAsideAnswer set group from (Value reply) = ⊥
IsAsideAnswer set group from (NotMine arc succ) = ⊥
IsAsideAnswer set group from (Stale last) = ⊥

-- an answer as `IsAsideAnswer` says goes to the client of a request that is begun
pub record IsAsideReply (begun : Requests) (set : Setting) (from to : ℕ) (group : Draw) (seq : ℕ) (answer : AnswerBody) : Type 0 where
  pub client : ℕ
  pub op : Op
  pub to_is : to ≡ client_actor client
  pub is_begun : begun client seq op
  pub says : IsAsideAnswer set group from answer

-- a client sends a begun request to a node that has a replica of the group, or a node answers as `IsAsideAnswer` says
abbrev pub IsAsideBody : Requests → Setting → ℕ → ℕ → MailBody → Type 0
IsAsideBody begun set from to (Request group client seq op) = (from ≡ client_actor client) × IsHome set group to × begun client seq op
IsAsideBody begun set from to (Answer group seq answer) = IsAsideReply begun set from to group seq answer
IsAsideBody begun set from to (Prepare group ballot from_slot) = ⊥
IsAsideBody begun set from to (Promise group ballot reports) = ⊥
IsAsideBody begun set from to (Accept group ballot slot command) = ⊥
IsAsideBody begun set from to (Accepted group ballot slot) = ⊥
IsAsideBody begun set from to (Nack group promised) = ⊥
IsAsideBody begun set from to (Learn group slot command) = ⊥
IsAsideBody begun set from to (Ask group from_slot) = ⊥
IsAsideBody begun set from to (Install group slot base sets) = ⊥
IsAsideBody begun set from to (TxPrepare tx offer) = ⊥
IsAsideBody begun set from to (TxVote tx coord part vote) = ⊥
IsAsideBody begun set from to (TxOutcome tx part outcome) = ⊥
IsAsideBody begun set from to (TxElsewhere tx coord hint) = ⊥
IsAsideBody begun set from to (TxWatch tx watch) = ⊥
IsAsideBody begun set from to (TxWatched tx coord part vote) = ⊥
IsAsideBody begun set from to (Told order result) = ⊥

-- mail while clients ask: mail of a plain journal, or a request to a replica that need not lead and the answer to it
abbrev pub IsCalmMail : Requests → Setting → Mail → Type 0
IsCalmMail begun set mail = IsPlainMail begun set.frames mail ⊎ IsAsideBody begun set mail.from mail.to mail.body

-- mail of a group that stands comes to a node when it is due, and far from the last slot
abbrev pub ComesInTime : Requests → Setting → NodeState → Mail → Type 0
ComesInTime begun set node mail =
    (frame : Frame) (r : ReplicaState) → Among frame set.frames → IsPlainBody begun frame mail.from mail.to mail.body → replica_of frame.core.id node.replicas ≡ Some r
    → IsDue r mail.body × (next r + slots_ahead ≤ last_slot)

-- a node that takes mail as `IsCalmMail` says, in time, is as `IsCalmNode` says after it, and sends mail as `IsCalmMail` says
abbrev pub NodesStayCalm : Type 0
NodesStayCalm =
    (scenario : Scenario) (rows : List (Row Mail OrderLine)) (set : Setting) (node : NodeState) (mail : Mail) → IsSetting set → IsCalmNode (IsBegun scenario rows) set node → IsCalmMail (IsBegun scenario rows) set mail → mail.to ≡ node.me
    → ((client seq : ℕ) (op : Op) → IsBegun scenario rows client seq op → node.me ≡ client_actor client → ⊥) → ComesInTime (IsBegun scenario rows) set node mail
    → IsCalmNode (IsBegun scenario rows) set (node_table node (Got mail)).0 × Each (IsCalmMail (IsBegun scenario rows) set) (node_table node (Got mail)).1
