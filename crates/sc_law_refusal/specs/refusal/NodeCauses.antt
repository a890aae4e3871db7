-- A node's whole step: each answer that it sends has its cause at one of its replicas, and so has each GiveUp that is queued after it.
use Rattle.std.specs.Prelude.{◌≡◌, ℕ, ◌≤◌, true, Option, None, Some, List, [], ◌∷◌, ◌++◌, ◌⊎◌}
use Rattle.sc_base.specs.Definitions.{Among, Each, client_actor}
use Rattle.sc_node_table.specs.Values.{Draw, Op, Input, Got, GiveUp, OrderLine, AnswerBody, NotLeader, Mail, Request}
use Rattle.sc_actor.specs.declared.rows.Input.TheVariants.{Tick, Go, Told}
use Rattle.sc_node_table.specs.NodeDefinitions.{NodeState, group_of_mail, group_of_order, replica_of, node_table, ReplicaState, name_of, listed}
use Rattle.sc_law_refusal.specs.refusal.Causes.{IfAnswer, IsNotLeader, MayGiveUp, StepHasCauses, ends_queued}

-- the replica of the group that an input is for, if it is for one and there is a replica
abbrev pub replica_for : Option Draw → List ReplicaState → List ReplicaState
replica_for None replicas = []
replica_for (Some group) replicas = listed (replica_of group replicas)

-- the replicas of a node that take an input, in their order: that of the group that a mail or an order is for, and all at a tick
abbrev pub takers : NodeState → Input Mail OrderLine → List ReplicaState
takers node (Got mail) = replica_for (group_of_mail mail.body) node.replicas
takers node (Told line) = replica_for (Some (group_of_order line.order)) node.replicas
takers node Tick = node.replicas
takers node Go = []

-- a replica of a node before a step, and the one of the same group after it
pub record Became (node after : NodeState) (replica later : ReplicaState) : Type 0 where
  pub stood : Among replica node.replicas
  pub stands : Among later after.replicas
  pub same : name_of later ≡ name_of replica

-- a part of a node's mail is what a replica sends in its step, each answer of which has its cause
pub record IsSentBy (node after : NodeState) (input : Input Mail OrderLine) (replica : ReplicaState) (part : List Mail) : Type 0 where
  pub later : ReplicaState
  pub became : Became node after replica later
  pub causes : StepHasCauses replica input (later, part)

-- an answer to a request for a group of which the node has no replica: it goes to the client, in the group's name, says that the node does not lead, and names no other node
pub record TurnsAway (node : NodeState) (input : Input Mail OrderLine) (to : ℕ) (group : Draw) (seq : ℕ) (answer : AnswerBody) : Type 0 where
  pub mail : Mail
  pub brought : input ≡ Got mail
  pub client : ℕ
  pub op : Op
  pub request : mail.body ≡ Request group client seq op
  pub missing : replica_of group node.replicas ≡ None
  pub receiver : to ≡ client_actor client
  pub says : answer ≡ NotLeader None

-- the mail is what these replicas send, one behind another; where there is none of them, each answer turns a request away
abbrev pub AreSentBy : NodeState → NodeState → Input Mail OrderLine → List ReplicaState → List Mail → Type 0
AreSentBy node after input [] mails = Each (λ (mail : Mail). IfAnswer (λ group seq answer. TurnsAway node input mail.to group seq answer) mail.body) mails
AreSentBy node after input (replica ∷ replicas) mails =
    (part : List Mail) × (rest : List Mail) × (mails ≡ part ++ rest) × IsSentBy node after input replica part × AreSentBy node after input replicas rest

-- a replica may have these GiveUp commands queued after a node's step: no more than that of its group had before it, or, where it took the input, as many as it may after these ticks
pub record MayGiveUpAt (ticks : ReplicaState → Draw → ℕ) (node after : NodeState) (input : Input Mail OrderLine) (later : ReplicaState) (tx : Draw) : Type 0 where
  pub replica : ReplicaState
  pub became : Became node after replica later
  pub may :
      (ends_queued tx later.acts ≤ ends_queued tx replica.acts)
      ⊎ (Among replica (takers node input) × MayGiveUp (ticks replica tx) replica input tx (ends_queued tx later.acts))

-- the answers of a node's step have causes: its mail is what the replicas send that take the input
abbrev pub AnswersHaveCauses : NodeState → Input Mail OrderLine → NodeState → List Mail → Type 0
AnswersHaveCauses node input after mails = AreSentBy node after input (takers node input) mails

-- each GiveUp that a replica has queued after a node's step has its cause
abbrev pub ActsHaveCauses : (ReplicaState → Draw → ℕ) → NodeState → Input Mail OrderLine → NodeState → Type 0
ActsHaveCauses ticks node input after =
    (later : ReplicaState) → Among later after.replicas
    → (tx : Draw) → Among (GiveUp tx) later.acts → MayGiveUpAt ticks node after input later tx

-- an input brings a request to a replica of the node that runs
pub record BringsToRunning (node : NodeState) (input : Input Mail OrderLine) : Type 0 where
  pub mail : Mail
  pub brought : input ≡ Got mail
  pub group : Draw
  pub client : ℕ
  pub seq : ℕ
  pub op : Op
  pub request : mail.body ≡ Request group client seq op
  pub replica : ReplicaState
  pub takes : Among replica (takers node input)
  pub runs : replica.running ≡ true

-- a replica that runs takes a request: a node to which one is brought for it sends no answer NotLeader
abbrev pub TakesRequests : NodeState → Input Mail OrderLine → List Mail → Type 0
TakesRequests node input mails = BringsToRunning node input → Each (λ (mail : Mail). IsNotLeader mail.body → ⊥) mails

-- the number of ticks that a replica has counted
abbrev pub counted_ticks : ReplicaState → Draw → ℕ
counted_ticks r tx = r.waits

-- a step of a node has causes, and takes requests
pub record NodeHasCauses (node : NodeState) (input : Input Mail OrderLine) (after : NodeState) (mails : List Mail) : Type 0 where
  pub answers : AnswersHaveCauses node input after mails
  pub acts : ActsHaveCauses counted_ticks node input after
  pub requests : TakesRequests node input mails

-- every step of a node has causes, whether the node takes a mail, ticks or takes an order; nodes are numbered from 1
abbrev pub NodesHaveCauses : Type 0
NodesHaveCauses =
    (node : NodeState) (input : Input Mail OrderLine)
    → Each (λ (r : ReplicaState). 1 ≤ r.me) node.replicas
    → NodeHasCauses node input (node_table node input).0 (node_table node input).1
