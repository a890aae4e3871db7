-- What a node owes, and that its steps change it as they change what the replica of the mail's group owes.
use Rattle.std.specs.Prelude.{◌≡◌, ℕ, ◌+◌, ◌*◌, ◌≤◌, true, false, List, [], sum_by, Some, None}
use Rattle.sc_node_table.specs.Values.{Draw, Base, OrderLine, Mail, MailBody, Request, Answer, Prepare, Promise, Accept, Accepted, Nack, Learn, Ask, Install, TxPrepare, TxVote, TxOutcome, TxElsewhere, TxWatch, TxWatched, Told}
use Rattle.sc_node_table.specs.NodeDefinitions.{NodeState, replica_of, group_of_mail, may_come, on_mail, group_of_order, on_order, ordered_row, ReplicaState, Place, mailed, made_by}
use Rattle.sc_live_steps.specs.calm.PotentialLaws.{Lowers, MayPump}
use Rattle.sc_live_steps.specs.calm.CalmPotential.{Ways, body_owes, mail_owes, replica_owes, idle_owes}

-- What a node owes: what all its replicas still have to do. `most` is the bound of ways.
abbrev pub node_owes : ℕ → NodeState → ℕ
node_owes most node = sum_by (replica_owes most) node.replicas

-- What the replica's group owes if no other replica of it leads or is gone: an election where this one neither leads nor is gone.
abbrev pub group_owes : ReplicaState → ℕ
group_owes r = idle_owes r.running r.group.core.gone

-- What a node owes after its step, with the mails that the step sends.
abbrev pub turn_owes : Ways → NodeState × List Mail → ℕ
turn_owes ways turn = node_owes ways.most turn.0 + sum_by (mail_owes ways) turn.1

-- The node takes the mail for this replica of the mail's group.
pub record IsTaken (from : ℕ) (group : Draw) (body : MailBody) (r : ReplicaState) (node : NodeState) : Type 0 where
  pub comes : may_come from body ≡ true
  pub named : group_of_mail body ≡ Some group
  pub found : replica_of group node.replicas ≡ Some r

-- The replica after the mail, and the mails that it sent.
abbrev pub after_mail : ℕ → MailBody → ReplicaState → Place
after_mail from body r = (mailed from body (r, [])).0

-- A mail changes what a node owes as it changes what its replica owes, and the node sends what the replica sends.
-- Other replicas keep what they owe, and children are created with nothing to do.
pub record NodesOweAsReplicas : Type 0 where
  pub owes : (most from : ℕ) (group : Draw) (body : MailBody) (r : ReplicaState) (node : NodeState) → IsTaken from group body r node
      → node_owes most (on_mail from body node).0 + replica_owes most r ≡ node_owes most node + replica_owes most (after_mail from body r).0
  pub sends : (from : ℕ) (group : Draw) (body : MailBody) (r : ReplicaState) (node : NodeState) → IsTaken from group body r node → (on_mail from body node).1 ≡ (after_mail from body r).1

-- The mail is delivered: it is no report to the desk.
abbrev pub IsDelivered : MailBody → Type 0
IsDelivered (Told order result) = ⊥
IsDelivered (Request group client seq op) = Unit {0}
IsDelivered (Answer group seq answer) = Unit {0}
IsDelivered (Prepare group ballot from_slot) = Unit {0}
IsDelivered (Promise group ballot reports) = Unit {0}
IsDelivered (Accept group ballot slot command) = Unit {0}
IsDelivered (Accepted group ballot slot) = Unit {0}
IsDelivered (Nack group promised) = Unit {0}
IsDelivered (Learn group slot command) = Unit {0}
IsDelivered (Ask group from_slot) = Unit {0}
IsDelivered (Install group slot base sets) = Unit {0}
IsDelivered (TxPrepare tx offer) = Unit {0}
IsDelivered (TxVote tx coord part vote) = Unit {0}
IsDelivered (TxOutcome tx part outcome) = Unit {0}
IsDelivered (TxElsewhere tx coord hint) = Unit {0}
IsDelivered (TxWatch tx watch) = Unit {0}
IsDelivered (TxWatched tx coord part vote) = Unit {0}

-- The mail may come to a node without a replica of its group: it is no request, no entry to be learnt, and no state, from which a replica is created.
abbrev pub MayMiss : MailBody → Type 0
MayMiss (Told order result) = ⊥
MayMiss (Request group client seq op) = ⊥
MayMiss (Learn group slot command) = ⊥
MayMiss (Install group slot base sets) = ⊥
MayMiss (Answer group seq answer) = Unit {0}
MayMiss (Prepare group ballot from_slot) = Unit {0}
MayMiss (Promise group ballot reports) = Unit {0}
MayMiss (Accept group ballot slot command) = Unit {0}
MayMiss (Accepted group ballot slot) = Unit {0}
MayMiss (Nack group promised) = Unit {0}
MayMiss (Ask group from_slot) = Unit {0}
MayMiss (TxPrepare tx offer) = Unit {0}
MayMiss (TxVote tx coord part vote) = Unit {0}
MayMiss (TxOutcome tx part outcome) = Unit {0}
MayMiss (TxElsewhere tx coord hint) = Unit {0}
MayMiss (TxWatch tx watch) = Unit {0}
MayMiss (TxWatched tx coord part vote) = Unit {0}

-- A mail lowers what a node owes by at least one, with what its replica's group owes if no other replica of that leads or is gone.
pub record NodesLower : Type 0 where
  -- a mail that lowers what is owed at the node's replica of the mail's group
  pub taken : (ways : Ways) (from : ℕ) (group : Draw) (body : MailBody) (r : ReplicaState) (node : NodeState) → IsTaken from group body r node → r.me ≡ node.me → Lowers ways from body (r, [])
      → turn_owes ways (on_mail from body node) + group_owes (after_mail from body r).0 + 1 ≤ node_owes ways.most node + group_owes r + body_owes ways node.me body
  -- a mail that is for no group, or comes from one that may not send it
  pub stray : (ways : Ways) (from : ℕ) (body : MailBody) (node : NodeState) → IsDelivered body → group_of_mail body ≡ None → turn_owes ways (on_mail from body node) + 1 ≤ node_owes ways.most node + body_owes ways node.me body
  pub barred : (ways : Ways) (from : ℕ) (body : MailBody) (node : NodeState) → IsDelivered body → may_come from body ≡ false → turn_owes ways (on_mail from body node) + 1 ≤ node_owes ways.most node + body_owes ways node.me body
  -- a mail at a node without a replica of the mail's group
  pub missed : (ways : Ways) (from : ℕ) (group : Draw) (body : MailBody) (node : NodeState) → MayMiss body → group_of_mail body ≡ Some group → replica_of group node.replicas ≡ None
      → turn_owes ways (on_mail from body node) + 1 ≤ node_owes ways.most node + body_owes ways node.me body
  -- a state at a node without a replica of the group, which creates one from it
  pub made : (ways : Ways) (from : ℕ) (group : Draw) (slot : ℕ) (base : Base) (sets : List (List ℕ)) (node : NodeState) → replica_of group node.replicas ≡ None
      → turn_owes ways (on_mail from (Install group slot base sets) node) + group_owes (made_by node.me from group slot base sets).0 + 1
      ≤ node_owes ways.most node + idle_owes false base.core.gone + body_owes ways node.me (Install group slot base sets)

-- An order raises what a node owes by at most 242 and four times the bound of ways; without a replica of the order's group it raises nothing.
pub record NodesRaiseLittle : Type 0 where
  pub ordered : (ways : Ways) (line : OrderLine) (r : ReplicaState) (node : NodeState) → replica_of (group_of_order line.order) node.replicas ≡ Some r → MayPump r
      → turn_owes ways (on_order line node) + group_owes (ordered_row node.draws line (r, [])).0 ≤ node_owes ways.most node + group_owes r + (242 + 4 * ways.most)
  pub refused : (ways : Ways) (line : OrderLine) (node : NodeState) → replica_of (group_of_order line.order) node.replicas ≡ None → turn_owes ways (on_order line node) ≤ node_owes ways.most node
