-- A node: its replicas, one for each group, and its transition table.
use Rattle.std.specs.Prelude.{ℕ, ◌==◌, ◌&&◌, ◌||◌, not, nat_le, nat_lt, length, Bool, true, List, [], ◌∷◌, map, filter, find, if◌then◌else◌, Option, Some, None, is_some}
use Rattle.std.specs.List.{list_all}
use Rattle.sc_base.specs.Definitions.{most_nodes, Drawer, same_draw, is_member}
use Rattle.sc_base.specs.declared.names.Draw.{Draw}
use Rattle.sc_actor.specs.declared.rows.Input.{Input}
use Rattle.sc_actor.specs.declared.rows.Input.TheVariants.{Got, Tick, Go, Told}
use Rattle.sc_words.specs.declared.commands.cores.Base.{Base}
use Rattle.sc_words.specs.declared.commands.orders.Order.{Order}
use Rattle.sc_words.specs.declared.commands.orders.Order.TheVariants as An
use Rattle.sc_words.specs.declared.commands.orders.OrderLine.{OrderLine}
use Rattle.sc_words.specs.declared.commands.orders.OrderRefusal.TheVariants.{NotLeader}
use Rattle.sc_words.specs.declared.commands.orders.OrderResult.TheVariants.{Refused}
use Rattle.sc_mail.specs.declared.bodies.AnswerBody.TheVariants as Says
use Rattle.sc_mail.specs.declared.bodies.MailBody.{MailBody}
use Rattle.sc_mail.specs.declared.bodies.MailBody.TheVariants.{Request, Answer, Prepare, Promise, Accept, Accepted, Nack, Learn, Ask, Install, TxPrepare, TxVote, TxOutcome, TxElsewhere, TxWatch, TxWatched, Told as ToldMail}
use Rattle.sc_mail.specs.declared.bodies.Mail.{Mail}
use Rattle.sc_node_table.specs.Slots.{slots_ahead}
use Rattle.sc_node_table.specs.Replica.{ReplicaState, Place, name_of, born_replica, last_slot}
use Rattle.sc_node_table.specs.Mails.{sent, answer_to, result_sent}
use Rattle.sc_node_table.specs.Rows.{mailed, tick_row, made_by}
use Rattle.sc_node_table.specs.Ordering.{ordered_row, names_after}
use Rattle.sc_node_table.specs.Policy.{names_after_tick}

-- the state of a node: its number, the generator of its names, whether it has a policy, and its replicas in the order of their groups' names
pub record NodeState : Type 0 where
  pub me : ℕ
  pub draws : Drawer
  pub policy : Bool
  pub replicas : List ReplicaState

-- the first replicas of a node: one for each of these groups of which the node is a member; `ahead` slots of a log are open at a time
abbrev pub born_replicas : ℕ → ℕ → List Base → List ReplicaState
born_replicas ahead me groups = map (λ base. born_replica ahead me base) (filter (λ base. is_member base.core.members me) groups)

-- a node at the start, with these groups, and with a policy or without
abbrev pub born_node : ℕ → ℕ → List Base → Bool → NodeState
born_node ahead me groups policy = record {
  me = me;
  draws = record { node = me; next = 1 };
  policy = policy;
  replicas = born_replicas ahead me groups;
}

-- the replica of a group, if the node has one
abbrev pub replica_of : Draw → List ReplicaState → Option ReplicaState
replica_of group replicas = find (λ r. same_draw (name_of r) group) replicas

-- the replicas with the one of this group replaced
abbrev pub with_replica : Draw → ReplicaState → List ReplicaState → List ReplicaState
with_replica group new [] = []
with_replica group new (r ∷ replicas) = if same_draw (name_of r) group then new ∷ replicas else r ∷ with_replica group new replicas

-- whether a name comes before another, by node and then by count
abbrev pub is_before : Draw → Draw → Bool
is_before a b = nat_lt a.node b.node || ((a.node == b.node) && nat_lt a.count b.count)

-- the replicas with a new one in its place by name
abbrev pub with_new : ReplicaState → List ReplicaState → List ReplicaState
with_new new [] = new ∷ []
with_new new (r ∷ replicas) = if is_before (name_of r) (name_of new) then r ∷ with_new new replicas else new ∷ r ∷ replicas

-- whether these groups are in the strict order of their names
abbrev pub are_in_order : List Base → Bool
are_in_order [] = true
are_in_order (base ∷ groups) = list_all (λ other. is_before base.core.id other.core.id) groups && are_in_order groups

-- the group that a mail is for, if a replica acts on such a mail
abbrev pub group_of_mail : MailBody → Option Draw
group_of_mail (Request group client seq op) = Some group
group_of_mail (Prepare group ballot from_slot) = Some group
group_of_mail (Promise group ballot reports) = Some group
group_of_mail (Accept group ballot slot command) = Some group
group_of_mail (Accepted group ballot slot) = Some group
group_of_mail (Nack group promised) = Some group
group_of_mail (Learn group slot command) = Some group
group_of_mail (Ask group from_slot) = Some group
group_of_mail (Install group slot base sets) = Some group
group_of_mail (Answer group seq answer) = None
group_of_mail (TxPrepare tx offer) = Some offer.part
group_of_mail (TxVote tx coord part vote) = Some coord
group_of_mail (TxOutcome tx part outcome) = Some part
group_of_mail (TxElsewhere tx coord hint) = Some coord
group_of_mail (TxWatch tx watch) = Some watch.part
group_of_mail (TxWatched tx coord part vote) = Some coord
group_of_mail (ToldMail order result) = None

-- the mail that a node sends in answer to a mail for a group of which it has no replica
abbrev pub absent : ℕ → ℕ → MailBody → List Mail
absent me from (Request group client seq op) = answer_to me group client seq (Says.NotLeader None) []
absent me from (Prepare group ballot from_slot) = sent me from (Ask group 0) []
absent me from (Accept group ballot slot command) = sent me from (Ask group 0) []
absent me from (Learn group slot command) = sent me from (Ask group 0) []
absent me from (Answer group seq answer) = []
absent me from (Promise group ballot reports) = []
absent me from (Accepted group ballot slot) = []
absent me from (Nack group promised) = []
absent me from (Ask group from_slot) = []
absent me from (Install group slot base sets) = []
absent me from (TxPrepare tx offer) = sent me from (TxElsewhere tx offer.coord None) []
absent me from (TxVote tx coord part vote) = []
absent me from (TxOutcome tx part outcome) = []
absent me from (TxElsewhere tx coord hint) = []
absent me from (TxWatch tx watch) = sent me from (TxElsewhere tx watch.coord None) []
absent me from (TxWatched tx coord part vote) = []
absent me from (ToldMail order result) = []

-- the node with a new replica, and the mail that the replica has sent
abbrev pub with_made : Place → NodeState → NodeState × List Mail
with_made (r, mails) node = (record node { replicas = with_new r node.replicas }, mails)

-- what a node does with a mail for a group of which it has no replica: it makes one of an Install with the right number of open slots, and answers any other mail
abbrev pub unknown : ℕ → MailBody → NodeState → NodeState × List Mail
unknown from (Install group slot base sets) node =
    if not (length sets == slots_ahead) || nat_lt last_slot slot then (node, [])
    else with_made (made_by node.me from group slot base sets) node
unknown from body node = (node, absent node.me from body)

-- whether an actor is a node
abbrev pub is_node : ℕ → Bool
is_node from = nat_le 1 from && nat_le from most_nodes

-- whether a mail of this body may come from this actor: only a request may come from an actor that is no node
abbrev pub may_come : ℕ → MailBody → Bool
may_come from (Request group client seq op) = true
may_come from (Answer group seq answer) = is_node from
may_come from (Prepare group ballot from_slot) = is_node from
may_come from (Promise group ballot reports) = is_node from
may_come from (Accept group ballot slot command) = is_node from
may_come from (Accepted group ballot slot) = is_node from
may_come from (Nack group promised) = is_node from
may_come from (Learn group slot command) = is_node from
may_come from (Ask group from_slot) = is_node from
may_come from (Install group slot base sets) = is_node from
may_come from (TxPrepare tx offer) = is_node from
may_come from (TxVote tx coord part vote) = is_node from
may_come from (TxOutcome tx part outcome) = is_node from
may_come from (TxElsewhere tx coord hint) = is_node from
may_come from (TxWatch tx watch) = is_node from
may_come from (TxWatched tx coord part vote) = is_node from
may_come from (ToldMail order result) = is_node from

-- the node with a replica of a child in its first state, unless it has a replica of that group already
abbrev pub with_born : Base → NodeState → NodeState
with_born child node =
    if is_some (replica_of child.core.id node.replicas) then node
    else record node { replicas = with_new (born_replica slots_ahead node.me child) node.replicas }

-- the node with a replica of each of these children
unfoldable pub with_children : List Base → NodeState → NodeState
with_children [] node = node
with_children (child ∷ children) node = with_children children (with_born child node)

-- what a node does with a mail for a group, by its replica of the group, if it has one
abbrev pub taken_by : Option ReplicaState → Draw → ℕ → MailBody → NodeState → NodeState × List Mail
taken_by None group from body node = unknown from body node
taken_by (Some r) group from body node =
    let after = mailed from body (r, []) in
    (with_children after.1 (record node { replicas = with_replica group after.0.0 node.replicas }), after.0.1)

-- what a node does with a mail, by the group that it is for; a mail for no group changes nothing
abbrev pub routed : Option Draw → ℕ → MailBody → NodeState → NodeState × List Mail
routed None from body node = (node, [])
routed (Some group) from body node = taken_by (replica_of group node.replicas) group from body node

-- what a node does with a mail from an actor
abbrev pub on_mail : ℕ → MailBody → NodeState → NodeState × List Mail
on_mail from body node = if may_come from body then routed (group_of_mail body) from body node else (node, [])

-- the group of an order
abbrev pub group_of_order : Order → Draw
group_of_order (An.Join node group) = group
group_of_order (An.Leave node group) = group
group_of_order (An.Split group at) = group
group_of_order (An.Merge group) = group
group_of_order (An.Repart group at) = group
group_of_order (An.Migrate group node) = group

-- what a node does with an order, by its replica of the order's group; without one it refuses the order
abbrev pub ordered_of : Option ReplicaState → OrderLine → NodeState → NodeState × List Mail
ordered_of None line node = (node, result_sent node.me line.number (Refused (NotLeader None)) [])
ordered_of (Some r) line node =
    let after = ordered_row node.draws line (r, []) in
    (record node { draws = names_after node.draws line r; replicas = with_replica (group_of_order line.order) after.0 node.replicas }, after.1)

-- what a node does with an order
abbrev pub on_order : OrderLine → NodeState → NodeState × List Mail
on_order line node = ordered_of (replica_of (group_of_order line.order) node.replicas) line node

-- each replica of a node ticks, in their order, with the names that those before it have left
unfoldable pub ticked : Bool → Drawer → List ReplicaState → List Mail → List ReplicaState × List Mail
ticked on drawer [] mails = ([], mails)
ticked on drawer (r ∷ replicas) mails =
    let after = tick_row on drawer (r, mails) in
    let others = ticked on (names_after_tick on drawer r) replicas after.1 in
    (after.0 ∷ others.0, others.1)

-- the names that are left after each replica has ticked
unfoldable pub names_after_ticks : Bool → Drawer → List ReplicaState → Drawer
names_after_ticks on drawer [] = drawer
names_after_ticks on drawer (r ∷ replicas) = names_after_ticks on (names_after_tick on drawer r) replicas

-- what a node does at a tick of its clock
abbrev pub on_tick : NodeState → NodeState × List Mail
on_tick node =
    let after = ticked node.policy node.draws node.replicas [] in
    (record node { draws = names_after_ticks node.policy node.draws node.replicas; replicas = after.0 }, after.1)

-- the transition table of a node: its state after an input, and the mail sent
abbrev pub node_table : NodeState → Input Mail OrderLine → NodeState × List Mail
node_table node (Got mail) = on_mail mail.from mail.body node
node_table node Tick = on_tick node
node_table node (Told line) = on_order line node
node_table node Go = (node, [])
