-- What holds of each replica of a node is kept by the node's step, where each row of a replica's table keeps it, and it holds of each replica that is made.
use Rattle.std.proofs.Common.{◌≡◌, ℕ, ◌||◌, not, nat_lt, eqb, Bool, List, [], ◌∷◌, length, Option, Some, None, sym, subst}
use Rattle.std.specs.Prelude.{is_some}
use Rattle.sc_base.specs.Definitions.{Each, Drawer, same_draw}
use Rattle.sc_node_table.specs.Values.{Draw, Input, Got, Base, OrderLine, Mail, MailBody, Install}
use Rattle.sc_actor.specs.declared.rows.Input.TheVariants.{Tick, Go, Told}
use Rattle.sc_node_table.specs.NodeDefinitions.{NodeState, node_table, replica_of, with_replica, is_before, with_new, group_of_mail, with_made, unknown, may_come, with_born, with_children, taken_by, routed, group_of_order, ordered_of, ticked, names_after_tick, born_replica, ReplicaState, Executed, name_of, slots_ahead, mailed, ordered_row, tick_row, made_by, last_slot}
use Rattle.sc_law_walks.proofs.Ways.{either_way}

-- ---- a replica that is found

abbrev pub FoundOne : (ReplicaState → Type 0) → Option ReplicaState → Type 0
FoundOne W None = Unit {0}
FoundOne W (Some r) = W r

pub found_one : (W : ReplicaState → Type 0) (group : Draw) (replicas : List ReplicaState) → Each W replicas → FoundOne W (replica_of group replicas)
found_one W group [] k = tt
found_one W group (r ∷ replicas) k = either_way (FoundOne W) (same_draw (name_of r) group) (Some r) (replica_of group replicas) k.0 (found_one W group replicas k.1)

-- ---- one that is put in its place, or is new

pub replaced_each : (W : ReplicaState → Type 0) (group : Draw) (new : ReplicaState) (replicas : List ReplicaState) → W new → Each W replicas → Each W (with_replica group new replicas)
replaced_each W group new [] n all = tt
replaced_each W group new (r ∷ replicas) n all = either_way (Each W) (same_draw (name_of r) group) _ _ (n, all.1) (all.0, replaced_each W group new replicas n all.1)

pub added_each : (W : ReplicaState → Type 0) (new : ReplicaState) (replicas : List ReplicaState) → W new → Each W replicas → Each W (with_new new replicas)
added_each W new [] n all = (n, tt)
added_each W new (r ∷ replicas) n all = either_way (Each W) (is_before (name_of r) (name_of new)) _ _ (all.0, added_each W new replicas n all.1) (n, all)

-- ---- a node

-- a node of this number, of each of whose replicas it holds
abbrev pub EachReplica : ℕ → (ReplicaState → Type 0) → NodeState → Type 0
EachReplica me W node = (node.me ≡ me) × Each W node.replicas

-- What rows of a replica's table keep, and what is made.
pub record ReplicaRows (me : ℕ) (W : ReplicaState → Type 0) : Type 0 where
  pub mail : (from : ℕ) (body : MailBody) (r : ReplicaState) → W r → W (mailed from body (r, [])).0.0
  pub order : (drawer : Drawer) (line : OrderLine) (r : ReplicaState) → W r → W (ordered_row drawer line (r, [])).0
  pub tick : (on : Bool) (drawer : Drawer) (r : ReplicaState) (mails : List Mail) → W r → W (tick_row on drawer (r, mails)).0
  pub made : (from : ℕ) (group : Draw) (slot : ℕ) (base : Base) (sets : List (List ℕ)) → W (made_by me from group slot base sets).0
  pub born : (base : Base) → W (born_replica slots_ahead me base)

module _ (me : ℕ) (W : ReplicaState → Type 0) (k : ReplicaRows me W) where
  abbrev N : NodeState → Type 0
  N = EachReplica me W

  unknown_step : (from : ℕ) (body : MailBody) (node : NodeState) → N node → N (unknown from body node).0
  unknown_step from (Install group slot base sets) node n =
      either_way (λ (step : NodeState × List Mail). N step.0) (not (eqb (length sets) slots_ahead) || nat_lt last_slot slot) (node, []) (with_made (made_by node.me from group slot base sets) node) n
      (n.0, added_each W _ node.replicas (subst (λ m. W (made_by m from group slot base sets).0) (sym n.0) (k.made from group slot base sets)) n.1)
  unknown_step from _ node n = n

  children_step : (children : List Base) (node : NodeState) → N node → N (with_children children node)
  unfolding with_children
  children_step [] node n = n
  children_step (child ∷ children) node n =
      children_step children (with_born child node)
      (either_way N (is_some (replica_of child.core.id node.replicas)) node (record node { replicas = with_new (born_replica slots_ahead node.me child) node.replicas }) n
      (n.0, added_each W (born_replica slots_ahead node.me child) node.replicas (subst (λ m. W (born_replica slots_ahead m child)) (sym n.0) (k.born child)) n.1))

  taken_step : (o : Option ReplicaState) (group : Draw) (from : ℕ) (body : MailBody) (node : NodeState) → FoundOne W o → N node → N (taken_by o group from body node).0
  taken_step None group from body node f n = unknown_step from body node n
  taken_step (Some r) group from body node f n =
      let after : Executed = mailed from body (r, []) in
      children_step after.1 (record node { replicas = with_replica group after.0.0 node.replicas }) (n.0, replaced_each W group after.0.0 node.replicas (k.mail from body r f) n.1)

  routed_step : (o : Option Draw) (from : ℕ) (body : MailBody) (node : NodeState) → N node → N (routed o from body node).0
  routed_step None from body node n = n
  routed_step (Some group) from body node n = taken_step (replica_of group node.replicas) group from body node (found_one W group node.replicas n.1) n

  ordered_step : (o : Option ReplicaState) (line : OrderLine) (node : NodeState) → FoundOne W o → N node → N (ordered_of o line node).0
  ordered_step None line node f n = n
  ordered_step (Some r) line node f n = (n.0, replaced_each W (group_of_order line.order) (ordered_row node.draws line (r, [])).0 node.replicas (k.order node.draws line r f) n.1)

  ticked_step : (on : Bool) (drawer : Drawer) (replicas : List ReplicaState) (mails : List Mail) → Each W replicas → Each W (ticked on drawer replicas mails).0
  unfolding ticked
  ticked_step on drawer [] mails all = tt
  ticked_step on drawer (r ∷ replicas) mails all = (k.tick on drawer r mails all.0, ticked_step on (names_after_tick on drawer r) replicas (tick_row on drawer (r, mails)).1 all.1)

  -- the node's step keeps it
  pub node_step : (node : NodeState) (input : Input Mail OrderLine) → N node → N (node_table node input).0
  node_step node (Got mail) n = either_way (λ (step : NodeState × List Mail). N step.0) (may_come mail.from mail.body) (routed (group_of_mail mail.body) mail.from mail.body node) (node, []) (routed_step (group_of_mail mail.body) mail.from mail.body node n) n
  node_step node Tick n = (n.0, ticked_step node.policy node.draws node.replicas [] n.1)
  node_step node (Told line) n = ordered_step (replica_of (group_of_order line.order) node.replicas) line node (found_one W (group_of_order line.order) node.replicas n.1) n
  node_step node Go n = n
