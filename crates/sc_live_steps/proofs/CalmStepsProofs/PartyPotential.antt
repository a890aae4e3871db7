-- What a node and all groups owe: one replica of the node is changed by a mail, and the groups of the others owe no more.
use Rattle.std.proofs.Common.{◌≡◌, ℕ, ◌+◌, ◌*◌, ◌≤◌, Bool, true, false, true≢false, cond, List, [], ◌∷◌, sum_by, Option, Some, None, is_some, inl, inr, refl, sym, ◌∙◌, ap, arith}
use Rattle.std.proofs.lemmas.Bool.{cond_both, cond-true, cond-false, cases_Bool}
use Rattle.std.proofs.lemmas.List.Sums.{sum_by-cons}
use Rattle.sc_base.specs.Definitions.{Each, same_draw}
use Rattle.sc_node_table.specs.Values.{Draw, Base, OrderLine, Mail, MailBody}
use Rattle.sc_base.proofs.Lemmas.{draw_is, same_name}
use Rattle.sc_node_table.specs.NodeDefinitions.{NodeState, replica_of, with_replica, is_before, with_new, with_born, with_children, taken_by, on_mail, group_of_order, ordered_of, on_order, ordered_row, ReplicaState, Place, Executed, name_of, born_replica, mailed, slots_ahead}
use Rattle.sc_live_steps.specs.calm.CalmDefinitions.{IsLedMail, LedPartiesLower, group_owes, IsTaken, after_mail, Ways, body_owes, mail_owes, idle_with, Elsewhere, party_owes, party_turn_owes, StandsOnce, IsCalmMail, IsCalmOrder, PartiesLower, PartiesRaiseLittle}
use Rattle.sc_live_steps.proofs.CalmStepsProofs.NodePotential.{taken_turn, taken_owes, raise_little}
pub use Rattle.sc_meaning.proofs.EntriesProofs.Names.{other_name as apart}
pub use Rattle.sc_live_steps.proofs.CalmStepsProofs.PotentialSums.{idle_most}

-- ---- which replica is found after one is changed, and others are created

-- the changed one is found under its name
pub put_found : (group : Draw) (new r : ReplicaState) (replicas : List ReplicaState) → name_of new ≡ group → replica_of group replicas ≡ Some r → replica_of group (with_replica group new replicas) ≡ Some new
put_found group new r [] n e = cc
put_found group new r (x ∷ replicas) n e =
    cond_both (same_draw (name_of x) group) (new ∷ replicas) (x ∷ with_replica group new replicas) (λ l. replica_of group l ≡ Some new)
    (λ _. cond-true (same_draw (name_of new) group) (Some new) (replica_of group replicas) (same_name (name_of new) group n))
    (λ f. cond-false (same_draw (name_of x) group) (Some x) (replica_of group (with_replica group new replicas)) f
    ∙ put_found group new r replicas n (sym (cond-false (same_draw (name_of x) group) (Some x) (replica_of group replicas) f) ∙ e))

-- and the others as before
pub put_others : (group other : Draw) (new : ReplicaState) (replicas : List ReplicaState) → name_of new ≡ group → (other ≡ group → ⊥) → replica_of other (with_replica group new replicas) ≡ replica_of other replicas
put_others group other new [] n ne = refl
put_others group other new (x ∷ replicas) n ne =
    cond_both (same_draw (name_of x) group) (new ∷ replicas) (x ∷ with_replica group new replicas) (λ l. replica_of other l ≡ cond (same_draw (name_of x) other) (Some x) (replica_of other replicas))
    (λ t. (let here = draw_is (name_of x) group t in
    cond-false (same_draw (name_of new) other) (Some new) (replica_of other replicas) (apart (name_of new) other (λ e. ne (sym e ∙ n)))
    ∙ sym (cond-false (same_draw (name_of x) other) (Some x) (replica_of other replicas) (apart (name_of x) other (λ e. ne (sym e ∙ here))))))
    (λ _. ap (λ (o : Option ReplicaState). cond (same_draw (name_of x) other) (Some x) o) (put_others group other new replicas n ne))

-- one more of another name hides none
pub new_found : (group : Draw) (new r : ReplicaState) (replicas : List ReplicaState) → (name_of new ≡ group → ⊥) → replica_of group replicas ≡ Some r → replica_of group (with_new new replicas) ≡ Some r
new_found group new r [] ne e = cc
new_found group new r (x ∷ replicas) ne e =
    cond_both (is_before (name_of x) (name_of new)) (x ∷ with_new new replicas) (new ∷ x ∷ replicas) (λ l. replica_of group l ≡ Some r)
    (λ _. elim (cases_Bool (same_draw (name_of x) group)) [
      | inl t ↦ cond-true (same_draw (name_of x) group) (Some x) (replica_of group (with_new new replicas)) t ∙ sym (cond-true (same_draw (name_of x) group) (Some x) (replica_of group replicas) t) ∙ e
      | inr f ↦
          cond-false (same_draw (name_of x) group) (Some x) (replica_of group (with_new new replicas)) f
          ∙ new_found group new r replicas ne (sym (cond-false (same_draw (name_of x) group) (Some x) (replica_of group replicas) f) ∙ e)
    ])
    (λ _. cond-false (same_draw (name_of new) group) (Some new) (replica_of group (x ∷ replicas)) (apart (name_of new) group ne) ∙ e)

-- a child is created where none of its name is
pub child_found : (group : Draw) (r : ReplicaState) (child : Base) (node : NodeState) → replica_of group node.replicas ≡ Some r → replica_of group (with_born child node).replicas ≡ Some r
child_found group r child node e =
    cond_both (is_some (replica_of child.core.id node.replicas)) node (record node { replicas = with_new (born_replica slots_ahead node.me child) node.replicas }) (λ n. replica_of group n.replicas ≡ Some r)
    (λ _. e)
    (λ f. new_found group (born_replica slots_ahead node.me child) r node.replicas (other f) e)
  where
    other : is_some (replica_of child.core.id node.replicas) ≡ false → child.core.id ≡ group → ⊥
    other f n =
        let t : is_some (replica_of child.core.id node.replicas) ≡ true = ap (λ name. is_some (replica_of name node.replicas)) n ∙ ap is_some e in
        cc

pub children_found : (group : Draw) (r : ReplicaState) (children : List Base) (node : NodeState) → replica_of group node.replicas ≡ Some r → replica_of group (with_children children node).replicas ≡ Some r
unfolding with_children
children_found group r [] node e = e
children_found group r (child ∷ children) node e = children_found group r children (with_born child node) (child_found group r child node e)

-- ---- what groups owe

-- a group owes most where the node has no replica of it
with_most : (b : Bool) (here : Option ReplicaState) → idle_with b here ≤ idle_with b None
with_most true here = omega arith
with_most false None = omega arith
with_most false (Some r) = idle_most r.running r.group.core.gone

-- a group owes no more while the node's replica of it stays
pub stays_owes : (b : Bool) (old new : Option ReplicaState) → ((r : ReplicaState) → old ≡ Some r → new ≡ Some r) → idle_with b new ≤ idle_with b old
stays_owes b None new stays = with_most b new
stays_owes b (Some r) new stays = let same = ap (idle_with b) (stays r refl) in omega (arith, same)

-- a group that another leads, or that is gone at another, owes nothing
pub led_owes_none : (b : Bool) (here : Option ReplicaState) → b ≡ true → idle_with b here ≡ 0
led_owes_none true here e = refl
led_owes_none false here e = absurd (true≢false (sym e))

-- where each group owes no more, all owe no more
pub sums_less : (before after : Draw → ℕ) → ((name : Draw) → after name ≤ before name) → (groups : List Draw) → sum_by after groups ≤ sum_by before groups
sums_less before after less [] = omega arith
sums_less before after less (name ∷ groups) =
    let one = less name in
    let rest = sums_less before after less groups in
    let a = sum_by-cons after name groups in
    let b = sum_by-cons before name groups in
    omega (arith, one, rest, a, b)

module _ (elsewhere : Elsewhere) (group : Draw) (old new : NodeState)
    (others : (other : Draw) → (other ≡ group → ⊥) → idle_with (elsewhere other) (replica_of other new.replicas) ≤ idle_with (elsewhere other) (replica_of other old.replicas)) where
  abbrev before : Draw → ℕ
  before name = idle_with (elsewhere name) (replica_of name old.replicas)

  abbrev after : Draw → ℕ
  after name = idle_with (elsewhere name) (replica_of name new.replicas)

  others_owe : (groups : List Draw) → Each (λ another. another ≡ group → ⊥) groups → sum_by after groups ≤ sum_by before groups
  others_owe [] apart_ = omega arith
  others_owe (name ∷ groups) apart_ =
      let one = others name apart_.0 in
      let rest = others_owe groups apart_.1 in
      let a = sum_by-cons after name groups in
      let b = sum_by-cons before name groups in
      omega (arith, one, rest, a, b)

  -- only this one may owe more
  pub once_owes : (groups : List Draw) → StandsOnce group groups → sum_by after groups + before group ≤ sum_by before groups + after group
  once_owes [] once = absurd once
  once_owes (name ∷ groups) (inl fact) =
      let rest = others_owe groups fact.1 in
      let a = sum_by-cons after name groups in
      let b = sum_by-cons before name groups in
      let now = ap after fact.0 in
      let was = ap before fact.0 in
      omega (arith, rest, a, b, now, was)
  once_owes (name ∷ groups) (inr fact) =
      let one = others name fact.0 in
      let rest = once_owes groups fact.1 in
      let a = sum_by-cons after name groups in
      let b = sum_by-cons before name groups in
      omega (arith, one, rest, a, b)

-- ---- a mail

module _ (elsewhere : Elsewhere) (from : ℕ) (group : Draw) (body : MailBody) (r : ReplicaState) (node : NodeState) (taken : IsTaken from group body r node) (same : name_of (after_mail from body r).0 ≡ group) where
  abbrev done : Executed
  done = mailed from body (r, [])

  abbrev turn : NodeState × List Mail
  turn = on_mail from body node

  goes : turn ≡ taken_by (Some r) group from body node
  goes = taken_turn from group body r node taken

  found : replica_of group turn.0.replicas ≡ Some done.0.0
  found =
      ap (λ (t : NodeState × List Mail). replica_of group t.0.replicas) goes
      ∙ children_found group done.0.0 done.1 (record node { replicas = with_replica group done.0.0 node.replicas }) (put_found group done.0.0 r node.replicas same taken.found)

  other_stays : (other : Draw) → (other ≡ group → ⊥) → (x : ReplicaState) → replica_of other node.replicas ≡ Some x → replica_of other turn.0.replicas ≡ Some x
  other_stays other ne x e =
      ap (λ (t : NodeState × List Mail). replica_of other t.0.replicas) goes
      ∙ children_found other x done.1 (record node { replicas = with_replica group done.0.0 node.replicas }) (put_others group other done.0.0 node.replicas same ne ∙ e)

  others_less : (other : Draw) → (other ≡ group → ⊥) → idle_with (elsewhere other) (replica_of other turn.0.replicas) ≤ idle_with (elsewhere other) (replica_of other node.replicas)
  others_less other ne = stays_owes (elsewhere other) (replica_of other node.replicas) (replica_of other turn.0.replicas) (other_stays other ne)

  -- what the replica's group owes among others, where it rises as much as at the replica, or less
  own_owes : (b : Bool) → (b ≡ true → group_owes r ≤ group_owes done.0.0) → idle_with b (Some done.0.0) + group_owes r ≤ idle_with b (Some r) + group_owes done.0.0
  own_owes true alone = let le = alone refl in omega (arith, le)
  own_owes false alone = omega arith

module _ (ways : Ways) (elsewhere : Elsewhere) (from : ℕ) (group : Draw) (body : MailBody) (r : ReplicaState) (node : NodeState) where
  mail_lowers : IsCalmMail ways elsewhere from group body r node → (groups : List Draw) → StandsOnce group groups
      → party_turn_owes ways groups elsewhere (on_mail from body node) + 1 ≤ party_owes ways groups elsewhere node + body_owes ways node.me body
  mail_lowers fact groups once =
      let owes = taken_owes ways.most from group body r node fact.taken in
      let sends = ap (λ (t : NodeState × List Mail). sum_by (mail_owes ways) t.1) (goes elsewhere from group body r node fact.taken fact.same) in
      let at = ap (λ n. body_owes ways n body) fact.here in
      let lowers = fact.lowers in
      let all = once_owes elsewhere group node (on_mail from body node).0 (others_less elsewhere from group body r node fact.taken fact.same) groups once in
      let now = ap (idle_with (elsewhere group)) (found elsewhere from group body r node fact.taken fact.same) in
      let was = ap (idle_with (elsewhere group)) fact.taken.found in
      let own = own_owes elsewhere from group body r node fact.taken fact.same (elsewhere group) fact.alone in
      omega (arith, owes, sends, at, lowers, all, now, was, own)

  -- where another leads or is gone, the group owes nothing before and after
  all_less : IsLedMail ways elsewhere from group body r node → (name : Draw) → idle_with (elsewhere name) (replica_of name (on_mail from body node).0.replicas) ≤ idle_with (elsewhere name) (replica_of name node.replicas)
  all_less fact name =
      elim (cases_Bool (same_draw name group)) [
        | inl t ↦ (let none = led_owes_none (elsewhere name) (replica_of name (on_mail from body node).0.replicas) (ap elsewhere (draw_is name group t) ∙ fact.led) in omega (arith, none))
        | inr f ↦ others_less elsewhere from group body r node fact.taken fact.same name (λ e. true≢false (sym (same_name name group e) ∙ f))
      ]

  led_lowers : IsLedMail ways elsewhere from group body r node → (groups : List Draw) → party_turn_owes ways groups elsewhere (on_mail from body node) + 1 ≤ party_owes ways groups elsewhere node + body_owes ways node.me body
  led_lowers fact groups =
      let owes = taken_owes ways.most from group body r node fact.taken in
      let sends = ap (λ (t : NodeState × List Mail). sum_by (mail_owes ways) t.1) (goes elsewhere from group body r node fact.taken fact.same) in
      let at = ap (λ n. body_owes ways n body) fact.here in
      let lowers = fact.lowers in
      let all = sums_less (λ name. idle_with (elsewhere name) (replica_of name node.replicas)) (λ name. idle_with (elsewhere name) (replica_of name (on_mail from body node).0.replicas)) (all_less fact) groups in
      omega (arith, owes, sends, at, lowers, all)

-- A mail that lowers what is owed at its replica lowers what is owed by the node and by all groups, each of which owes an election once while no replica of it runs or is gone at any node; where another of its group leads or is gone, the replica neither begins to lead nor goes by the mail.
pub parties_lower : PartiesLower
parties_lower ways groups elsewhere from group body r node once fact = mail_lowers ways elsewhere from group body r node fact groups once

-- Where another of its group leads or is gone, a mail by which a replica owes less by itself lowers what is owed by its node and by all groups, also where the replica goes by it: no group needs to be idle.
pub led_parties_lower : LedPartiesLower
led_parties_lower ways groups elsewhere from group body r node fact = led_lowers ways elsewhere from group body r node fact groups

-- ---- an order

module _ (ways : Ways) (elsewhere : Elsewhere) (line : OrderLine) (r : ReplicaState) (node : NodeState) (fact : IsCalmOrder elsewhere line r node) where
  abbrev told : Place
  told = ordered_row node.draws line (r, [])

  abbrev order_turn : NodeState × List Mail
  order_turn = on_order line node

  order_goes : order_turn ≡ ordered_of (Some r) line node
  order_goes = ap (λ o. ordered_of o line node) fact.found

  order_found : replica_of (group_of_order line.order) order_turn.0.replicas ≡ Some told.0
  order_found = ap (λ (t : NodeState × List Mail). replica_of (group_of_order line.order) t.0.replicas) order_goes ∙ put_found (group_of_order line.order) told.0 r node.replicas fact.same fact.found

  order_stays : (other : Draw) → (other ≡ group_of_order line.order → ⊥) → (x : ReplicaState) → replica_of other node.replicas ≡ Some x → replica_of other order_turn.0.replicas ≡ Some x
  order_stays other ne x e = ap (λ (t : NodeState × List Mail). replica_of other t.0.replicas) order_goes ∙ put_others (group_of_order line.order) other told.0 node.replicas fact.same ne ∙ e

  order_less : (other : Draw) → (other ≡ group_of_order line.order → ⊥) → idle_with (elsewhere other) (replica_of other order_turn.0.replicas) ≤ idle_with (elsewhere other) (replica_of other node.replicas)
  order_less other ne = stays_owes (elsewhere other) (replica_of other node.replicas) (replica_of other order_turn.0.replicas) (order_stays other ne)

  order_own : (b : Bool) → (b ≡ true → group_owes r ≤ group_owes told.0) → idle_with b (Some told.0) + group_owes r ≤ idle_with b (Some r) + group_owes told.0
  order_own true alone = let le = alone refl in omega (arith, le)
  order_own false alone = omega arith

  order_raises : (groups : List Draw) → StandsOnce (group_of_order line.order) groups → party_turn_owes ways groups elsewhere order_turn ≤ party_owes ways groups elsewhere node + (242 + 4 * ways.most)
  order_raises groups once =
      let le = raise_little.ordered ways line r node fact.found fact.pumps in
      let all = once_owes elsewhere (group_of_order line.order) node order_turn.0 order_less groups once in
      let now = ap (idle_with (elsewhere (group_of_order line.order))) order_found in
      let was = ap (idle_with (elsewhere (group_of_order line.order))) fact.found in
      let own = order_own (elsewhere (group_of_order line.order)) fact.alone in
      omega (arith, le, all, now, was, own)

-- An order raises what is owed by its node and by all groups by what a transaction with two other groups takes, at most.
pub parties_raise_little : PartiesRaiseLittle
parties_raise_little ways groups elsewhere line r node once fact = order_raises ways elsewhere line r node fact groups once
