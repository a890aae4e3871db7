-- What a node owes: of its replicas one is changed by a mail, and others are created.
use Rattle.std.proofs.Common.{◌≡◌, ℕ, ◌+◌, ◌*◌, ◌≤◌, ◌==◌, ◌||◌, not, false, cond, List, [], ◌∷◌, length, sum_by, Option, Some, None, is_some, nat_lt, inl, inr, refl, sym, ◌∙◌, ap, arith}
use Rattle.std.proofs.lemmas.Bool.{cond_both, cond-true, cond-false, cases_Bool}
use Rattle.std.proofs.lemmas.List.Sums.{sum_by-cons}
use Rattle.sc_base.specs.Definitions.{same_draw}
use Rattle.sc_node_table.specs.Values.{Draw, Base, OrderLine, Refused, AnswerBody, Mail, MailBody, Request, Answer, Prepare, Accept, Learn, Ask, Install, TxPrepare, TxElsewhere, TxWatch, Told}
use Rattle.sc_words.specs.declared.commands.orders.OrderRefusal.TheVariants.{NotLeader}
use Rattle.sc_mail.specs.declared.bodies.AnswerBody.TheVariants as Says
use Rattle.sc_node_table.specs.NodeDefinitions.{NodeState, replica_of, with_replica, is_before, with_new, group_of_mail, with_made, unknown, may_come, with_born, with_children, taken_by, routed, on_mail, group_of_order, ordered_of, on_order, ordered_row, ReplicaState, Place, Executed, name_of, born_replica, last_slot, mailed, made_by, slots_ahead}
use Rattle.sc_live_steps.specs.calm.CalmDefinitions.{Lowers, MayPump, node_owes, group_owes, turn_owes, IsTaken, after_mail, IsDelivered, MayMiss, NodesLower, NodesRaiseLittle, Ways, answer_owes, elsewhere_owes, body_owes, mail_owes, replica_owes, idle_owes}
use Rattle.sc_live_steps.proofs.CalmStepsProofs.CreatedPotential.{made_owe}
use Rattle.sc_live_steps.proofs.CalmStepsProofs.OrderPotential.{order_raises}
use Rattle.sc_live_steps.proofs.CalmStepsProofs.PotentialSums.{sent_owes}

module _ (most : ℕ) where
  abbrev pub owes : ReplicaState → ℕ
  owes r = replica_owes most r

  -- the one that is found is the one that is changed
  pub put_owes : (group : Draw) (new r : ReplicaState) (replicas : List ReplicaState) → replica_of group replicas ≡ Some r → sum_by owes (with_replica group new replicas) + owes r ≡ sum_by owes replicas + owes new
  put_owes group new r [] e = cc
  put_owes group new r (x ∷ replicas) e =
      let all = sum_by-cons owes x replicas in
      elim (cases_Bool (same_draw (name_of x) group)) [
        | inl t ↦ (
            let found : Some x ≡ Some r = sym (cond-true (same_draw (name_of x) group) (Some x) (replica_of group replicas) t) ∙ e in
            let same : x ≡ r = cc in
            let same_owes = ap owes same in
            let now = ap (sum_by owes) (cond-true (same_draw (name_of x) group) (new ∷ replicas) (x ∷ with_replica group new replicas) t) in
            let sum = sum_by-cons owes new replicas in
            omega (arith, all, same_owes, now, sum))
        | inr f ↦ (
            let rest = put_owes group new r replicas (sym (cond-false (same_draw (name_of x) group) (Some x) (replica_of group replicas) f) ∙ e) in
            let now = ap (sum_by owes) (cond-false (same_draw (name_of x) group) (new ∷ replicas) (x ∷ with_replica group new replicas) f) in
            let sum = sum_by-cons owes x (with_replica group new replicas) in
            omega (arith, all, rest, now, sum))
      ]

  -- one more owes what it owes, wherever it stands
  pub new_owes : (new : ReplicaState) (replicas : List ReplicaState) → sum_by owes (with_new new replicas) ≡ sum_by owes replicas + owes new
  new_owes new [] = let one = sum_by-cons owes new [] in omega (arith, one)
  new_owes new (x ∷ replicas) =
      let all = sum_by-cons owes x replicas in
      let rest = new_owes new replicas in
      let after = sum_by-cons owes x (with_new new replicas) in
      let before = sum_by-cons owes new (x ∷ replicas) in
      cond_both (is_before (name_of x) (name_of new)) (x ∷ with_new new replicas) (new ∷ x ∷ replicas) (λ l. sum_by owes l ≡ sum_by owes (x ∷ replicas) + owes new)
      (λ _. omega (arith, all, rest, after))
      (λ _. omega (arith, before))

  -- a child has nothing to do at its birth
  born_idle : (ahead me : ℕ) (base : Base) → owes (born_replica ahead me base) ≡ 0
  born_idle ahead me base = refl

  child_owes : (child : Base) (node : NodeState) → node_owes most (with_born child node) ≡ node_owes most node
  child_owes child node =
      let more = new_owes (born_replica slots_ahead node.me child) node.replicas in
      let none = born_idle slots_ahead node.me child in
      cond_both (is_some (replica_of child.core.id node.replicas)) node (record node { replicas = with_new (born_replica slots_ahead node.me child) node.replicas }) (λ n. node_owes most n ≡ node_owes most node)
      (λ _. refl)
      (λ _. omega (arith, more, none))

  pub children_owe : (children : List Base) (node : NodeState) → node_owes most (with_children children node) ≡ node_owes most node
  unfolding with_children
  children_owe [] node = refl
  children_owe (child ∷ children) node = children_owe children (with_born child node) ∙ child_owes child node

-- a mail that a replica takes goes to it
pub taken_turn : (from : ℕ) (group : Draw) (body : MailBody) (r : ReplicaState) (node : NodeState) → IsTaken from group body r node → on_mail from body node ≡ taken_by (Some r) group from body node
taken_turn from group body r node fact =
    cond-true (may_come from body) (routed (group_of_mail body) from body node) (node, []) fact.comes
    ∙ ap (λ o. routed o from body node) fact.named
    ∙ ap (λ o. taken_by o group from body node) fact.found

pub taken_owes : (most from : ℕ) (group : Draw) (body : MailBody) (r : ReplicaState) (node : NodeState) → IsTaken from group body r node
    → node_owes most (on_mail from body node).0 + replica_owes most r ≡ node_owes most node + replica_owes most (after_mail from body r).0
taken_owes most from group body r node fact =
    let after : Executed = mailed from body (r, []) in
    let same = ap (λ (turn : NodeState × List Mail). node_owes most turn.0) (taken_turn from group body r node fact) in
    let born = children_owe most after.1 (record node { replicas = with_replica group after.0.0 node.replicas }) in
    let put = put_owes most group after.0.0 r node.replicas fact.found in
    omega (arith, same, born, put)

-- ---- what lowers it

-- each mail that is delivered owes one at least
answer_most : (ways : Ways) (group : Draw) (answer : AnswerBody) → 1 ≤ answer_owes ways group answer
answer_most ways group (Says.NotLeader (Some node)) = omega arith
answer_most ways group (Says.NotLeader None) = omega arith
answer_most ways group _ = omega arith

elsewhere_most : (ways : Ways) (tx : Draw) (hint : Option ℕ) → 1 ≤ elsewhere_owes ways tx hint
elsewhere_most ways tx None = omega arith
elsewhere_most ways tx (Some node) = omega arith

pub body_most : (ways : Ways) (to : ℕ) (body : MailBody) → IsDelivered body → 1 ≤ body_owes ways to body
body_most ways to (Told order result) d = absurd d
body_most ways to (Answer group seq answer) d = answer_most ways group answer
body_most ways to (TxElsewhere tx coord hint) d = elsewhere_most ways tx hint
body_most ways to _ d = omega arith

-- a node that stays as it is and sends nothing
still_lowers : (ways : Ways) (to : ℕ) (body : MailBody) (node : NodeState) (turn : NodeState × List Mail) → IsDelivered body → turn ≡ (node, []) → turn_owes ways turn + 1 ≤ node_owes ways.most node + body_owes ways to body
still_lowers ways to body node turn d e =
    let same = ap (turn_owes ways) e in
    let le = body_most ways to body d in
    omega (arith, same, le)

taken_lowers : (ways : Ways) (from : ℕ) (group : Draw) (body : MailBody) (r : ReplicaState) (node : NodeState) → IsTaken from group body r node → r.me ≡ node.me → Lowers ways from body (r, [])
    → turn_owes ways (on_mail from body node) + group_owes (after_mail from body r).0 + 1 ≤ node_owes ways.most node + group_owes r + body_owes ways node.me body
taken_lowers ways from group body r node fact me lowers =
    let owes = taken_owes ways.most from group body r node fact in
    let sends = ap (λ (turn : NodeState × List Mail). sum_by (mail_owes ways) turn.1) (taken_turn from group body r node fact) in
    let at = ap (λ n. body_owes ways n body) me in
    omega (arith, lowers, owes, sends, at)

stray_lowers : (ways : Ways) (from : ℕ) (body : MailBody) (node : NodeState) → IsDelivered body → group_of_mail body ≡ None → turn_owes ways (on_mail from body node) + 1 ≤ node_owes ways.most node + body_owes ways node.me body
stray_lowers ways from body node d none =
    still_lowers ways node.me body node (on_mail from body node) d
    (ap (λ (turn : NodeState × List Mail). cond (may_come from body) turn (node, [])) (ap (λ o. routed o from body node) none)
    ∙ cond_both (may_come from body) (node, []) (node, []) (λ (turn : NodeState × List Mail). turn ≡ (node, [])) (λ _. refl) (λ _. refl))

barred_lowers : (ways : Ways) (from : ℕ) (body : MailBody) (node : NodeState) → IsDelivered body → may_come from body ≡ false → turn_owes ways (on_mail from body node) + 1 ≤ node_owes ways.most node + body_owes ways node.me body
barred_lowers ways from body node d barred =
    still_lowers ways node.me body node (on_mail from body node) d (cond-false (may_come from body) (routed (group_of_mail body) from body node) (node, []) barred)

-- ---- a mail for a group of which the node has no replica

missed_is : (body : MailBody) → MayMiss body → IsDelivered body
missed_is (Told order result) m = absurd m
missed_is (Request group client seq op) m = absurd m
missed_is (Learn group slot command) m = absurd m
missed_is (Install group slot base sets) m = absurd m
missed_is _ m = tt

module _ (ways : Ways) where
  -- what is sent then owes less than the mail
  unknown_owes : (from : ℕ) (body : MailBody) (node : NodeState) → MayMiss body → turn_owes ways (unknown from body node) + 1 ≤ node_owes ways.most node + body_owes ways node.me body
  unknown_owes from (Told order result) node m = absurd m
  unknown_owes from (Request group client seq op) node m = absurd m
  unknown_owes from (Learn group slot command) node m = absurd m
  unknown_owes from (Install group slot base sets) node m = absurd m
  unknown_owes from (Answer group seq answer) node m = let le = answer_most ways group answer in omega (arith, le)
  unknown_owes from (Prepare group ballot from_slot) node m = let s = sent_owes ways node.me from (Ask group 0) [] in omega (arith, s)
  unknown_owes from (Accept group ballot slot command) node m = let s = sent_owes ways node.me from (Ask group 0) [] in omega (arith, s)
  unknown_owes from (TxPrepare tx offer) node m = let s = sent_owes ways node.me from (TxElsewhere tx offer.coord None) [] in omega (arith, s)
  unknown_owes from (TxElsewhere tx coord hint) node m = let le = elsewhere_most ways tx hint in omega (arith, le)
  unknown_owes from (TxWatch tx watch) node m = let s = sent_owes ways node.me from (TxElsewhere tx watch.coord None) [] in omega (arith, s)
  unknown_owes from _ node m = omega arith

  missed_lowers : (from : ℕ) (group : Draw) (body : MailBody) (node : NodeState) → MayMiss body → group_of_mail body ≡ Some group → replica_of group node.replicas ≡ None
      → turn_owes ways (on_mail from body node) + 1 ≤ node_owes ways.most node + body_owes ways node.me body
  missed_lowers from group body node m named none =
      let goes : routed (group_of_mail body) from body node ≡ unknown from body node = ap (λ o. routed o from body node) named ∙ ap (λ o. taken_by o group from body node) none in
      cond_both (may_come from body) (routed (group_of_mail body) from body node) (node, []) (λ (turn : NodeState × List Mail). turn_owes ways turn + 1 ≤ node_owes ways.most node + body_owes ways node.me body)
      (λ _. (let le = unknown_owes from body node m in let same = ap (turn_owes ways) goes in omega (arith, le, same)))
      (λ _. still_lowers ways node.me body node (node, []) (missed_is body m) refl)

  -- ---- a state for a group of which the node has no replica

  abbrev MadeLowers : ℕ → Draw → ℕ → Base → List (List ℕ) → NodeState → NodeState × List Mail → Type 0
  MadeLowers from group slot base sets node turn =
      turn_owes ways turn + group_owes (made_by node.me from group slot base sets).0 + 1 ≤ node_owes ways.most node + idle_owes false base.core.gone + body_owes ways node.me (Install group slot base sets)

  passed_lowers : (from : ℕ) (group : Draw) (slot : ℕ) (base : Base) (sets : List (List ℕ)) (node : NodeState) → MadeLowers from group slot base sets node (node, [])
  passed_lowers from group slot base sets node = let le = made_owe ways node.me from group slot base sets in omega (arith, le)

  state_lowers : (from : ℕ) (group : Draw) (slot : ℕ) (base : Base) (sets : List (List ℕ)) (node : NodeState) → MadeLowers from group slot base sets node (unknown from (Install group slot base sets) node)
  state_lowers from group slot base sets node =
      let le = made_owe ways node.me from group slot base sets in
      let more = new_owes ways.most (made_by node.me from group slot base sets).0 node.replicas in
      cond_both (not (length sets == slots_ahead) || nat_lt last_slot slot) (node, []) (with_made (made_by node.me from group slot base sets) node) (MadeLowers from group slot base sets node)
      (λ _. passed_lowers from group slot base sets node)
      (λ _. omega (arith, le, more))

  made_lowers : (from : ℕ) (group : Draw) (slot : ℕ) (base : Base) (sets : List (List ℕ)) (node : NodeState) → replica_of group node.replicas ≡ None
      → MadeLowers from group slot base sets node (on_mail from (Install group slot base sets) node)
  made_lowers from group slot base sets node none =
      let goes : routed (Some group) from (Install group slot base sets) node ≡ unknown from (Install group slot base sets) node = ap (λ o. taken_by o group from (Install group slot base sets) node) none in
      cond_both (may_come from (Install group slot base sets)) (routed (Some group) from (Install group slot base sets) node) (node, []) (MadeLowers from group slot base sets node)
      (λ _. (let le = state_lowers from group slot base sets node in let same = ap (turn_owes ways) goes in omega (arith, le, same)))
      (λ _. passed_lowers from group slot base sets node)

-- A mail lowers what its node owes, and is to be delivered: where its replica of the mail's group lowers it, where the mail is no group's or comes from one who sends no such mail, and where the node has no replica of the group, also where it makes one of the state that it is sent.
pub nodes_lower : NodesLower
nodes_lower = record {
  taken = taken_lowers;
  stray = stray_lowers;
  barred = barred_lowers;
  missed = missed_lowers;
  made = made_lowers;
}

-- ---- orders

ordered_raises : (ways : Ways) (line : OrderLine) (r : ReplicaState) (node : NodeState) → replica_of (group_of_order line.order) node.replicas ≡ Some r → MayPump r
    → turn_owes ways (on_order line node) + group_owes (ordered_row node.draws line (r, [])).0 ≤ node_owes ways.most node + group_owes r + (242 + 4 * ways.most)
ordered_raises ways line r node found may =
    let after : Place = ordered_row node.draws line (r, []) in
    let same = ap (λ o. turn_owes ways (ordered_of o line node)) found in
    let put = put_owes ways.most (group_of_order line.order) after.0 r node.replicas found in
    let le = order_raises ways node.draws line (r, []) may in
    omega (arith, same, put, le)

refused_raises : (ways : Ways) (line : OrderLine) (node : NodeState) → replica_of (group_of_order line.order) node.replicas ≡ None → turn_owes ways (on_order line node) ≤ node_owes ways.most node
refused_raises ways line node none =
    let same = ap (λ o. turn_owes ways (ordered_of o line node)) none in
    let s = sent_owes ways node.me 0 (Told line.number (Refused (NotLeader None))) [] in
    omega (arith, same, s)

-- An order raises what its node owes by what a transaction with two other groups takes, at most; one for a group of which the node has no replica raises nothing.
pub raise_little : NodesRaiseLittle
raise_little = record { ordered = ordered_raises; refused = refused_raises }
