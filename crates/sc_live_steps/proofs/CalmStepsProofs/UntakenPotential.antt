-- A node among others, and mail that no replica of it takes: it stays as it is, or makes a replica.
use Rattle.std.proofs.Common.{◌≡◌, ℕ, ◌+◌, ◌-◌, ◌^◌, ◌≤◌, ◌==◌, ◌||◌, not, eqb, Bool, true, false, true≢false, cond, List, [], ◌∷◌, length, Some, None, nat_lt, inl, inr, refl, sym, ◌∙◌, ap, arith}
use Rattle.std.proofs.lemmas.Bool.{cond_both, cond-true, cond-false, cases_Bool}
use Rattle.sc_base.specs.Definitions.{same_draw, is_member}
use Rattle.sc_node_table.specs.Values.{Draw, Base, Mail, MailBody, Request, Learn, Install, Told}
use Rattle.sc_base.proofs.Lemmas.{draw_is, same_name}
use Rattle.sc_group_table.specs.machine.MachineDefinitions.{Group}
use Rattle.sc_node_table.specs.NodeDefinitions.{elected, looked, named, NodeState, replica_of, is_before, with_new, group_of_mail, with_made, unknown, may_come, taken_by, routed, on_mail, ReplicaState, Place, name_of, members, forgotten, installed_replica, last_slot, looked_up, made_by, slots_ahead}
use Rattle.sc_law_walks.proofs.WalkLemmas.{either_way}
use Rattle.sc_live_steps.proofs.ExecutionParts.{looks_from}
use Rattle.sc_live_steps.specs.calm.CalmDefinitions.{led_owes, IsDelivered, MayMiss, Ways, idle_with, Elsewhere, groups_owe, party_owes, party_turn_owes, StandsOnce, PartyLowers, IsMadeBehind, StrangersLower}
use Rattle.sc_live_steps.proofs.CalmStepsProofs.LedReplicas.{looked_led}
use Rattle.sc_live_steps.proofs.CalmStepsProofs.CreatedPotential.{installed_idle, made_owe}
use Rattle.sc_live_steps.proofs.CalmStepsProofs.NodePotential.{new_owes, nodes_lower}
use Rattle.sc_live_steps.proofs.CalmStepsProofs.PartyPotential.{new_found, idle_most, stays_owes, once_owes, led_owes_none, sums_less}

-- ---- a replica that is made of a state

-- one that looks for a leader is of the same group
elected_group : (r : ReplicaState) (mails : List Mail) → (elected (r, mails)).0.group ≡ r.group
unfolding elected
elected_group r mails = either_way (λ (p : Place). p.0.group ≡ r.group) (eqb r.top.round (2 ^ 32 - 1)) (r, mails) _ refl refl

looked_group : (r : ReplicaState) (mails : List Mail) → (looked (r, mails)).0.group ≡ r.group
looked_group r mails = looks_from (λ (p : Place). p.0.group ≡ r.group) r mails (λ hint. refl) (elected_group (record r { hint = Some r.me }) mails)

found_group : (from : ℕ) (r : ReplicaState) → (looked_up from (r, [])).0.group ≡ r.group
unfolding looked_up
found_group from r = either_way (λ (p : Place). p.0.group ≡ r.group) (is_member (members r) from) (record r { hint = Some from }, []) (looked (r, [])) refl (looked_group r [])

installed_name : (me slot : ℕ) (group : Draw) (base : Base) (sets : List (List ℕ)) → name_of (installed_replica me slot (named group base) sets) ≡ group
unfolding forgotten
installed_name me slot group base sets = refl

made_name : (me from : ℕ) (group : Draw) (slot : ℕ) (base : Base) (sets : List (List ℕ)) → name_of (made_by me from group slot base sets).0 ≡ group
unfolding made_by
made_name me from group slot base sets =
    ap (λ (g : Group). g.core.id) (found_group from (installed_replica me slot (named group base) sets)) ∙ installed_name me slot group base sets

-- one that does not lead owes nothing by itself
found_led : (ways : Ways) (from : ℕ) (r : ReplicaState) → (looked_up from (r, [])).0.running ≡ false → led_owes ways (looked_up from (r, [])) ≤ led_owes ways (r, [])
unfolding looked_up
found_led ways from r = by (is_member (members r) from)
  where
    by : (b : Bool) → (cond {A = Place} b (record r { hint = Some from }, []) (looked (r, []))).0.running ≡ false → led_owes ways (cond {A = Place} b (record r { hint = Some from }, []) (looked (r, []))) ≤ led_owes ways (r, [])
    by true off = omega arith
    by false off = looked_led ways r [] off

made_led : (ways : Ways) (me from : ℕ) (group : Draw) (slot : ℕ) (base : Base) (sets : List (List ℕ)) → (made_by me from group slot base sets).0.running ≡ false → led_owes ways (made_by me from group slot base sets) ≤ 0
unfolding made_by
made_led ways me from group slot base sets off =
    let le = found_led ways from (installed_replica me slot (named group base) sets) off in
    let none = (installed_idle ways.most me slot (named group base) sets).0 in
    omega (arith, le, none)

-- one more is found under its name, where none was
pub new_is : (group : Draw) (new : ReplicaState) (replicas : List ReplicaState) → name_of new ≡ group → replica_of group replicas ≡ None → replica_of group (with_new new replicas) ≡ Some new
new_is group new [] n e = cond-true (same_draw (name_of new) group) (Some new) None (same_name (name_of new) group n)
new_is group new (x ∷ replicas) n e =
    elim (cases_Bool (same_draw (name_of x) group)) [
      | inl t ↦ (let some : Some x ≡ None = sym (cond-true (same_draw (name_of x) group) (Some x) (replica_of group replicas) t) ∙ e in cc)
      | inr f ↦
          cond_both (is_before (name_of x) (name_of new)) (x ∷ with_new new replicas) (new ∷ x ∷ replicas) (λ l. replica_of group l ≡ Some new)
          (λ _. cond-false (same_draw (name_of x) group) (Some x) (replica_of group (with_new new replicas)) f ∙ new_is group new replicas n (sym (cond-false (same_draw (name_of x) group) (Some x) (replica_of group replicas) f) ∙ e))
          (λ _. cond-true (same_draw (name_of new) group) (Some new) (replica_of group (x ∷ replicas)) (same_name (name_of new) group n))
    ]

-- ---- a node that stays as it is

missed_stays : (from : ℕ) (body : MailBody) (node : NodeState) → MayMiss body → (unknown from body node).0 ≡ node
missed_stays from (Told order result) node m = absurd m
missed_stays from (Request group client seq op) node m = absurd m
missed_stays from (Learn group slot command) node m = absurd m
missed_stays from (Install group slot base sets) node m = absurd m
missed_stays from _ node m = refl

abbrev Turn : Type 0
Turn = NodeState × List Mail

module _ (from : ℕ) (body : MailBody) (node : NodeState) where
  stray_stays : group_of_mail body ≡ None → (on_mail from body node).0 ≡ node
  stray_stays none =
      ap (λ (turn : Turn). (cond (may_come from body) turn (node, [])).0) (ap (λ o. routed o from body node) none)
      ∙ cond_both (may_come from body) (node, []) (node, []) (λ (turn : Turn). turn.0 ≡ node) (λ _. refl) (λ _. refl)

  barred_stays : may_come from body ≡ false → (on_mail from body node).0 ≡ node
  barred_stays barred = ap (λ (turn : Turn). turn.0) (cond-false (may_come from body) (routed (group_of_mail body) from body node) (node, []) barred)

  unknown_stays : (group : Draw) → MayMiss body → group_of_mail body ≡ Some group → replica_of group node.replicas ≡ None → (on_mail from body node).0 ≡ node
  unknown_stays group m named none =
      let goes : routed (group_of_mail body) from body node ≡ unknown from body node = ap (λ o. routed o from body node) named ∙ ap (λ o. taken_by o group from body node) none in
      cond_both (may_come from body) (routed (group_of_mail body) from body node) (node, []) (λ (turn : Turn). turn.0 ≡ node)
      (λ _. ap (λ (turn : Turn). turn.0) goes ∙ missed_stays from body node m)
      (λ _. refl)

-- ---- among others

module _ (ways : Ways) (groups : List Draw) (elsewhere : Elsewhere) where
  stray_lowers : (from : ℕ) (body : MailBody) (node : NodeState) → IsDelivered body → group_of_mail body ≡ None → PartyLowers ways groups elsewhere from body node
  stray_lowers from body node d none =
      let le = nodes_lower.stray ways from body node d none in
      let same = ap (groups_owe groups elsewhere) (stray_stays from body node none) in
      omega (arith, le, same)

  barred_lowers : (from : ℕ) (body : MailBody) (node : NodeState) → IsDelivered body → may_come from body ≡ false → PartyLowers ways groups elsewhere from body node
  barred_lowers from body node d barred =
      let le = nodes_lower.barred ways from body node d barred in
      let same = ap (groups_owe groups elsewhere) (barred_stays from body node barred) in
      omega (arith, le, same)

  missed_lowers : (from : ℕ) (group : Draw) (body : MailBody) (node : NodeState) → MayMiss body → group_of_mail body ≡ Some group → replica_of group node.replicas ≡ None → PartyLowers ways groups elsewhere from body node
  missed_lowers from group body node m named none =
      let le = nodes_lower.missed ways from group body node m named none in
      let same = ap (groups_owe groups elsewhere) (unknown_stays from body node group m named none) in
      omega (arith, le, same)

  -- ---- one that makes a replica

  module _ (from : ℕ) (group : Draw) (slot : ℕ) (base : Base) (sets : List (List ℕ)) (node : NodeState) (none : replica_of group node.replicas ≡ None) where
    abbrev made : Place
    made = made_by node.me from group slot base sets

    abbrev after : NodeState
    after = record node { replicas = with_new made.0 node.replicas }

    named_so : name_of made.0 ≡ group
    named_so = made_name node.me from group slot base sets

    others_stay : (other : Draw) → (other ≡ group → ⊥) → (x : ReplicaState) → replica_of other node.replicas ≡ Some x → replica_of other after.replicas ≡ Some x
    others_stay other ne x e = new_found other made.0 x node.replicas (λ fact. ne (sym fact ∙ named_so)) e

    others_less : (other : Draw) → (other ≡ group → ⊥) → idle_with (elsewhere other) (replica_of other after.replicas) ≤ idle_with (elsewhere other) (replica_of other node.replicas)
    others_less other ne = stays_owes (elsewhere other) (replica_of other node.replicas) (replica_of other after.replicas) (others_stay other ne)

    all_less : elsewhere group ≡ true → (name : Draw) → idle_with (elsewhere name) (replica_of name after.replicas) ≤ idle_with (elsewhere name) (replica_of name node.replicas)
    all_less led name =
        elim (cases_Bool (same_draw name group)) [
          | inl t ↦ (let zero_ = led_owes_none (elsewhere name) (replica_of name after.replicas) (ap elsewhere (draw_is name group t) ∙ led) in omega (arith, zero_))
          | inr f ↦ others_less name (λ e. true≢false (sym (same_name name group e) ∙ f))
        ]

    abbrev MadeLowers : Turn → Type 0
    MadeLowers turn = party_turn_owes ways groups elsewhere turn + 1 ≤ party_owes ways groups elsewhere node + 1

    made_by_led : StandsOnce group groups → (b : Bool) → elsewhere group ≡ b → (b ≡ true → made.0.running ≡ false) → MadeLowers (after, made.1)
    made_by_led once true fact behind =
        let own = made_led ways node.me from group slot base sets (behind refl) in
        let more = new_owes ways.most made.0 node.replicas in
        let all = sums_less (λ name. idle_with (elsewhere name) (replica_of name node.replicas)) (λ name. idle_with (elsewhere name) (replica_of name after.replicas)) (all_less fact) groups in
        omega (arith, own, more, all)
    made_by_led once false fact behind =
        let own = made_owe ways node.me from group slot base sets in
        let more = new_owes ways.most made.0 node.replicas in
        let all = once_owes elsewhere group node after others_less groups once in
        let now = ap (idle_with (elsewhere group)) (new_is group made.0 node.replicas named_so none) ∙ ap (λ b. idle_with b (Some made.0)) fact in
        let was = ap (idle_with (elsewhere group)) none ∙ ap (λ b. idle_with b None) fact in
        let low = idle_most false base.core.gone in
        omega (arith, own, more, all, now, was, low)

    made_lowers : StandsOnce group groups → IsMadeBehind elsewhere from group slot base sets node → PartyLowers ways groups elsewhere from (Install group slot base sets) node
    made_lowers once behind =
        let goes : routed (Some group) from (Install group slot base sets) node ≡ unknown from (Install group slot base sets) node = ap (λ o. taken_by o group from (Install group slot base sets) node) none in
        let stays : MadeLowers (node, []) = omega arith in
        cond_both (may_come from (Install group slot base sets)) (routed (Some group) from (Install group slot base sets) node) (node, []) MadeLowers
        (λ _. (let same = ap (party_turn_owes ways groups elsewhere) goes in
        let le = cond_both (not (length sets == slots_ahead) || nat_lt last_slot slot) (node, []) (with_made made node) MadeLowers (λ _. stays) (λ _. made_by_led once (elsewhere group) refl behind) in
        omega (arith, same, le)))
        (λ _. stays)

-- Mail that no replica of a node takes lowers what is owed by the node and by all groups: it is for no group, comes from one who sends none such, or is for a group of which the node has no replica, also where it makes one of a state that it is sent, which does not lead where another of its group does.
pub strangers_lower : StrangersLower
strangers_lower = record {
  stray = stray_lowers;
  barred = barred_lowers;
  missed = missed_lowers;
  made = λ ways groups elsewhere from group slot base sets node once none behind. made_lowers ways groups elsewhere from group slot base sets node none once behind;
}
