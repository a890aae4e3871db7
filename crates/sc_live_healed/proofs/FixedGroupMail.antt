-- What a mail of a group that is not reshaped does at a node: the node's replica of the group takes it.
use Rattle.std.proofs.Common.{◌≡◌, ℕ, true, false, List, [], Option, Some, None, ◌⊎◌, inl, inr, refl, sym, ◌∙◌, ap, subst}
use Rattle.std.proofs.lemmas.Bool.{cond_both}
use Rattle.sc_base.specs.Definitions.{Among, same_draw, is_member}
use Rattle.sc_base.proofs.Lemmas.{draw_is}
use Rattle.sc_words.proofs.PaxosProofs.PaxosLemmas.{Each-among, find_found}
use Rattle.sc_node_table.specs.Values.{Draw, Base, Got, Mail}
use Rattle.sc_node_table.specs.NodeDefinitions.{NodeState, ReplicaState, Executed, name_of, replica_of, with_replica, with_children, taken_by, routed, may_come, group_of_mail, mailed, node_table}
use Rattle.sc_live_healed.proofs.FixedWalks.{IsFixedPlace, IsMember}
use Rattle.sc_live_healed.proofs.FixedPlaces.{mailed_fixed}
use Rattle.sc_live_healed.proofs.FixedNodes.{AreFresh, into, group_is, to_member, name_one, One}
use Rattle.sc_live_healed.specs.HealedDefinitions.{IsFixedReplica, KeepsBallots, IsFixedBody, IsFixedMail, IsFixedNode}

-- the node's replica of a group takes the mail
pub record TakesMail (bases : List Base) (node : NodeState) (mail : Mail) : Type 0 where
  pub base : Base
  pub among : Among base bases
  pub says : IsFixedBody base mail.from node.me mail.body
  pub group : group_of_mail mail.body ≡ Some base.core.id
  pub replica : ReplicaState
  pub found : replica_of base.core.id node.replicas ≡ Some replica
  pub member : is_member base.core.members node.me ≡ true
  pub me_is : replica.me ≡ node.me
  pub fixed : IsFixedReplica base replica
  pub ballots : KeepsBallots base replica
  pub after : IsFixedPlace base node.me (mailed mail.from mail.body (replica, [])).0
  pub step : node_table node (Got mail) ≡ (record node { replicas = with_replica base.core.id (mailed mail.from mail.body (replica, [])).0.0 node.replicas }, (mailed mail.from mail.body (replica, [])).0.1)

-- the mail changes nothing: it is for no group, or may not come
pub record PassesMail (node : NodeState) (mail : Mail) : Type 0 where
  pub why : (may_come mail.from mail.body ≡ false) ⊎ (group_of_mail mail.body ≡ None)
  pub step : node_table node (Got mail) ≡ (node, [])

module _ (bases : List Base) (fresh : AreFresh bases) (node : NodeState) (k : IsFixedNode bases node) (mail : Mail) (m : IsFixedMail bases mail) (to : mail.to ≡ node.me) where
  abbrev Taken : NodeState × List Mail → Type 0
  Taken step = step ≡ node_table node (Got mail) → PassesMail node mail ⊎ TakesMail bases node mail

  by_replica : (r : ReplicaState) (one : One bases fresh node k r) (group : Draw) → replica_of group node.replicas ≡ Some r → group_of_mail mail.body ≡ Some group → one.0.core.id ≡ group → IsFixedBody one.0 mail.from node.me mail.body → Taken (taken_by (Some r) group mail.from mail.body node)
  unfolding with_children
  by_replica r one group e of id heard step =
      let kept = mailed_fixed one.0 node.me (fresh.each one.0 one.1 node.me one.2) mail.from mail.body (r, []) heard (into bases fresh node.me r one) in
      let after : Executed = mailed mail.from mail.body (r, []) in
      inr (record {
        base = one.0;
        among = one.1;
        says = heard;
        group = of ∙ ap Some (sym id);
        replica = r;
        found = ap (λ (n : Draw). replica_of n node.replicas) id ∙ e;
        member = one.2;
        me_is = one.3;
        fixed = one.4;
        ballots = one.5;
        after = kept.0;
        step = sym step ∙ ap (λ (children : List Base). (with_children children (record node { replicas = with_replica group after.0.0 node.replicas }), after.0.1)) kept.1
            ∙ ap (λ (n : Draw). (record node { replicas = with_replica n after.0.0 node.replicas }, after.0.1)) (sym id);
      })

  taken : (o : Option ReplicaState) (group : Draw) → replica_of group node.replicas ≡ o → group_of_mail mail.body ≡ Some group → Taken (taken_by o group mail.from mail.body node)
  taken None group e of step =
      let id : m.base.core.id ≡ group = group_is bases fresh node.me m.base mail.from mail.to group mail.body of m.says in
      let member : IsMember m.base node.me = ap (λ (n : ℕ). is_member m.base.core.members n) (sym to) ∙ to_member bases fresh node.me m.base mail.from mail.to group mail.body of m.says in
      let has = k.has m.base m.among member in
      absurd (let found : replica_of group node.replicas ≡ Some has.0 = ap (λ (n : Draw). replica_of n node.replicas) (sym id) ∙ has.1 in cc)
  taken (Some r) group e of step =
      let id : m.base.core.id ≡ group = group_is bases fresh node.me m.base mail.from mail.to group mail.body of m.says in
      let found = find_found (λ (x : ReplicaState). same_draw (name_of x) group) node.replicas r e in
      let one : One bases fresh node k r = Each-among (One bases fresh node k) node.replicas r k.replicas found.0 in
      let same : one.0 ≡ m.base = fresh.apart one.0 m.base one.1 m.among (sym (name_one bases fresh node.me r one) ∙ (draw_is (name_of r) group found.1 ∙ sym id)) in
      let heard : IsFixedBody one.0 mail.from node.me mail.body = subst (λ (to : ℕ). IsFixedBody one.0 mail.from to mail.body) to (subst (λ (b : Base). IsFixedBody b mail.from mail.to mail.body) (sym same) m.says) in
      by_replica r one group e of (ap (λ (b : Base). b.core.id) same ∙ id) heard step

  sent_on : (o : Option Draw) → group_of_mail mail.body ≡ o → Taken (routed o mail.from mail.body node)
  sent_on None e step = inl (record { why = inr e; step = sym step })
  sent_on (Some group) e step = taken (replica_of group node.replicas) group refl e step

  -- a mail of these groups passes, or a replica takes it
  pub mail_taken : PassesMail node mail ⊎ TakesMail bases node mail
  mail_taken =
      cond_both (may_come mail.from mail.body) (routed (group_of_mail mail.body) mail.from mail.body node) (node, []) Taken
      (λ _. sent_on (group_of_mail mail.body) refl) (λ f step. inl (record { why = inl f; step = sym step })) refl
