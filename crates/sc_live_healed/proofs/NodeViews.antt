-- What a node's mail row does to its replica of each group: the replica of the mail's group takes the mail, and every other stays.
use Rattle.std.proofs.Common.{◌≡◌, ℕ, true, List, [], Option, Some, None, ◌⊎◌, inl, inr, refl, sym, ◌∙◌, ap, subst}
use Rattle.std.proofs.lemmas.Bool.{cond-true, cases_Bool}
use Rattle.sc_base.specs.Definitions.{Among, Each, same_draw, is_member}
use Rattle.sc_base.proofs.Lemmas.{draw_is, same_name}
use Rattle.sc_words.proofs.PaxosProofs.PaxosLemmas.{Each-among, Each-weaker, find_found}
use Rattle.sc_node_table.specs.Values.{Draw, Base, Core, Mail, MailBody, Request, Answer, Prepare, Promise, Accept, Accepted, Nack, Learn, Ask, Install}
use Rattle.sc_node_table.specs.NodeDefinitions.{NodeState, ReplicaState, Executed, name_of, replica_of, with_replica, with_children, taken_by, routed, on_mail, may_come, group_of_mail, mailed}
use Rattle.sc_live_steps.proofs.CalmStepsProofs.CalmStepLemmas.{put_found, put_others}
use Rattle.sc_live_healed.proofs.FixedWalks.{IsFresh, IsMember, IsSaid, IsFixedPlace}
use Rattle.sc_live_healed.proofs.FixedPlaces.{mailed_fixed}
use Rattle.sc_live_healed.proofs.FixedNodes.{AreFresh, IsOne, names_group, into, group_is, to_member, name_one}
use Rattle.sc_live_healed.specs.HealedDefinitions.{IsFixedBody, IsFixedMail, IsFixedNode}

-- a mail of a group that is not reshaped may come
comes : (bases : List Base) (fresh : AreFresh bases) (base : Base) → Among base bases → (from to : ℕ) (body : MailBody) → IsFixedBody base from to body → may_come from body ≡ true
comes bases fresh base a from to (Request group client seq op) h = refl
comes bases fresh base a from to (Answer group seq answer) h = fresh.within base a from h.1
comes bases fresh base a from to (Prepare group ballot from_slot) h = fresh.within base a from h.1.0
comes bases fresh base a from to (Promise group ballot reports) h = fresh.within base a from h.1.0
comes bases fresh base a from to (Accept group ballot slot command) h = fresh.within base a from h.1.0
comes bases fresh base a from to (Accepted group ballot slot) h = fresh.within base a from h.1.0
comes bases fresh base a from to (Nack group promised) h = fresh.within base a from h.1.0
comes bases fresh base a from to (Learn group slot command) h = fresh.within base a from h.1.0
comes bases fresh base a from to (Ask group from_slot) h = fresh.within base a from h.1.0
comes bases fresh base a from to (Install group slot state sets) h = fresh.within base a from h.1.0
comes bases fresh base a from to _ h = absurd h

-- what a member sends of its group is of no other
pub said_of : (base : Base) (me : ℕ) (mail : Mail) (name : Draw) → (base.core.id ≡ name → ⊥) → IsSaid base me mail → group_of_mail mail.body ≡ Some name → ⊥
said_of base me mail name other s e = other (names_group base me mail.to name mail.body e s.1).0

module _ (bases : List Base) (fresh : AreFresh bases) (base : Base) (among : Among base bases) (node : NodeState) (k : IsFixedNode bases node) where
  -- The replica of the group takes the mail.
  pub record TakesMail (mail : Mail) (step : NodeState × List Mail) : Type 0 where
    pub born : IsFresh base node.me
    pub replica : ReplicaState
    pub was : replica_of base.core.id node.replicas ≡ Some replica
    pub fixed : IsFixedPlace base node.me (replica, [])
    pub heard : IsFixedBody base mail.from node.me mail.body
    pub fact : replica_of base.core.id step.0.replicas ≡ Some (mailed mail.from mail.body (replica, [])).0.0
    pub sent : step.1 ≡ (mailed mail.from mail.body (replica, [])).0.1

  -- The replica of the group stays, and no mail of the group is sent.
  pub record PassesMail (step : NodeState × List Mail) : Type 0 where
    pub stays : replica_of base.core.id step.0.replicas ≡ replica_of base.core.id node.replicas
    pub sent : Each (λ (m : Mail). group_of_mail m.body ≡ Some base.core.id → ⊥) step.1

  -- a replica of the node is of one of the groups
  one_of : (group : Draw) (r : ReplicaState) → replica_of group node.replicas ≡ Some r → (one : IsOne bases fresh node.me r) × (one.0.core.id ≡ group)
  one_of group r e =
      let found = find_found (λ (x : ReplicaState). same_draw (name_of x) group) node.replicas r e in
      let one : IsOne bases fresh node.me r = Each-among (IsOne bases fresh node.me) node.replicas r k.replicas found.0 in
      (one, sym (name_one bases fresh node.me r one) ∙ draw_is (name_of r) group found.1)

  -- what the taking replica leaves
  abbrev left_by : Draw → Executed → NodeState × List Mail
  left_by group after = (with_children after.1 (record node { replicas = with_replica group after.0.0 node.replicas }), after.0.1)

  childless_left : (group : Draw) (after : Executed) → after.1 ≡ [] → left_by group after ≡ (record node { replicas = with_replica group after.0.0 node.replicas }, after.0.1)
  unfolding with_children
  childless_left group after none = ap (λ (children : List Base). (with_children children (record node { replicas = with_replica group after.0.0 node.replicas }), after.0.1)) none

  -- ---- by the group of the mail

  module _ (mail : Mail) (m : IsFixedMail bases mail) (to : mail.to ≡ node.me) where
    takes_own : (r : ReplicaState) → group_of_mail mail.body ≡ Some base.core.id → replica_of base.core.id node.replicas ≡ Some r → TakesMail mail (left_by base.core.id (mailed mail.from mail.body (r, [])))
    takes_own r of e =
        let one = one_of base.core.id r e in
        let same : one.0.0 ≡ base = fresh.apart one.0.0 base one.0.1 among one.1 in
        let mine : m.base ≡ base = fresh.apart m.base base m.among among (group_is bases fresh node.me m.base mail.from mail.to base.core.id mail.body of m.says) in
        let heard : IsFixedBody base mail.from node.me mail.body = subst (λ (n : ℕ). IsFixedBody base mail.from n mail.body) to (subst (λ (b : Base). IsFixedBody b mail.from mail.to mail.body) mine m.says) in
        let member : IsMember base node.me = subst (λ (b : Base). IsMember b node.me) same one.0.2 in
        let f : IsFresh base node.me = fresh.each base among node.me member in
        let fixed : IsFixedPlace base node.me (r, []) = subst (λ (b : Base). IsFixedPlace b node.me (r, [])) same (into bases fresh node.me r one.0) in
        let after = mailed_fixed base node.me f mail.from mail.body (r, []) heard fixed in
        let left = childless_left base.core.id (mailed mail.from mail.body (r, [])) after.1 in
        let name : name_of (mailed mail.from mail.body (r, [])).0.0 ≡ base.core.id = ap (λ (core : Core). core.id) after.0.fixed.group in record {
          born = f;
          replica = r;
          was = e;
          fixed = fixed;
          heard = heard;
          fact = ap (λ (step : NodeState × List Mail). replica_of base.core.id step.0.replicas) left ∙ put_found base.core.id (mailed mail.from mail.body (r, [])).0.0 r node.replicas name e;
          sent = refl;
        }

    passes_other : (group : Draw) (r : ReplicaState) → (base.core.id ≡ group → ⊥) → group_of_mail mail.body ≡ Some group → replica_of group node.replicas ≡ Some r → PassesMail (left_by group (mailed mail.from mail.body (r, [])))
    passes_other group r other of e =
        let one = one_of group r e in
        let mine : m.base ≡ one.0.0 = fresh.apart m.base one.0.0 m.among one.0.1 (group_is bases fresh node.me m.base mail.from mail.to group mail.body of m.says ∙ sym one.1) in
        let heard : IsFixedBody one.0.0 mail.from node.me mail.body = subst (λ (n : ℕ). IsFixedBody one.0.0 mail.from n mail.body) to (subst (λ (b : Base). IsFixedBody b mail.from mail.to mail.body) mine m.says) in
        let after = mailed_fixed one.0.0 node.me (fresh.each one.0.0 one.0.1 node.me one.0.2) mail.from mail.body (r, []) heard (into bases fresh node.me r one.0) in
        let left = childless_left group (mailed mail.from mail.body (r, [])) after.1 in
        let name : name_of (mailed mail.from mail.body (r, [])).0.0 ≡ group = ap (λ (core : Core). core.id) after.0.fixed.group ∙ one.1 in record {
          stays = ap (λ (step : NodeState × List Mail). replica_of base.core.id step.0.replicas) left ∙ put_others group base.core.id (mailed mail.from mail.body (r, [])).0.0 node.replicas name other;
          sent = Each-weaker (IsSaid one.0.0 node.me) (λ (x : Mail). group_of_mail x.body ≡ Some base.core.id → ⊥) (λ x s g. said_of one.0.0 node.me x base.core.id (λ same. other (sym same ∙ one.1)) s g) (mailed mail.from mail.body (r, [])).0.1 after.0.said;
        }

    -- the node has a replica of the group of the mail
    has_one : (group : Draw) → group_of_mail mail.body ≡ Some group → replica_of group node.replicas ≡ None → ⊥
    has_one group of e =
        let id : m.base.core.id ≡ group = group_is bases fresh node.me m.base mail.from mail.to group mail.body of m.says in
        let member : IsMember m.base node.me = ap (λ (n : ℕ). is_member m.base.core.members n) (sym to) ∙ to_member bases fresh node.me m.base mail.from mail.to group mail.body of m.says in
        let has = k.has m.base m.among member in
        (let found : replica_of group node.replicas ≡ Some has.0 = ap (λ (n : Draw). replica_of n node.replicas) (sym id) ∙ has.1 in cc)

    by_replica : (group : Draw) (o : Option ReplicaState) → replica_of group node.replicas ≡ o → group_of_mail mail.body ≡ Some group
        → ((base.core.id ≡ group) × TakesMail mail (taken_by o group mail.from mail.body node)) ⊎ ((base.core.id ≡ group → ⊥) × PassesMail (taken_by o group mail.from mail.body node))
    by_replica group None e of = absurd (has_one group of e)
    by_replica group (Some r) e of = elim (cases_Bool (same_draw base.core.id group)) [
      | inl t ↦ (let same : base.core.id ≡ group = draw_is base.core.id group t in
          inl (same, subst (λ (name : Draw). TakesMail mail (left_by name (mailed mail.from mail.body (r, [])))) same (takes_own r (of ∙ ap (λ (name : Draw). Some name) (sym same)) (ap (λ (name : Draw). replica_of name node.replicas) same ∙ e))))
      | inr f ↦ (let other : base.core.id ≡ group → ⊥ = λ same. absurd (let t = same_name base.core.id group same in cc) in inr (other, passes_other group r other of e))
    ]

    -- a mail is taken by the replica of the group, or is nothing to it
    pub mail_view : ((group_of_mail mail.body ≡ Some base.core.id) × TakesMail mail (on_mail mail.from mail.body node)) ⊎ ((group_of_mail mail.body ≡ Some base.core.id → ⊥) × PassesMail (on_mail mail.from mail.body node))
    mail_view = subst View (sym (cond-true (may_come mail.from mail.body) (routed (group_of_mail mail.body) mail.from mail.body node) (node, []) (comes bases fresh m.base m.among mail.from mail.to mail.body m.says))) (by (group_of_mail mail.body) refl)
      where
        View : NodeState × List Mail → Type 0
        View step = ((group_of_mail mail.body ≡ Some base.core.id) × TakesMail mail step) ⊎ ((group_of_mail mail.body ≡ Some base.core.id → ⊥) × PassesMail step)

        by : (o : Option Draw) → group_of_mail mail.body ≡ o → View (routed o mail.from mail.body node)
        by None e = inr (λ of. absurd (cc), record { stays = refl; sent = tt })
        by (Some group) e = elim (by_replica group (replica_of group node.replicas) refl e) [
          | inl t ↦ inl (e ∙ ap (λ (name : Draw). Some name) (sym t.0), t.1)
          | inr p ↦ inr ((λ of. p.0 (let same : base.core.id ≡ group = cc in same)), p.1)
        ]
