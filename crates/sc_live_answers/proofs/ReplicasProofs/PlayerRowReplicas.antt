-- What a row does to the replicas of its player: nothing, or one takes a mail, or one is made of a state.
use Rattle.std.proofs.Common.{◌≡◌, ◌⊎◌, ℕ, Bool, true, false, List, [], ◌∷◌, cond, Option, Some, None, inl, inr, refl, sym, ◌∙◌, ap, subst}
use Rattle.std.specs.Option.{option_map}
use Rattle.std.specs.Prelude.{is_some}
use Rattle.std.proofs.lemmas.Bool.{cond-false}
use Rattle.sc_base.specs.Definitions.{Among}
use Rattle.sc_node_table.specs.Values.{Draw, Base, AnswerBody, Mail, MailBody, Request, Answer, Install, Node, Client, Seat, Deliver, Go, Got}
use Rattle.sc_actor.specs.Definitions.{mails, numbered, value}
use Rattle.sc_live_orderly.specs.OrderlyDefinitions.{AreInTime}
use Rattle.sc_node_table.specs.NodeDefinitions.{NodeState, replica_of, with_replica, with_new, with_born, with_children, group_of_mail, may_come, unknown, routed, on_mail, ReplicaState, Executed, born_replica, mailed, slots_ahead}
use Rattle.sc_law_walks.proofs.WalkLemmas.{either_way}
use Rattle.sc_meaning.specs.sound.SoundDefinitions.{Player, player_table}
use Rattle.sc_live_steps.specs.calm.CalmDefinitions.{players, Rows}
use Rattle.sc_live_steps.proofs.CalmStepsProofs.CalmStepLemmas.{put_others}
use Rattle.sc_live_journals.specs.rows.RowDefinitions.{view_at, IsSeat, with_event}
use Rattle.sc_live_journals.proofs.RowsProofs.RowLemmas.{names_stay, found_name, rows_replicas, view_was, new_is, child_me as born_me}
use Rattle.sc_live_journals.specs.scenes.SceneDefinitions.{IsTaking}
use Rattle.sc_live_journals.proofs.ScenesProofs.SceneLemmas.{client_leaves, got_nothing, unknown_apart, OneOf, all_children, now_is}
use Rattle.sc_live_answers.proofs.ReplicasProofs.TakenMail.{mail_taken}

-- a child that is made has a replica then
stays_there : (who : ℕ) (name : Draw) (x : ReplicaState) (children : List Base) (node : NodeState) → node.me ≡ who → replica_of name node.replicas ≡ Some x → (y : ReplicaState) × (replica_of name (with_children children node).replicas ≡ Some y)
stays_there who name x children node me e = by (all_children who name children node me)
  where
    by : OneOf name who children (replica_of name (with_children children node).replicas) (replica_of name node.replicas) → (y : ReplicaState) × (replica_of name (with_children children node).replicas ≡ Some y)
    by (inl same) = (x, same ∙ e)
    by (inr (child, among, id, none, makes)) = (born_replica slots_ahead who child, makes)

born_there : (who : ℕ) (kid : Base) (node : NodeState) → node.me ≡ who → (y : ReplicaState) × (replica_of kid.core.id (with_born kid node).replicas ≡ Some y)
born_there who kid node me = by (replica_of kid.core.id node.replicas) refl
  where
    by : (o : Option ReplicaState) → replica_of kid.core.id node.replicas ≡ o
        → (y : ReplicaState) × (replica_of kid.core.id (cond (is_some o) node (record node { replicas = with_new (born_replica slots_ahead node.me kid) node.replicas })).replicas ≡ Some y)
    by (Some r) e = (r, e)
    by None e = (born_replica slots_ahead node.me kid, new_is kid.core.id (born_replica slots_ahead node.me kid) node.replicas refl e)

child_there : (who : ℕ) (kid : Base) (children : List Base) (node : NodeState) → node.me ≡ who → Among kid children → (y : ReplicaState) × (replica_of kid.core.id (with_children children node).replicas ≡ Some y)
unfolding with_children
child_there who kid [] node me fact = absurd fact
child_there who kid (child ∷ children) node me (inl e) =
    let there = born_there who child node me in
    subst (λ (b : Base). (y : ReplicaState) × (replica_of b.core.id (with_children children (with_born child node)).replicas ≡ Some y)) e (stays_there who child.core.id there.0 children (with_born child node) (born_me child node ∙ me) there.1)
child_there who kid (child ∷ children) node me (inr fact) = child_there who kid children (with_born child node) (born_me child node ∙ me) fact

module _ (words : ℕ → ℕ → ℕ × ℕ) (births : List (Seat Player)) (rows : Rows) (seat : Seat Player) (number : ℕ) where
  -- the player's replicas stay
  abbrev pub AllStay : Type 0
  AllStay = (name : Draw) → view_at births (with_event rows seat (Deliver number)) name seat.who ≡ view_at births rows name seat.who

  -- one takes a mail, and others stay or are created
  pub record Takes (mail : Mail) : Type 0 where
    pub group : Draw
    pub node : NodeState
    pub r : ReplicaState
    pub taking : IsTaking words births rows seat number mail group node
    pub here : replica_of group node.replicas ≡ Some r
    pub was : view_at births rows group seat.who ≡ Some r
    pub fact : view_at births (with_event rows seat (Deliver number)) group seat.who ≡ Some (mailed mail.from mail.body (r, [])).0.0
    pub others : (name : Draw) → (name ≡ group → ⊥) → OneOf name seat.who (mailed mail.from mail.body (r, [])).1 (view_at births (with_event rows seat (Deliver number)) name seat.who) (view_at births rows name seat.who)
    pub made : (kid : Base) → Among kid (mailed mail.from mail.body (r, [])).1 → (kid.core.id ≡ group → ⊥) → (x : ReplicaState) × (view_at births (with_event rows seat (Deliver number)) kid.core.id seat.who ≡ Some x)

  -- a node without replica of a group may make one of a state, and the others stay
  pub record Makes (mail : Mail) : Type 0 where
    pub group : Draw
    pub slot : ℕ
    pub state : Base
    pub sets : List (List ℕ)
    pub body : mail.body ≡ Install group slot state sets
    pub others : (name : Draw) → (name ≡ group → ⊥) → view_at births (with_event rows seat (Deliver number)) name seat.who ≡ view_at births rows name seat.who

  abbrev pub RowKind : Mail → Type 0
  RowKind mail = AllStay ⊎ (Takes mail ⊎ Makes mail)

  module _ (born : IsSeat births seat) (timely : AreInTime (players words births) (with_event rows seat (Deliver number))) (mail : Mail) (at : numbered (mails rows) number ≡ Some mail)
      (unanswered : (group : Draw) (seq : ℕ) (answer : AnswerBody) → mail.body ≡ Answer group seq answer → ⊥) (me : (node : NodeState) → value player_table seat rows ≡ Node node → node.me ≡ seat.who) where
    module _ (node : NodeState) (fact : value player_table seat rows ≡ Node node) where
      now : (step : NodeState × List Mail) → on_mail mail.from mail.body node ≡ step → (name : Draw) → view_at births (with_event rows seat (Deliver number)) name seat.who ≡ replica_of name step.0.replicas
      now step e name = now_is births rows seat (Deliver number) node born fact step (Some (Got mail)) (ap (option_map Got) at) (ap (λ (x : NodeState × List Mail). (Node x.0, x.1)) e) name

      module _ (group : Draw) (t : IsTaking words births rows seat number mail group node) where
        some_takes : (r : ReplicaState) → replica_of group node.replicas ≡ Some r → Takes mail
        some_takes r here =
            let made : Executed = mailed mail.from mail.body (r, []) in
            let put : NodeState = record node { replicas = with_replica group made.0.0 node.replicas } in
            let own = found_name group node.replicas r here in
            let row = rows_replicas.taken births rows seat number mail group node r born fact at t.comes t.named here in
            record {
              group = group;
              node = node;
              r = r;
              taking = t;
              here = here;
              was = view_was births rows seat Go group born (Node node) fact ∙ here;
              fact = row.fact;
              others = λ name ne.
                  subst (λ (o : Option ReplicaState). OneOf name seat.who made.1 (view_at births (with_event rows seat (Deliver number)) name seat.who) o) (sym (view_was births rows seat Go name born (Node node) fact))
                  (subst (λ (o : Option ReplicaState). OneOf name seat.who made.1 o (replica_of name node.replicas)) (sym (now (with_children made.1 put, made.0.1) (mail_taken mail.from mail.body node group t.named t.comes (Some r) here) name))
                  (subst (λ (o : Option ReplicaState). OneOf name seat.who made.1 (replica_of name (with_children made.1 put).replicas) o) (put_others group name made.0.0 node.replicas (names_stay.mailed mail.from mail.body r ∙ own) ne)
                  (all_children seat.who name made.1 put t.me_is)));
              made = λ kid among ne. (let there = child_there seat.who kid made.1 put t.me_is among in (there.0, now (with_children made.1 put, made.0.1) (mail_taken mail.from mail.body node group t.named t.comes (Some r) here) kid.core.id ∙ there.1));
            }

        others_stay : replica_of group node.replicas ≡ None → (name : Draw) → (name ≡ group → ⊥) → view_at births (with_event rows seat (Deliver number)) name seat.who ≡ view_at births rows name seat.who
        others_stay here name ne = now (unknown mail.from mail.body node) (mail_taken mail.from mail.body node group t.named t.comes None here) name ∙ ((unknown_apart name group ne node mail.from mail.body t.named).0 ∙ sym (view_was births rows seat Go name born (Node node) fact))

        all_stay : replica_of group node.replicas ≡ None → (unknown mail.from mail.body node).0 ≡ node → AllStay
        all_stay here e name = now (unknown mail.from mail.body node) (mail_taken mail.from mail.body node group t.named t.comes None here) name ∙ (ap (λ (n : NodeState). replica_of name n.replicas) e ∙ sym (view_was births rows seat Go name born (Node node) fact))

        none_takes : (b : MailBody) → mail.body ≡ b → replica_of group node.replicas ≡ None → RowKind mail
        none_takes (Install n slot state sets) e here =
            let named : Some n ≡ Some group = sym (ap group_of_mail e) ∙ t.named in
            let same : n ≡ group = cc in
            inr (inr (record { group = group; slot = slot; state = state; sets = sets; body = e ∙ ap (λ g. Install g slot state sets) same; others = others_stay here }))
        none_takes (Request n client seq op) e here = inl (all_stay here (ap (λ b. (unknown mail.from b node).0) e))
        none_takes _ e here = inl (all_stay here (ap (λ b. (unknown mail.from b node).0) e))

        taken_so : (o : Option ReplicaState) → replica_of group node.replicas ≡ o → RowKind mail
        taken_so None here = none_takes mail.body refl here
        taken_so (Some r) here = inr (inl (some_takes r here))

      stays : on_mail mail.from mail.body node ≡ (node, []) → AllStay
      stays e name = now (node, []) e name ∙ sym (view_was births rows seat Go name born (Node node) fact)

      mail_so : (b : Bool) → may_come mail.from mail.body ≡ b → (o : Option Draw) → group_of_mail mail.body ≡ o → RowKind mail
      mail_so false bar o e = inl (stays (cond-false (may_come mail.from mail.body) (routed (group_of_mail mail.body) mail.from mail.body node) (node, []) bar))
      mail_so true may None e =
          inl (stays (either_way (λ (step : NodeState × List Mail). step ≡ (node, [])) (may_come mail.from mail.body) (routed (group_of_mail mail.body) mail.from mail.body node) (node, []) (ap (λ g. routed g mail.from mail.body node) e) refl))
      mail_so true may (Some group) e = taken_so group (record { seated = born; timely = timely; is_node = fact; me_is = me node fact; sent = at; comes = may; named = e }) (replica_of group node.replicas) refl

    player_so : (player : Player) → value player_table seat rows ≡ player → RowKind mail
    player_so (Client client) fact = inl (λ name. (client_leaves words births rows seat (Deliver number) born timely client fact name (Got mail) (ap (option_map Got) at) (got_nothing mail.from mail.body client unanswered)).view)
    player_so (Node node) fact = mail_so node fact (may_come mail.from mail.body) refl (group_of_mail mail.body) refl

    pub row_kind : RowKind mail
    row_kind = player_so (value player_table seat rows) refl
