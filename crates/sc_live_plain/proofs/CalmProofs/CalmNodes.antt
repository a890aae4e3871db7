-- A node that takes mail while clients ask alone, between two orders.
use Rattle.std.proofs.Common.{◌≡◌, ℕ, ◌+◌, ◌≤◌, true, false, List, [], ◌∷◌, Option, Some, None, ◌⊎◌, inl, inr, refl, sym, ◌∙◌, ap, subst}
use Rattle.std.proofs.lemmas.Bool.{cond-true, cond-false, cases_Bool, both_ways}
use Rattle.sc_base.specs.Definitions.{Each, client_actor, same_draw, is_member}
use Rattle.sc_node_table.specs.Values.{Draw, Op, Got, Core, Route, AnswerBody, Mail, MailBody, Request, Answer, Accept, Accepted, Learn}
use Rattle.sc_base.proofs.Lemmas.{draw_is, same_name}
use Rattle.sc_mail.specs.declared.bodies.AnswerBody.TheVariants as Says
use Rattle.sc_group_table.specs.machine.MachineDefinitions.{Group}
use Rattle.sc_words.proofs.PaxosProofs.PaxosLemmas.{Each-weaker, find_found}
use Rattle.sc_node_table.specs.NodeDefinitions.{NodeState, replica_of, with_replica, node_table, ReplicaState, Executed, childless, name_of, mailed, request_refusal, requested, request_row}
use Rattle.sc_live_plain.specs.PlainDefinitions.{Other, mark, Setting, IsHome, HasGoneTo, IsSetting, IsNearer, KnowsBetter, IsCalmNode, IsAsideAnswer, IsAsideBody, IsCalmMail, ComesInTime, NodesStayCalm, IsFrame, IsBegun, Requests, IsPlainBody, IsPlainMail, IsPlainAt}
use Rattle.sc_live_plain.proofs.PlainRowsProofs.Lists.{some_is}
use Rattle.sc_live_plain.proofs.PlainRowsProofs.NodeRows.{NodeRow, node_row, mail_is, node_plain, node_said, me_after, found_after, others_after}
use Rattle.sc_live_plain.proofs.PlainRowsProofs.ReplicaRows.{DidAccept, Does}
use Rattle.sc_live_plain.proofs.PlainRowsProofs.RepeatedMail.{mail_of}

-- a replica in its own place leaves all as they are
put_same : (group : Draw) (r : ReplicaState) (replicas : List ReplicaState) → replica_of group replicas ≡ Some r → with_replica group r replicas ≡ replicas
put_same group r [] e = refl
put_same group r (x ∷ replicas) e =
    elim (cases_Bool (same_draw (name_of x) group)) [
      | inl t ↦ (
          let found : Some x ≡ Some r = sym (cond-true (same_draw (name_of x) group) (Some x) (replica_of group replicas) t) ∙ e in
          let same : x ≡ r = some_is found in
          cond-true (same_draw (name_of x) group) (r ∷ replicas) (x ∷ with_replica group r replicas) t ∙ ap (λ (y : ReplicaState). y ∷ replicas) (sym same))
      | inr f ↦ cond-false (same_draw (name_of x) group) (r ∷ replicas) (x ∷ with_replica group r replicas) f
          ∙ ap (λ (l : List ReplicaState). x ∷ l) (put_same group r replicas (sym (cond-false (same_draw (name_of x) group) (Some x) (replica_of group replicas) f) ∙ e))
    ]

-- what one that does not run answers
abbrev pub aside_answer : Option Route → Option ℕ → AnswerBody
aside_answer (Some into) hint = Says.Gone into
aside_answer None hint = Says.NotLeader hint

aside_refused : (gone : Option Route) (core : Core) (hint : Option ℕ) (op : Op) → request_refusal gone core false hint op ≡ Some (aside_answer gone hint)
aside_refused (Some into) core hint op = refl
aside_refused None core hint op = refl

-- the step of a replica that does not run
pub aside_step : (r : ReplicaState) (group : Draw) (from client seq : ℕ) (op : Op) → r.running ≡ false
    → mailed from (Request group client seq op) (r, []) ≡ ((r, mail_of r.me (client_actor client) (Answer (name_of r) seq (aside_answer r.group.core.gone r.hint)) ∷ []), [])
unfolding mailed request_row requested
aside_step r group from client seq op stops =
    ap (λ (o : Option AnswerBody). childless (requested o client seq op (r, []))) (ap (λ b. request_refusal r.group.core.gone r.group.core b r.hint op) stops ∙ aside_refused r.group.core.gone r.group.core r.hint op)

module _ (begun : Requests) (set : Setting) (fact : IsSetting set) (node : NodeState) (n : IsCalmNode begun set node) (mail : Mail) (to : mail.to ≡ node.me)
    (not_client : (client seq : ℕ) (op : Op) → begun client seq op → node.me ≡ client_actor client → ⊥) (due : ComesInTime begun set node mail) where
  abbrev Stays : NodeState × List Mail → Type 0
  Stays step = IsCalmNode begun set step.0 × Each (IsCalmMail begun set) step.1

  -- ---- a mail of a group that stands

  module _ (k : NodeRow begun set.frames fact.are fact.apart node mail (node_table node (Got mail))) where
    frame_is : IsFrame k.frame
    frame_is = fact.are k.frame k.is_frame

    me_is : (node_table node (Got mail)).0.me ≡ node.me
    me_is = me_after begun set.frames fact.are fact.apart node mail (node_table node (Got mail)) n.plain k

    -- a replica that is found then is the one that took the mail, or was there
    found_cases : (group : Draw) (r : ReplicaState) → replica_of group (node_table node (Got mail)).0.replicas ≡ Some r → ((k.frame.core.id ≡ group) × (k.place.0 ≡ r)) ⊎ (replica_of group node.replicas ≡ Some r)
    found_cases group r e = elim (cases_Bool (same_draw group k.frame.core.id)) [
      | inl t ↦ (let name = sym (draw_is group k.frame.core.id t) in
          inl (name, some_is (sym (found_after begun set.frames fact.are fact.apart node mail (node_table node (Got mail)) n.plain k) ∙ (ap (λ d. replica_of d (node_table node (Got mail)).0.replicas) name ∙ e))))
      | inr f ↦ (let other : group ≡ k.frame.core.id → ⊥ = λ same. both_ways (same_draw group k.frame.core.id) f (same_name group k.frame.core.id same) in
          inr (sym (others_after begun set.frames fact.are fact.apart node mail (node_table node (Got mail)) n.plain k group other) ∙ e))
    ]

    says : IsPlainBody begun k.frame mail.from node.me mail.body
    says = subst (λ who. IsPlainBody begun k.frame mail.from who mail.body) to k.says

    away : is_member k.frame.core.members node.me ≡ false → node.me ≡ k.frame.lead → ⊥
    away left e = both_ways (is_member k.frame.core.members node.me) left (ap (is_member k.frame.core.members) e ∙ frame_is.leads)

    -- at a node that left, the mail asks to accept something
    accepts : (body : MailBody) → is_member k.frame.core.members node.me ≡ false → IsPlainBody begun k.frame mail.from node.me body → Does begun k.frame (fact.are k.frame k.is_frame) node.me k.r mail.from body k.place
        → (slot : ℕ) × DidAccept begun k.frame (fact.are k.frame k.is_frame) node.me mail.from slot k.r k.place
    accepts (Accept group ballot slot command) left b response = (slot, response)
    accepts (Request group client seq op) left b response = absurd (away left response.0)
    accepts (Accepted group ballot slot) left b response = absurd (away left response.0)
    accepts (Learn group slot command) left b response = absurd (both_ways (is_member k.frame.core.members node.me) left b.1.to_in)
    accepts _ left b response = absurd response

    did : is_member k.frame.core.members node.me ≡ false → (slot : ℕ) × DidAccept begun k.frame (fact.are k.frame k.is_frame) node.me mail.from slot k.r k.place
    did left = accepts mail.body left says k.row.response

    own_after : IsPlainAt begun k.frame node.me k.place.0 → k.place.0.me ≡ node.me
    own_after (inl p) = p.0.me_is
    own_after (inr left) = (did left.left).1.me_is ∙ n.own k.frame.core.id k.r k.found

    runs_after : IsPlainAt begun k.frame node.me k.place.0 → k.place.0.running ≡ true → node.me ≡ k.frame.lead
    runs_after (inl (p, inl l)) runs = l.0
    runs_after (inl (p, inr f)) runs = absurd (both_ways k.place.0.running f.1.stopped runs)
    runs_after (inr left) runs = absurd (both_ways k.place.0.running left.follower.stopped runs)

    -- a replica at another node than the leading one does not run
    stopped_at : (r : ReplicaState) → (node.me ≡ k.frame.lead → ⊥) → IsPlainAt begun k.frame node.me r → r.running ≡ false
    stopped_at r ne (inl (p, inl l)) = absurd (ne l.0)
    stopped_at r ne (inl (p, inr f)) = f.1.stopped
    stopped_at r ne (inr left) = left.follower.stopped

    near : (who : ℕ) → who ≡ node.me → (node.me ≡ k.frame.lead → ⊥) → set.ways.far k.frame.core.id k.frame.lead + 1 ≤ set.ways.far k.frame.core.id who
    near who e ne = fact.nearer k.frame who k.is_frame (λ lead. ne (sym e ∙ lead))

    -- the leader is known, or where the group went is known still
    better_now : (gone : Option Route) → k.place.0.me ≡ node.me → k.place.0.hint ≡ Some k.frame.lead → (node.me ≡ k.frame.lead → ⊥) → KnowsBetter set k.frame.core.id k.r gone → KnowsBetter set k.frame.core.id k.place.0 gone
    better_now (Some into) me hint ne w = w
    better_now None me hint ne w = (k.frame.lead, hint, record { has = fact.leads k.frame k.is_frame; near = near k.place.0.me me ne })

    stops_after : IsPlainAt begun k.frame node.me k.place.0 → k.place.0.running ≡ false → KnowsBetter set k.frame.core.id k.place.0 k.place.0.group.core.gone
    stops_after (inl (p, inl l)) stops = absurd (both_ways k.place.0.running stops l.1.leader.running)
    stops_after (inl (p, inr f)) stops =
        let stands : k.place.0.group.core.gone ≡ None = ap (λ (core : Core). core.gone) p.group.core_is ∙ frame_is.stands in
        subst (λ gone. KnowsBetter set k.frame.core.id k.place.0 gone) (sym stands) (k.frame.lead, p.hint_is, record { has = fact.leads k.frame k.is_frame; near = near k.place.0.me p.me_is f.0 })
    stops_after (inr left) stops =
        let d = (did left.left).1 in
        let ne = away left.left in
        let before = n.stops k.frame.core.id k.r k.found (stopped_at k.r ne (n.plain.replicas k.frame k.r k.is_frame k.found)) in
        subst (λ (g : Group). KnowsBetter set k.frame.core.id k.place.0 g.core.gone) (sym d.group_is) (better_now k.r.group.core.gone (own_after (inr left)) d.hint_is ne before)

    plain_stays : Stays (node_table node (Got mail))
    plain_stays = (
      record {
        plain = node_plain begun set.frames fact.are fact.apart node mail (node_table node (Got mail)) n.plain k;
        own = λ group r e. elim (found_cases group r e) [
          | inl here ↦ ap (λ (x : ReplicaState). x.me) (sym here.1) ∙ (own_after k.row.after ∙ sym me_is)
          | inr was ↦ n.own group r was ∙ sym me_is
        ];
        has = λ group h. (let was = n.has group (subst (IsHome set group) me_is h) in
            elim (cases_Bool (same_draw group k.frame.core.id)) [
              | inl t ↦ (k.place.0, ap (λ d. replica_of d (node_table node (Got mail)).0.replicas) (draw_is group k.frame.core.id t) ∙ found_after begun set.frames fact.are fact.apart node mail (node_table node (Got mail)) n.plain k)
              | inr f ↦ (was.0, others_after begun set.frames fact.are fact.apart node mail (node_table node (Got mail)) n.plain k group (λ same. both_ways (same_draw group k.frame.core.id) f (same_name group k.frame.core.id same)) ∙ was.1)
            ]);
        runs = λ group r e runs. elim (found_cases group r e) [
          | inl here ↦ (k.frame, k.is_frame, here.0, me_is ∙ runs_after k.row.after (ap (λ (x : ReplicaState). x.running) here.1 ∙ runs))
          | inr was ↦ (let f = n.runs group r was runs in (f.0, f.1, f.2, me_is ∙ f.3))
        ];
        stops = λ group r e stops. elim (found_cases group r e) [
          | inl here ↦ subst (λ d. KnowsBetter set d r r.group.core.gone) here.0
              (subst (λ (x : ReplicaState). KnowsBetter set k.frame.core.id x x.group.core.gone) here.1 (stops_after k.row.after (ap (λ (x : ReplicaState). x.running) here.1 ∙ stops)))
          | inr was ↦ n.stops group r was stops
        ];
      },
      Each-weaker (IsPlainMail begun set.frames) (IsCalmMail begun set) (λ sent p. inl p) (node_table node (Got mail)).1 (node_said begun set.frames fact.are fact.apart node mail (node_table node (Got mail)) n.plain k),
    )

  -- ---- a request to one that does not run

  -- it stays as it is, and answers
  pub record StepsAside : Type 0 where
    pub group : Draw
    pub client : ℕ
    pub seq : ℕ
    pub op : Op
    pub body_is : mail.body ≡ Request group client seq op
    pub is_begun : begun client seq op
    pub r : ReplicaState
    pub found : replica_of group node.replicas ≡ Some r
    pub home : IsHome set group node.me
    pub stopped : r.running ≡ false

  module _ (a : StepsAside) where
    name : name_of a.r ≡ a.group
    name = draw_is (name_of a.r) a.group (find_found (λ (x : ReplicaState). same_draw (name_of x) a.group) node.replicas a.r a.found).1

    pub aside_mail : Mail
    aside_mail = mail_of a.r.me (client_actor a.client) (Answer (name_of a.r) a.seq (aside_answer a.r.group.core.gone a.r.hint))

    pub aside_is : aside_mail ≡ mail_of a.r.me (client_actor a.client) (Answer (name_of a.r) a.seq (aside_answer a.r.group.core.gone a.r.hint))
    unfolding aside_mail
    aside_is = refl

    -- it is nothing to any group
    pub aside_mail_mark : (d : Draw) → mark d aside_mail ≡ Other
    unfolding aside_mail
    aside_mail_mark d = refl

    by_request : node_table node (Got (record { from = mail.from; to = mail.to; body = Request a.group a.client a.seq a.op })) ≡ (node, aside_mail ∷ [])
    unfolding aside_mail
    by_request =
        let s = aside_step a.r a.group mail.from a.client a.seq a.op a.stopped in
        mail_is begun set.frames fact.are fact.apart a.group mail.from (Request a.group a.client a.seq a.op) node a.r refl refl a.found (ap (λ (e : Executed). e.1) s)
        ∙ (ap (λ (e : Executed). (record node { replicas = with_replica a.group e.0.0 node.replicas }, e.0.1)) s
        ∙ ap (λ (rs : List ReplicaState). (record node { replicas = rs }, mail_of a.r.me (client_actor a.client) (Answer (name_of a.r) a.seq (aside_answer a.r.group.core.gone a.r.hint)) ∷ [])) (put_same a.group a.r node.replicas a.found))

    pub step_is : node_table node (Got mail) ≡ (node, aside_mail ∷ [])
    step_is = ap (λ (body : MailBody). node_table node (Got (record { from = mail.from; to = mail.to; body = body }))) a.body_is ∙ by_request

    answers : (gone : Option Route) (hint : Option ℕ) → a.r.hint ≡ hint → KnowsBetter set a.group a.r gone → IsAsideAnswer set (name_of a.r) a.r.me (aside_answer gone hint)
    answers (Some into) hint e w = subst (λ d. HasGoneTo set d into) (sym name) w
    answers None hint e w =
        let at : hint ≡ Some w.0 = sym e ∙ w.1 in
        subst (λ h. IsAsideAnswer set (name_of a.r) a.r.me (Says.NotLeader h)) (sym at) (subst (λ d. IsNearer set d a.r.me w.0) (sym name) w.2)

    said : IsCalmMail begun set aside_mail
    unfolding aside_mail
    said = inr (record { client = a.client; op = a.op; to_is = refl; is_begun = a.is_begun; says = answers a.r.group.core.gone a.r.hint refl (n.stops a.group a.r a.found a.stopped) })

    aside_stays : Stays (node_table node (Got mail))
    aside_stays = subst Stays (sym step_is) (n, (said, tt))

  -- ---- each mail

  abbrev pub Turns : Type 0
  Turns = NodeRow begun set.frames fact.are fact.apart node mail (node_table node (Got mail)) ⊎ StepsAside

  plain_turns : IsPlainMail begun set.frames mail → Turns
  plain_turns m = inl (node_row begun set.frames fact.are fact.apart node mail n.plain m to not_client due)

  request_turns : (group : Draw) (client seq : ℕ) (op : Op) → mail.body ≡ Request group client seq op → IsAsideBody begun set mail.from mail.to (Request group client seq op) → Turns
  request_turns group client seq op e a =
      let here = n.has group (subst (IsHome set group) to a.1) in
      elim (cases_Bool here.0.running) [
        | inl runs ↦ (
            let f = n.runs group here.0 here.1 runs in
            plain_turns (record {
              frame = f.0;
              is_frame = f.1;
              says = subst (IsPlainBody begun f.0 mail.from mail.to) (sym e) (sym f.2, record { from_is = a.0; to_is = to ∙ f.3; is_begun = a.2 });
            }))
        | inr stops ↦ inr (record { group = group; client = client; seq = seq; op = op; body_is = e; is_begun = a.2; r = here.0; found = here.1; home = subst (IsHome set group) to a.1; stopped = stops })
      ]

  aside_turns : (body : MailBody) → mail.body ≡ body → IsAsideBody begun set mail.from mail.to body → Turns
  aside_turns (Request group client seq op) e a = request_turns group client seq op e a
  aside_turns (Answer group seq answer) e a = absurd (not_client a.client seq a.op a.is_begun (sym to ∙ a.to_is))
  aside_turns _ e a = absurd a

  -- a replica of a group that stands takes it, or one steps aside
  pub turns : IsCalmMail begun set mail → Turns
  turns (inl m) = plain_turns m
  turns (inr a) = aside_turns mail.body refl a

  pub stays_by : Turns → IsCalmNode begun set (node_table node (Got mail)).0 × Each (IsCalmMail begun set) (node_table node (Got mail)).1
  stays_by (inl k) = plain_stays k
  stays_by (inr a) = aside_stays a

  -- its number stays
  pub me_stays : Turns → (node_table node (Got mail)).0.me ≡ node.me
  me_stays (inl k) = me_is k
  me_stays (inr a) = ap (λ (x : NodeState × List Mail). x.0.me) (step_is a)

-- Between two orders, while clients ask alone, a node that takes mail stays calm and sends such mail: its replicas of groups that stand stay plain, and all others answer whom to ask or where their group went.
pub nodes_calm : NodesStayCalm
nodes_calm scenario rows set node mail fact n m to not_client due = stays_by (IsBegun scenario rows) set fact node n mail to not_client due (turns (IsBegun scenario rows) set fact node n mail to not_client due m)
