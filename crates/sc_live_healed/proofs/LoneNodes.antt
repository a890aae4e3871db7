-- What a node does with one mail while one client asks alone.
use Rattle.std.proofs.Common.{◌≡◌, ℕ, Bool, true, false, true≢false, cond, List, [], ◌∷◌, Option, Some, None, ◌⊎◌, inl, inr, refl, sym, ◌∙◌, ap, subst}
use Rattle.std.proofs.lemmas.Bool.{cond_both, cond-false, cases_Bool}
use Rattle.sc_base.specs.Definitions.{Among, Each, same_draw}
use Rattle.sc_base.proofs.Lemmas.{draw_is, same_name}
use Rattle.sc_words.proofs.PaxosProofs.PaxosLemmas.{Each-among, find_found}
use Rattle.sc_node_table.specs.Values.{Draw, Op, Base, Core, Command, AnswerBody, Got, Mail, MailBody, Request}
use Rattle.sc_node_table.specs.NodeDefinitions.{NodeState, ReplicaState, Place, name_of, replica_of, with_replica, mailed, node_table, may_come, group_of_mail}
use Rattle.sc_law_walks.proofs.WalkLemmas.{either_way}
use Rattle.sc_meaning.proofs.EntriesProofs.EntryLemmas.{other_name}
use Rattle.sc_live_steps.proofs.CalmStepsProofs.CalmStepLemmas.{put_found}
use Rattle.sc_live_healed.specs.HealedDefinitions.{IsFixedMail, IsFixedNode, IsFixedReplica, TakesSlots, AllTakeSlots}
use Rattle.sc_live_healed.proofs.FixedNodes.{AreFresh}
use Rattle.sc_live_healed.proofs.FixedGroupMail.{TakesMail, PassesMail, mail_taken}
use Rattle.sc_live_healed.proofs.TakenRequests.{IsHeld, reply_mail}
use Rattle.sc_live_healed.proofs.NumberedRequests.{IsFewBody, IsFewPlace}
use Rattle.sc_live_healed.proofs.LoneRequests as lone
use Rattle.sc_live_healed.proofs.LoneMail.{apart_of, unready_of, IsReplyOrRedirect, Finds, Heard, mailed_lone, mailed_held, mailed_asked}

-- ---- replicas by name

-- and others are found as before
put_other : (group other : Draw) (new : ReplicaState) (replicas : List ReplicaState) → name_of new ≡ group → (group ≡ other → ⊥) → replica_of other (with_replica group new replicas) ≡ replica_of other replicas
put_other group other new [] same apart = refl
put_other group other new (x ∷ replicas) same apart =
    cond_both (same_draw (name_of x) group) (new ∷ replicas) (x ∷ with_replica group new replicas) (λ (rs : List ReplicaState). replica_of other rs ≡ replica_of other (x ∷ replicas))
    (λ t. cond-false (same_draw (name_of new) other) (Some new) (replica_of other replicas) (other_name (name_of new) other (λ e. apart (sym same ∙ e)))
    ∙ sym (cond-false (same_draw (name_of x) other) (Some x) (replica_of other replicas) (other_name (name_of x) other (λ e. apart (sym (draw_is (name_of x) group t) ∙ e)))))
    (λ _. ap (λ (o : Option ReplicaState). cond (same_draw (name_of x) other) (Some x) o) (put_other group other new replicas same apart))

put_each : (P : ReplicaState → Type 0) (group : Draw) (new : ReplicaState) (replicas : List ReplicaState) → P new → Each P replicas → Each P (with_replica group new replicas)
put_each P group new [] n k = tt
put_each P group new (r ∷ replicas) n k = either_way (Each P) (same_draw (name_of r) group) (new ∷ replicas) (r ∷ with_replica group new replicas) (n, k.1) (k.0, put_each P group new replicas n k.1)

module _ (client first seq : ℕ) where
  -- a leader has nothing but the client's requests under way
  abbrev pub LeadsSo : ReplicaState → Type 0
  LeadsSo r = r.running ≡ true → lone.LeadsAlone client first r

  -- a node at which the client asks alone, and a mail to it
  pub record TakesAlone (bases : List Base) (node : NodeState) (mail : Mail) : Type 0 where
    pub fixed : IsFixedNode bases node
    pub slots : AllTakeSlots bases node
    pub few : Each (λ (r : ReplicaState). IsFewPlace client seq (r, [])) node.replicas
    pub leads : Each LeadsSo node.replicas
    pub mail_fixed : IsFixedMail bases mail
    pub to : mail.to ≡ node.me
    pub mail_few : IsFewBody client seq mail.body
    pub alone : lone.IsLoneBody client first mail.body

  module _ (bases : List Base) (apart : AreFresh bases) (node : NodeState) (mail : Mail) (k : TakesAlone bases node mail) where
    way : PassesMail node mail ⊎ TakesMail bases node mail
    way = mail_taken bases apart node k.fixed mail k.mail_fixed k.to

    module _ (t : TakesMail bases node mail) where
      at : Among t.replica node.replicas
      at = (find_found (λ (x : ReplicaState). same_draw (name_of x) t.base.core.id) node.replicas t.replica t.found).0

      finds : Finds t.base node.me (apart.each t.base t.among node.me t.member) client first seq t.replica
      finds = record {
        fixed = record { me_is = t.me_is; fixed = t.fixed; ballots = t.ballots; said = tt };
        few = Each-among (λ (r : ReplicaState). IsFewPlace client seq (r, [])) node.replicas t.replica k.few at;
        leads = Each-among LeadsSo node.replicas t.replica k.leads at;
      }

      heard : Heard t.base node.me (apart.each t.base t.among node.me t.member) client first seq mail.from mail.body
      heard = record { says = t.says; few = k.mail_few; alone = k.alone }

      abbrev place : Place
      place = (mailed mail.from mail.body (t.replica, [])).0

      named : name_of place.0 ≡ t.base.core.id
      named = ap (λ (core : Core). core.id) t.after.fixed.group

      takes_here : TakesSlots t.base t.replica
      takes_here = Each-among (λ (r : ReplicaState). (base : Base) → Among base bases → IsFixedReplica base r → TakesSlots base r) node.replicas t.replica k.slots at t.base t.among t.fixed

    -- ---- what is under way

    abbrev pub step : NodeState × List Mail
    step = node_table node (Got mail)

    abbrev IsAloneStep : NodeState × List Mail → Type 0
    IsAloneStep x = Each LeadsSo x.0.replicas × Each (λ (m : Mail). lone.IsLoneMail client first m) x.1

    pub node_alone : IsAloneStep step
    node_alone = by way
      where
        by : PassesMail node mail ⊎ TakesMail bases node mail → IsAloneStep step
        by (inl p) = subst IsAloneStep (sym p.step) (k.leads, tt)
        by (inr t) =
            let m = mailed_lone t.base node.me (apart.each t.base t.among node.me t.member) client first seq false (Unit {0}) (λ e. absurd (true≢false (sym e))) mail.from mail.body t.replica (heard t) (inl tt) (finds t) (inr (inl tt)) in
            subst IsAloneStep (sym t.step) (put_each LeadsSo t.base.core.id (place t).0 node.replicas m.0.leads k.leads, m.0.said)

    -- ---- as long as no reply is under way

    module _ (early : Bool) (late : early ≡ true → first ≡ seq) (logs : early ≡ false → Each (λ (r : ReplicaState). Each (λ (c : Command). lone.IsOther client seq c) r.log.entries) node.replicas) (unlearnt : lone.IsUnlearnt client first seq early ⊥ mail.body) where
      abbrev Logs : List ReplicaState → Type 0
      Logs replicas = early ≡ false → Each (λ (r : ReplicaState). Each (λ (c : Command). lone.IsOther client seq c) r.log.entries) replicas

      abbrev IsHiddenStep : NodeState × List Mail → Type 0
      IsHiddenStep x = (Logs x.0.replicas × Each (λ (m : Mail). lone.IsUnlearnt client first seq early ⊥ m.body) x.1) ⊎ lone.Replies client seq x.1

      hidden : (t : TakesMail bases node mail) → lone.IsHidden client first seq early ⊥ (t.replica, [])
      hidden t = inl (λ e. Each-among (λ (r : ReplicaState). Each (λ (c : Command). lone.IsOther client seq c) r.log.entries) node.replicas t.replica (logs e) (at t), tt)

      pub node_hidden : IsHiddenStep step
      node_hidden = by way
        where
          by : PassesMail node mail ⊎ TakesMail bases node mail → IsHiddenStep step
          by (inl p) = subst IsHiddenStep (sym p.step) (inl (logs, tt))
          by (inr t) =
              let m = mailed_lone t.base node.me (apart.each t.base t.among node.me t.member) client first seq early ⊥ late mail.from mail.body t.replica (heard t) (inr unlearnt) (finds t) (hidden t) in
              subst IsHiddenStep (sym t.step) (elim (m.1) [
                | inl h ↦ inl (λ e. put_each (λ (r : ReplicaState). Each (λ (c : Command). lone.IsOther client seq c) r.log.entries) t.base.core.id (place t).0 node.replicas (h.0 e) (logs e), h.1)
                | inr (inl no_way) ↦ absurd no_way
                | inr (inr r) ↦ inr r
              ])

      -- a leader of a group holds the request, or its client is answered
      abbrev pub IsServedStep : Base → NodeState × List Mail → Type 0
      IsServedStep base x =
          ((r : ReplicaState) × (replica_of base.core.id x.0.replicas ≡ Some r) × (r.running ≡ true) × IsHeld client seq r)
          ⊎ ((answer : AnswerBody) × IsReplyOrRedirect answer × Among (reply_mail client seq node.me base.core.id answer) x.1)

      served_place : (t : TakesMail bases node mail) → (((place t).0.running ≡ true) × IsHeld client seq (place t).0) ⊎ ((answer : AnswerBody) × IsReplyOrRedirect answer × Among (reply_mail client seq node.me t.base.core.id answer) (place t).1) → IsServedStep t.base step
      served_place t s =
          subst (IsServedStep t.base) (sym t.step) (elim s [
            | inl h ↦ inl ((place t).0, put_found t.base.core.id (place t).0 t.replica node.replicas (named t) t.found, h.0, h.1)
            | inr a ↦ inr a
          ])

      pub node_held : (base : Base) → Among base bases → (r : ReplicaState) → replica_of base.core.id node.replicas ≡ Some r → r.running ≡ true → IsHeld client seq r → IsServedStep base step
      node_held base a r found on held = elim (way) [
        | inl p ↦ subst (IsServedStep base) (sym p.step) (inl (r, found, on, held))
        | inr t ↦ elim (cases_Bool (same_draw t.base.core.id base.core.id)) [
          | inl same ↦ (
              let id = draw_is t.base.core.id base.core.id same in
              let one : t.base ≡ base = apart.apart t.base base t.among a id in
              let fact : r ≡ t.replica = same_replica (sym found ∙ ap (λ (d : Draw). replica_of d node.replicas) (sym id) ∙ t.found) in
              subst (λ (b : Base). IsServedStep b step) one (served_place t
              (mailed_held t.base node.me (apart.each t.base t.among node.me t.member) client first seq early late mail.from mail.body t.replica (heard t) unlearnt (finds t) (hidden t)
              (apart_of t.base t.replica t.fixed (takes_here t)) (unready_of t.base t.replica (takes_here t)) (ap (λ (x : ReplicaState). x.running) (sym fact) ∙ on) (subst (IsHeld client seq) fact held))))
          | inr other ↦ (
              let unlike : t.base.core.id ≡ base.core.id → ⊥ = λ e. true≢false (sym (same_name t.base.core.id base.core.id e) ∙ other) in
              subst (IsServedStep base) (sym t.step) (inl (r, put_other t.base.core.id base.core.id (place t).0 node.replicas (named t) unlike ∙ found, on, held)))
        ]
      ]
        where
          same_replica : {x y : ReplicaState} → Some x ≡ Some y → x ≡ y
          same_replica e = cc

      -- the mail is the request
      pub node_asked : (base : Base) → Among base bases → (op : Op) → mail.body ≡ Request base.core.id client seq op → IsServedStep base step
      node_asked base a op fact = by way
        where
          one_name : {x y : Draw} → Some x ≡ Some y → x ≡ y
          one_name e = cc

          never : PassesMail node mail → ⊥
          never p = elim (p.why) [
            | inl no_way ↦ true≢false (sym (ap (may_come mail.from) fact) ∙ no_way)
            | inr none ↦ (let e : Some base.core.id ≡ None = sym (ap group_of_mail fact) ∙ none in cc)
          ]

          by : PassesMail node mail ⊎ TakesMail bases node mail → IsServedStep base step
          by (inl p) = absurd (never p)
          by (inr t) =
              let id : t.base.core.id ≡ base.core.id = one_name (sym t.group ∙ ap group_of_mail fact) in
              let one : t.base ≡ base = apart.apart t.base base t.among a id in
              let born = apart.each t.base t.among node.me t.member in
              let s = mailed_asked t.base node.me born client first seq early late mail.from base.core.id op t.replica (subst (λ (b : MailBody). Heard t.base node.me born client first seq mail.from b) fact (heard t)) (finds t) (hidden t) (apart_of t.base t.replica t.fixed (takes_here t)) in
              subst (λ (b : Base). IsServedStep b step) one (served_place t
              (subst (λ (b : MailBody). (((mailed mail.from b (t.replica, [])).0.0.running ≡ true) × IsHeld client seq (mailed mail.from b (t.replica, [])).0.0) ⊎ ((answer : AnswerBody) × IsReplyOrRedirect answer × Among (reply_mail client seq node.me t.base.core.id answer) (mailed mail.from b (t.replica, [])).0.1)) (sym fact) s))
