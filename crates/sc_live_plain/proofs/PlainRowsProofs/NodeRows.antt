-- What a plain node does with a plain mail: one of its replicas takes it.
use Rattle.std.proofs.Common.{◌≡◌, ℕ, ◌+◌, ◌≤◌, true, List, [], Option, Some, None, inl, inr, refl, sym, ◌∙◌, ap, subst, arith}
use Rattle.std.proofs.lemmas.Bool.{cond-true, cases_Bool, both_ways}
use Rattle.sc_base.specs.Definitions.{Among, Each, client_actor, same_draw, is_member}
use Rattle.sc_node_table.specs.Values.{Draw, Op, Got, Base, Mail, MailBody, Request, Answer, Accept, Accepted, Learn}
use Rattle.sc_base.proofs.Lemmas.{draw_is, same_name}
use Rattle.sc_words.proofs.PaxosProofs.PaxosLemmas.{Each-weaker}
use Rattle.sc_node_table.specs.NodeDefinitions.{NodeState, replica_of, with_replica, group_of_mail, is_node, may_come, with_children, taken_by, routed, on_mail, node_table, ReplicaState, Place, name_of, next, last_slot, mailed, slots_ahead}
use Rattle.sc_live_plain.specs.PlainDefinitions.{Frame, IsFrame, AreNamedApart, Requests, IsPlainBody, IsPlainMail, IsPlainAt, IsPlainNode, IsDue}
use Rattle.sc_live_steps.proofs.CalmStepsProofs.CalmStepLemmas.{put_found, put_others}
use Rattle.sc_live_plain.proofs.PlainRowsProofs.ReplicaRows.{ReplicaRow, replica_row}

module _ (begun : Requests) (frames : List Frame) (are : (frame : Frame) → Among frame frames → IsFrame frame) (apart : AreNamedApart frames) where
  -- ---- whom a plain mail is for

  to_member : (frame : Frame) (fact : IsFrame frame) (to : ℕ) → is_member frame.core.members to ≡ true → (slot : ℕ) × (is_member (frame.at slot) to ≡ true)
  to_member frame fact to m = (frame.from + slots_ahead, ap (λ ms. is_member ms to) (fact.later (frame.from + slots_ahead) (omega arith)) ∙ m)

  to_lead : (frame : Frame) (fact : IsFrame frame) (to : ℕ) → to ≡ frame.lead → (slot : ℕ) × (is_member (frame.at slot) to ≡ true)
  to_lead frame fact to e = to_member frame fact to (ap (is_member frame.core.members) e ∙ fact.leads)

  lead_node : (frame : Frame) (fact : IsFrame frame) (who : ℕ) → who ≡ frame.lead → is_node who ≡ true
  lead_node frame fact who e = (let m = to_lead frame fact who e in fact.nodes m.0 who m.1)

  -- a mail that a node takes: from whom it may come, of which group it is, and that the node votes in a slot of it
  pub record IsFor (frame : Frame) (from to : ℕ) (body : MailBody) : Type 0 where
    pub may : may_come from body ≡ true
    pub group : group_of_mail body ≡ Some frame.core.id
    pub slot : ℕ
    pub member : is_member (frame.at slot) to ≡ true

  pub for_node : (frame : Frame) (fact : IsFrame frame) (from to : ℕ) (body : MailBody) → IsPlainBody begun frame from to body → ((client seq : ℕ) (op : Op) → begun client seq op → to ≡ client_actor client → ⊥) → IsFor frame from to body
  for_node frame fact from to (Request group client seq op) b n = (let m = to_lead frame fact to b.1.to_is in record { may = refl; group = ap Some b.0; slot = m.0; member = m.1 })
  for_node frame fact from to (Accept group ballot slot command) b n = record { may = lead_node frame fact from b.2.from_is; group = ap Some b.0; slot = slot; member = b.2.to_in }
  for_node frame fact from to (Accepted group ballot slot) b n = (let m = to_lead frame fact to b.2 in record { may = fact.nodes slot from b.3; group = ap Some b.0; slot = m.0; member = m.1 })
  for_node frame fact from to (Learn group slot command) b n = (let m = to_member frame fact to b.1.to_in in record { may = lead_node frame fact from b.1.from_is; group = ap Some b.0; slot = m.0; member = m.1 })
  for_node frame fact from to (Answer group seq answer) b n = absurd (n b.1.client seq b.1.op b.1.is_begun b.1.to_is)
  for_node frame fact from to _ b n = absurd b

  -- ---- the step

  taken_is : (group : Draw) (from : ℕ) (body : MailBody) (node : NodeState) (r : ReplicaState) (o : Option ReplicaState) → o ≡ Some r → (mailed from body (r, [])).1 ≡ []
      → taken_by o group from body node ≡ (record node { replicas = with_replica group (mailed from body (r, [])).0.0 node.replicas }, (mailed from body (r, [])).0.1)
  unfolding with_children
  taken_is group from body node r None e c = cc
  taken_is group from body node r (Some x) e c =
      let same : x ≡ r = cc in
      ap (λ (y : ReplicaState). taken_by (Some y) group from body node) same
      ∙ ap (λ (children : List Base). (with_children children (record node { replicas = with_replica group (mailed from body (r, [])).0.0 node.replicas }), (mailed from body (r, [])).0.1)) c

  pub mail_is : (group : Draw) (from : ℕ) (body : MailBody) (node : NodeState) (r : ReplicaState) → may_come from body ≡ true → group_of_mail body ≡ Some group → replica_of group node.replicas ≡ Some r → (mailed from body (r, [])).1 ≡ []
      → on_mail from body node ≡ (record node { replicas = with_replica group (mailed from body (r, [])).0.0 node.replicas }, (mailed from body (r, [])).0.1)
  mail_is group from body node r may g e c =
      cond-true (may_come from body) (routed (group_of_mail body) from body node) (node, []) may
      ∙ ap (λ (o : Option Draw). routed o from body node) g
      ∙ taken_is group from body node r (replica_of group node.replicas) e c

  -- what a node does with a mail
  pub record NodeRow (node : NodeState) (mail : Mail) (after : NodeState × List Mail) : Type 0 where
    pub frame : Frame
    pub is_frame : Among frame frames
    pub says : IsPlainBody begun frame mail.from mail.to mail.body
    pub r : ReplicaState
    pub found : replica_of frame.core.id node.replicas ≡ Some r
    pub place : Place
    pub place_is : place ≡ (mailed mail.from mail.body (r, [])).0
    pub name_is : name_of place.0 ≡ frame.core.id
    pub after_is : after ≡ (record node { replicas = with_replica frame.core.id place.0 node.replicas }, place.1)
    pub row : ReplicaRow begun frame (are frame is_frame) node.me r mail.from mail.body place

  -- when the mail of a plain node comes
  abbrev pub IsDueAt : NodeState → Mail → Type 0
  IsDueAt node mail = (frame : Frame) (r : ReplicaState) → Among frame frames → IsPlainBody begun frame mail.from mail.to mail.body → replica_of frame.core.id node.replicas ≡ Some r → IsDue r mail.body × (next r + slots_ahead ≤ last_slot)

  pub node_row : (node : NodeState) (mail : Mail) → IsPlainNode begun frames node → IsPlainMail begun frames mail → mail.to ≡ node.me → ((client seq : ℕ) (op : Op) → begun client seq op → node.me ≡ client_actor client → ⊥) → IsDueAt node mail
      → NodeRow node mail (node_table node (Got mail))
  node_row node mail n m to not_client due =
      let frame = m.frame in
      let fact = are m.frame m.is_frame in
      let for : IsFor m.frame mail.from mail.to mail.body = for_node m.frame fact mail.from mail.to mail.body m.says (λ c s o b e. not_client c s o b (sym to ∙ e)) in
      let here = n.has m.frame for.slot m.is_frame (ap (is_member (m.frame.at for.slot)) (sym to) ∙ for.member) in
      let d = due m.frame here.0 m.is_frame m.says here.1 in
      let says_me : IsPlainBody begun m.frame mail.from node.me mail.body = subst (λ who. IsPlainBody begun m.frame mail.from who mail.body) to m.says in
      let row = replica_row begun m.frame fact here.0 mail.from d.1 node.me mail.body (n.replicas m.frame here.0 m.is_frame here.1) says_me d.0 not_client in
      record {
        frame = m.frame;
        is_frame = m.is_frame;
        says = m.says;
        r = here.0;
        found = here.1;
        place = (mailed mail.from mail.body (here.0, [])).0;
        place_is = refl;
        name_is = row.0.name_is;
        after_is = mail_is m.frame.core.id mail.from mail.body node here.0 for.may for.group here.1 row.1;
        row = row.0;
      }

  -- ---- what the step keeps

  module _ (node : NodeState) (mail : Mail) (after : NodeState × List Mail) (n : IsPlainNode begun frames node) (k : NodeRow node mail after) where
    -- the changed replica is of its group
    pub name_after : name_of k.place.0 ≡ k.frame.core.id
    name_after = k.name_is

    pub me_after : after.0.me ≡ node.me
    me_after = ap (λ (x : NodeState × List Mail). x.0.me) k.after_is

    has_after : (frame : Frame) (slot : ℕ) → Among frame frames → is_member (frame.at slot) node.me ≡ true → (r : ReplicaState) × (replica_of frame.core.id (with_replica k.frame.core.id k.place.0 node.replicas) ≡ Some r)
    has_after frame slot a m =
        elim (cases_Bool (same_draw frame.core.id k.frame.core.id)) [
          | inl t ↦ (
              let name = draw_is frame.core.id k.frame.core.id t in
              (k.place.0, ap (λ (d : Draw). replica_of d (with_replica k.frame.core.id k.place.0 node.replicas)) name ∙ put_found k.frame.core.id k.place.0 k.r node.replicas name_after k.found))
          | inr f ↦ (
              let was = n.has frame slot a m in
              let other : frame.core.id ≡ k.frame.core.id → ⊥ = λ e. both_ways (same_draw frame.core.id k.frame.core.id) f (same_name frame.core.id k.frame.core.id e) in
              (was.0, put_others k.frame.core.id frame.core.id k.place.0 node.replicas name_after other ∙ was.1))
        ]

    plain_after : (frame : Frame) (r : ReplicaState) → Among frame frames → replica_of frame.core.id (with_replica k.frame.core.id k.place.0 node.replicas) ≡ Some r → IsPlainAt begun frame node.me r
    plain_after frame r a e =
        elim (cases_Bool (same_draw frame.core.id k.frame.core.id)) [
          | inl t ↦ (
              let name = draw_is frame.core.id k.frame.core.id t in
              let there : Some k.place.0 ≡ Some r = sym (ap (λ (d : Draw). replica_of d (with_replica k.frame.core.id k.place.0 node.replicas)) name ∙ put_found k.frame.core.id k.place.0 k.r node.replicas name_after k.found) ∙ e in
              let same : k.place.0 ≡ r = cc in
              let group : k.frame ≡ frame = apart k.frame frame k.is_frame a (sym name) in
              subst (λ (x : ReplicaState). IsPlainAt begun frame node.me x) same (subst (λ (f : Frame). IsPlainAt begun f node.me k.place.0) group k.row.after))
          | inr f ↦ (
              let other : frame.core.id ≡ k.frame.core.id → ⊥ = λ e. both_ways (same_draw frame.core.id k.frame.core.id) f (same_name frame.core.id k.frame.core.id e) in
              n.replicas frame r a (sym (put_others k.frame.core.id frame.core.id k.place.0 node.replicas name_after other) ∙ e))
        ]

    pub node_plain : IsPlainNode begun frames after.0
    node_plain = subst (λ (x : NodeState × List Mail). IsPlainNode begun frames x.0) (sym k.after_is) (record { replicas = plain_after; has = has_after })

    pub node_said : Each (IsPlainMail begun frames) after.1
    node_said =
        subst (λ (x : NodeState × List Mail). Each (IsPlainMail begun frames) x.1) (sym k.after_is)
        (Each-weaker (λ (m : Mail). IsPlainBody begun k.frame m.from m.to m.body) (IsPlainMail begun frames) (λ m s. record { frame = k.frame; is_frame = k.is_frame; says = s }) k.place.1 k.row.said)

    -- the replica of the group, and those of others
    pub found_after : replica_of k.frame.core.id after.0.replicas ≡ Some k.place.0
    found_after = ap (λ (x : NodeState × List Mail). replica_of k.frame.core.id x.0.replicas) k.after_is ∙ put_found k.frame.core.id k.place.0 k.r node.replicas name_after k.found

    pub others_after : (name : Draw) → (name ≡ k.frame.core.id → ⊥) → replica_of name after.0.replicas ≡ replica_of name node.replicas
    others_after name ne = ap (λ (x : NodeState × List Mail). replica_of name x.0.replicas) k.after_is ∙ put_others k.frame.core.id name k.place.0 node.replicas name_after ne
