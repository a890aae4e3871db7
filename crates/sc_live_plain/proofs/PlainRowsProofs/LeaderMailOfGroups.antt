-- What stands between the leader of each group and its nodes, after a row of a node.
use Rattle.std.proofs.Common.{◌≡◌, ℕ, zero, suc, ◌+◌, true, false, cond, List, [], ◌∷◌, ◌++◌, map, drop, Some, inl, inr, refl, sym, ◌∙◌, ap, subst}
use Rattle.std.proofs.lemmas.Bool.{cases_Bool, cases_eq, cond-false, both_ways}
use Rattle.sc_base.specs.Definitions.{Among, Each, same_draw, is_member}
use Rattle.sc_node_table.specs.Values.{Draw, OrderLine, Mail, MailBody, Request, Accept, Accepted, Learn, Row, Node}
use Rattle.sc_base.proofs.Lemmas.{draw_is, same_name}
use Rattle.sc_actor.specs.Definitions.{is_delivery, value}
use Rattle.sc_node_table.specs.NodeDefinitions.{NodeState, replica_of, is_node, ReplicaState, next, numbers_from}
use Rattle.sc_scenario.specs.declared.scenario.scenarios.Scenario.{Scenario}
use Rattle.sc_meaning.specs.sound.SoundDefinitions.{player_table, node_seat, system_of, as_nodes}
use Rattle.sc_live_orderly.specs.OrderlyDefinitions.{rest, mail_for, taken}
use Rattle.sc_live_plain.specs.PlainDefinitions.{Frame, IsFrame, AreNamedApart, Mark, Asks, Votes, Teaches, Other, mark_of, mark, taught_slots, AreInOrder, marks_for, replica_at, next_in, votes_in, view_at, marks_at, IsGroupAt, IsOther, How, IsTaken, Requests, IsPlainBody, AreTaken, IsPlainAt, IsPlainNode, IsDue}
use Rattle.sc_live_plain.proofs.PlainRowsProofs.MailMarks.{does_moves, marked_here}
use Rattle.sc_live_plain.proofs.PlainRowsProofs.LeaderMarks.{each_mark}
use Rattle.sc_live_plain.proofs.PlainRowsProofs.RowViews.{Journal, between_after, replica_others, replica_is}
use Rattle.sc_live_plain.proofs.PlainRowsProofs.NodeRows.{NodeRow, found_after, others_after}

-- a mail of one group is nothing to another
apart : (frame : Frame) (name : Draw) → (name ≡ frame.core.id → ⊥) → (group : Draw) → group ≡ frame.core.id → same_draw group name ≡ false
apart frame name ne group e = elim (cases_Bool (same_draw group name)) [ inl t ↦ absurd (ne (sym (draw_is group name t) ∙ e)) | inr f ↦ f ]

pub other_mark : (begun : Requests) (frame : Frame) (name : Draw) (from to : ℕ) (body : MailBody) → (name ≡ frame.core.id → ⊥) → IsPlainBody begun frame from to body → mark_of name from body ≡ Other
other_mark begun frame name from to (Accept group ballot slot command) ne b = cond-false (same_draw group name) (Asks slot) Other (apart frame name ne group b.0)
other_mark begun frame name from to (Accepted group ballot slot) ne b = cond-false (same_draw group name) (Votes from slot) Other (apart frame name ne group b.0)
other_mark begun frame name from to (Learn group slot command) ne b = cond-false (same_draw group name) (Teaches slot) Other (apart frame name ne group b.0)
other_mark begun frame name from to (Request group client seq op) ne b = refl
other_mark begun frame name from to _ ne b = refl

module _ (words : ℕ → ℕ → ℕ × ℕ) (scenario : Scenario) where
  -- ---- when a mail comes

  module _ (begun : Requests) (rows : Journal) (frame : Frame) (g : IsGroupAt words scenario rows frame) (me : ℕ) (r : ReplicaState) (here : replica_at scenario rows frame.core.id me ≡ Some r) (from : ℕ) (behind : List Mark) where
    at_me : (view_at scenario rows frame g.taken).next me ≡ next r
    at_me = ap next_in here

    -- the first of the mail of a node comes when it is due
    pub due : (to : ℕ) (body : MailBody) → to ≡ me → marks_at words scenario rows frame.core.id me ≡ mark_of frame.core.id from body ∷ behind → IsPlainBody begun frame from to body → IsDue r body
    due to (Accept group ballot slot command) e m b =
        let first : marks_at words scenario rows frame.core.id me ≡ Asks slot ∷ behind = m ∙ ap (λ x. x ∷ behind) (marked_here frame.core.id group (Asks slot) b.0) in
        let o : AreInOrder (next r) (Asks slot ∷ behind) = subst (λ n. AreInOrder n (Asks slot ∷ behind)) at_me (subst (AreInOrder ((view_at scenario rows frame g.taken).next me)) first (g.between.order me)) in
        o.0
    due to (Learn group slot command) e m b =
        let first : marks_at words scenario rows frame.core.id me ≡ Teaches slot ∷ behind = m ∙ ap (λ x. x ∷ behind) (marked_here frame.core.id group (Teaches slot) b.0) in
        let l = g.between.learners me (ap (is_member frame.core.members) (sym e) ∙ b.1.to_in) (λ lead. b.1.other (e ∙ lead)) in
        first_recorded l.left slot (taught_slots behind) (sym (ap taught_slots first) ∙ (l.tells ∙ ap (λ n. numbers_from n l.left) at_me))
      where
        first_recorded : (left slot : ℕ) (rest : List ℕ) → slot ∷ rest ≡ numbers_from (next r) left → slot ≡ next r
        first_recorded zero slot rest e = cc
        first_recorded (suc left) slot rest e = cc
    due to (Request group client seq op) e m b = tt
    due to _ e m b = tt

  -- ---- a row that does nothing in a group

  module _ (rows : Journal) (row : Row Mail OrderLine)
      (after : (who : ℕ) → rest (system_of as_nodes words scenario) (rows ++ row ∷ []) who ≡ drop (taken who row) (rest (system_of as_nodes words scenario) rows who) ++ mail_for (system_of as_nodes words scenario) who row.sent) where
    -- the replicas of the group stay, nothing of it is sent, and nothing of it is taken
    pub group_idle : (frame : Frame) → IsGroupAt words scenario rows frame → ((node : ℕ) → replica_at scenario (rows ++ row ∷ []) frame.core.id node ≡ replica_at scenario rows frame.core.id node)
        → IsTaken Other (marks_at words scenario rows frame.core.id row.who) (drop (cond (is_delivery row.event) 1 0) (marks_at words scenario rows frame.core.id row.who)) → ((who : ℕ) → Each IsOther (marks_for frame.core.id who row.sent)) → IsGroupAt words scenario (rows ++ row ∷ []) frame
    group_idle frame g same takes sends = record {
      taken = g.taken;
      r = g.r;
      there = same frame.lead ∙ g.there;
      slots = g.slots;
      between = between_after words scenario rows row after frame g.taken g.taken Other takes g.between (record {
        others = λ who ne. ap next_in (same who);
        how = inl (record {
          takes = refl;
          next = ap next_in (same row.who);
          bound = ap (λ o. next_in o + g.taken) (same frame.lead);
          voters = λ slot. ap (λ o. votes_in o slot) (same frame.lead);
          sends = sends;
        });
      });
    }

    -- ---- a row of a node

    module _ (begun : Requests) (frames : List Frame) (are : (frame : Frame) → Among frame frames → IsFrame frame) (apart : AreNamedApart frames) (node : NodeState) (mail : Mail) (step : NodeState × List Mail) (n : IsPlainNode begun frames node) (k : NodeRow begun frames are apart node mail step)
        (acts : row.who ≡ node.me) (delivers : is_delivery row.event ≡ true) (sends : row.sent ≡ step.1) (to : mail.to ≡ node.me) (behind : List Mail) (first : rest (system_of as_nodes words scenario) rows node.me ≡ mail ∷ behind)
        (fact : is_node node.me ≡ true) (was : value player_table (node_seat as_nodes scenario.groups scenario.policy node.me) rows ≡ Node node)
        (became : value player_table (node_seat as_nodes scenario.groups scenario.policy node.me) (rows ++ row ∷ []) ≡ Node step.0) where
      replica_before : (name : Draw) → replica_at scenario rows name node.me ≡ replica_of name node.replicas
      replica_before name = replica_is words scenario rows name node.me (Node node) fact was

      replica_after : (name : Draw) → replica_at scenario (rows ++ row ∷ []) name node.me ≡ replica_of name step.0.replicas
      replica_after name = replica_is words scenario (rows ++ row ∷ []) name node.me (Node step.0) fact became

      others_stay : (name : Draw) (who : ℕ) → (who ≡ node.me → ⊥) → replica_at scenario (rows ++ row ∷ []) name who ≡ replica_at scenario rows name who
      others_stay name who ne = replica_others words scenario rows row name who (λ e. ne (e ∙ acts))

      first_mark : (name : Draw) → marks_at words scenario rows name row.who ≡ mark name mail ∷ map (mark name) behind
      first_mark name = ap (marks_at words scenario rows name) acts ∙ ap (map (mark name)) first

      -- the first is taken
      takes_first : (name : Draw) → IsTaken (mark name mail) (marks_at words scenario rows name row.who) (drop (cond (is_delivery row.event) 1 0) (marks_at words scenario rows name row.who))
      takes_first name = inl (first_mark name ∙ ap (λ l. mark name mail ∷ l) (sym (ap (λ b. drop (cond b 1 0) (marks_at words scenario rows name row.who)) delivers ∙ ap (drop 1) (first_mark name))))

      -- in another group
      other_group : (frame : Frame) → (frame.core.id ≡ k.frame.core.id → ⊥) → IsGroupAt words scenario rows frame → IsGroupAt words scenario (rows ++ row ∷ []) frame
      other_group frame ne g =
          group_idle frame g
          (λ who. elim (cases_eq who node.me) [
            | inl e ↦ ap (replica_at scenario (rows ++ row ∷ []) frame.core.id) e
                ∙ (replica_after frame.core.id
                ∙ (others_after begun frames are apart node mail step n k frame.core.id ne ∙ (sym (replica_before frame.core.id) ∙ ap (replica_at scenario rows frame.core.id) (sym e))))
            | inr away ↦ others_stay frame.core.id who away
          ])
          (subst (λ m. IsTaken m (marks_at words scenario rows frame.core.id row.who) (drop (cond (is_delivery row.event) 1 0) (marks_at words scenario rows frame.core.id row.who))) (other_mark begun k.frame frame.core.id mail.from mail.to mail.body ne k.says) (takes_first frame.core.id))
          (λ who. subst (λ l. Each IsOther (marks_for frame.core.id who l)) (sym (sends ∙ ap (λ (x : NodeState × List Mail). x.1) k.after_is))
          (each_mark IsOther (λ (m : Mail). IsPlainBody begun k.frame m.from m.to m.body) frame.core.id who (λ m b. other_mark begun k.frame frame.core.id m.from m.to m.body ne b) k.place.1 k.row.said))

      -- in its group: how many slots are taken after it
      record IsAfter (g : IsGroupAt words scenario rows k.frame) : Type 0 where
        taken : ℕ
        r : ReplicaState
        there : replica_at scenario (rows ++ row ∷ []) k.frame.core.id k.frame.lead ≡ Some r
        slots : AreTaken r taken
        own : node.me ≡ k.frame.lead → AreTaken k.place.0 taken
        same : (node.me ≡ k.frame.lead → ⊥) → taken ≡ g.taken

      found_now : replica_at scenario (rows ++ row ∷ []) k.frame.core.id node.me ≡ Some k.place.0
      found_now = replica_after k.frame.core.id ∙ found_after begun frames are apart node mail step n k

      other_leads : (g : IsGroupAt words scenario rows k.frame) → (node.me ≡ k.frame.lead → ⊥) → IsAfter g
      other_leads g ne = record {
        taken = g.taken;
        r = g.r;
        there = others_stay k.frame.core.id k.frame.lead (λ e. ne (sym e)) ∙ g.there;
        slots = g.slots;
        own = λ e. absurd (ne e);
        same = λ ne_. refl;
      }

      after_of : (g : IsGroupAt words scenario rows k.frame) → IsPlainAt begun k.frame node.me k.place.0 → IsAfter g
      after_of g (inl (p, inl l)) = record {
        taken = l.1.taken;
        r = k.place.0;
        there = ap (replica_at scenario (rows ++ row ∷ []) k.frame.core.id) (sym l.0) ∙ found_now;
        slots = l.1.leader.slots;
        own = λ e. l.1.leader.slots;
        same = λ ne. absurd (ne l.0);
      }
      after_of g (inl (p, inr f)) = other_leads g f.0
      after_of g (inr left) = other_leads g (λ e. both_ways (is_member k.frame.core.members node.me) left.left (ap (is_member k.frame.core.members) e ∙ (are k.frame k.is_frame).leads))

      own_group : IsGroupAt words scenario rows k.frame → IsGroupAt words scenario (rows ++ row ∷ []) k.frame
      own_group g =
          let a = after_of g k.row.after in
          let now = view_at scenario rows k.frame g.taken in
          let then_ = view_at scenario (rows ++ row ∷ []) k.frame a.taken in
          let here : replica_at scenario rows k.frame.core.id node.me ≡ Some k.r = replica_before k.frame.core.id ∙ k.found in
          let lead_now : node.me ≡ k.frame.lead → replica_at scenario rows k.frame.core.id k.frame.lead ≡ Some k.r = λ e. ap (replica_at scenario rows k.frame.core.id) (sym e) ∙ here in
          let lead_then : node.me ≡ k.frame.lead → replica_at scenario (rows ++ row ∷ []) k.frame.core.id k.frame.lead ≡ Some k.place.0 = λ e. ap (replica_at scenario (rows ++ row ∷ []) k.frame.core.id) (sym e) ∙ found_now in
          let slots_now : node.me ≡ k.frame.lead → AreTaken k.r g.taken = λ e. (let same : g.r ≡ k.r = (let some : Some g.r ≡ Some k.r = sym g.there ∙ lead_now e in cc) in subst (λ x. AreTaken x g.taken) same g.slots) in
          let moves = does_moves begun k.frame (are k.frame k.is_frame) node.me k.r g.taken mail.from mail.body k.place a.taken (subst (λ t. IsPlainBody begun k.frame mail.from t mail.body) to k.says) k.row.response slots_now a.own in
          let how : How k.frame now then_ node.me (mark k.frame.core.id mail) (λ who. marks_for k.frame.core.id who k.place.1) =
          moves now then_
          (record { bound = λ e. ap (λ o. next_in o + g.taken) (lead_now e); voters = λ e slot. ap (λ o. votes_in o slot) (lead_now e); next = ap next_in here })
          (record { bound = λ e. ap (λ o. next_in o + a.taken) (lead_then e); voters = λ e slot. ap (λ o. votes_in o slot) (lead_then e); next = ap next_in found_now })
          (record {
            bound = λ ne. ap (λ o. next_in o + a.taken) (others_stay k.frame.core.id k.frame.lead (λ e. ne (sym e))) ∙ ap (λ t. next_in (replica_at scenario rows k.frame.core.id k.frame.lead) + t) (a.same ne);
            voters = λ ne slot. ap (λ o. votes_in o slot) (others_stay k.frame.core.id k.frame.lead (λ e. ne (sym e)));
          }) in
          let said : row.sent ≡ k.place.1 = sends ∙ ap (λ (x : NodeState × List Mail). x.1) k.after_is in
          record {
            taken = a.taken;
            r = a.r;
            there = a.there;
            slots = a.slots;
            between = between_after words scenario rows row after k.frame g.taken a.taken (mark k.frame.core.id mail) (takes_first k.frame.core.id) g.between (record {
              others = λ who ne. ap next_in (others_stay k.frame.core.id who (λ e. ne (e ∙ sym acts)));
              how = subst (λ m. How k.frame now then_ m (mark k.frame.core.id mail) (λ who. marks_for k.frame.core.id who row.sent)) (sym acts)
                  (subst (λ (l : List Mail). How k.frame now then_ node.me (mark k.frame.core.id mail) (λ who. marks_for k.frame.core.id who l)) (sym said) how);
            });
          }

      -- in each group
      pub group_after : (frame : Frame) → Among frame frames → IsGroupAt words scenario rows frame → IsGroupAt words scenario (rows ++ row ∷ []) frame
      group_after frame a g = elim (cases_Bool (same_draw frame.core.id k.frame.core.id)) [
        | inl t ↦ (let same : k.frame ≡ frame = apart k.frame frame k.is_frame a (sym (draw_is frame.core.id k.frame.core.id t)) in
            subst (IsGroupAt words scenario (rows ++ row ∷ [])) same (own_group (subst (IsGroupAt words scenario rows) (sym same) g)))
        | inr f ↦ other_group frame (λ e. both_ways (same_draw frame.core.id k.frame.core.id) f (same_name frame.core.id k.frame.core.id e)) g
      ]
