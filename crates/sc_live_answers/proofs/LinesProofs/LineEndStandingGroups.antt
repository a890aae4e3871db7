-- At the end of a line of requests a group that stood in a quiet journal stands quiet again.
use Rattle.std.proofs.Common.{◌≡◌, ℕ, zero, suc, ◌+◌, ◌-◌, ◌<◌, true, false, List, [], ◌∷◌, map, Option, Some, None, inl, inr, refl, sym, ◌∙◌, ap, subst, arith}
use Rattle.std.specs.Prelude.{slice_get, unwrap_or}
use Rattle.std.proofs.lemmas.Bool.{cases_eq, both_ways, and_from}
use Rattle.sc_base.specs.Definitions.{Among, is_member}
use Rattle.sc_node_table.specs.Values.{Ballot, Draw, Command, Core, Report}
use Rattle.sc_words.specs.paxos.PaxosDefinitions.{below, LeaderState}
use Rattle.sc_words.proofs.PaxosProofs.PaxosLemmas.{at_least_itself, Each-from}
use Rattle.sc_node_table.specs.NodeDefinitions.{ReplicaState, name_of, next, members, first_set, may_offer, numbers_from, slots_ahead}
use Rattle.sc_paxos_law.proofs.Lemmas.{place_among}
use Rattle.sc_scenario.specs.declared.scenario.scenarios.Scenario.{Scenario}
use Rattle.sc_meaning.specs.sound.SoundDefinitions.{system_of, as_nodes}
use Rattle.sc_live_orderly.specs.OrderlyDefinitions.{rest, is_born}
use Rattle.sc_live_steps.specs.calm.CalmDefinitions.{Ways, IsNewest, LeadsAtRest, IsBelow, MayVote, IsUpToDate, IsLinked, StandsQuiet}
use Rattle.sc_live_plain.specs.PlainDefinitions.{IsAsking, AreSeated, replicas_after, setting_at, AreFramesOf, IsQuietJournal, IsKept, frame_at_rest, taught_slots, replica_at, next_in, IsGroupAt, Setting, IsSetting, Frame, IsFrame, IsBegun, AreTaken, IsPlainReplica, IsLeading, IsPlainAt}
use Rattle.sc_live_plain.proofs.PlainLemmas.{IsStage, Journal, some_is}
use Rattle.sc_live_answers.specs.AnswerDefinitions.{HaveOneLog}
use Rattle.sc_live_answers.proofs.LinesProofs.LineEndGroups as end_of_line
use Rattle.sc_live_answers.proofs.RequestsProofs.RequestLineReplicas.{HasServed, HaveServed}

from_map : {X Y : Type 0} (f : X → Y) (xs : List X) (y : Y) → Among y (map f xs) → (x : X) × (f x ≡ y)
from_map f [] y a = absurd a
from_map f (x ∷ xs) y (inl same) = (x, same)
from_map f (x ∷ xs) y (inr a) = from_map f xs y a

no_left : (from left : ℕ) → [] ≡ numbers_from from left → left ≡ 0
no_left from zero e = refl
no_left from (suc left) e = cc

module _ (words : ℕ → ℕ → ℕ × ℕ) (scenario : Scenario) (begins : IsStage scenario) (before : Journal) (q : IsQuietJournal words scenario begins.first before) (frames : List Frame) (ways : Ways) (s : AreFramesOf (replicas_after scenario before) frames)
    (fact : IsSetting (setting_at (replicas_after scenario before) frames ways)) (seated : AreSeated scenario (setting_at (replicas_after scenario before) frames ways)) (rows : Journal)
    (j : IsAsking words scenario (setting_at (replicas_after scenario before) frames ways) begins.first rows) (served : HaveServed scenario (setting_at (replicas_after scenario before) frames ways) rows)
    (none : (who : ℕ) → is_born (system_of as_nodes words scenario) who ≡ true → rest (system_of as_nodes words scenario) rows who ≡ []) (one_log : HaveOneLog (replicas_after scenario rows)) where
  abbrev set : Setting
  set = setting_at (replicas_after scenario before) frames ways

  -- ---- a group that stood

  module _ (group : Draw) (stands : StandsQuiet (replicas_after scenario before) group) where
    abbrev f : Frame
    f = frame_at_rest stands.lead

    pub a : Among (frame_at_rest stands.lead) frames
    a = s.stand group stands

    pub frame_is : IsFrame (frame_at_rest stands.lead)
    frame_is = fact.are (frame_at_rest stands.lead) a

    pub lead_there : replica_at scenario before group stands.lead.me ≡ Some stands.lead
    lead_there = stands.newest.is_there

    pub kept_lead : IsKept group stands.lead.me stands.lead
    kept_lead = q.kept group stands.lead.me stands.lead lead_there

    pub name : name_of stands.lead ≡ group
    name = kept_lead.name_is

    pub by_id : (node : ℕ) (r : ReplicaState) → replica_at scenario rows group node ≡ Some r → replica_at scenario rows (name_of stands.lead) node ≡ Some r
    by_id node r e = ap (λ d. replica_at scenario rows d node) name ∙ e

    by_group : (node : ℕ) (r : ReplicaState) → replica_at scenario rows (name_of stands.lead) node ≡ Some r → replica_at scenario rows group node ≡ Some r
    by_group node r e = sym (ap (λ d. replica_at scenario rows d node) name) ∙ e

    pub plain_at : (node : ℕ) (r : ReplicaState) → replica_at scenario rows group node ≡ Some r → IsPlainAt (IsBegun scenario rows) (frame_at_rest stands.lead) node r
    plain_at node r e = end_of_line.plain_at words scenario begins set fact seated rows j served none (frame_at_rest stands.lead) a node r (by_id node r e)

    pub me_at : (node : ℕ) (r : ReplicaState) → replica_at scenario rows group node ≡ Some r → r.me ≡ node
    me_at node r e = end_of_line.me_at words scenario begins set fact seated rows j served none (frame_at_rest stands.lead) a node r (by_id node r e)

    -- what a replica was
    pub record WasHere (node : ℕ) (r : ReplicaState) : Type 0 where
      pub first : ReplicaState
      pub there : replica_at scenario before group node ≡ Some first
      pub is_served : HasServed scenario rows (frame_at_rest stands.lead) node first r

    pub was : (node : ℕ) (r : ReplicaState) → replica_at scenario rows group node ≡ Some r → WasHere node r
    was node r e =
        let w = end_of_line.was_at words scenario begins set fact seated rows j served none (frame_at_rest stands.lead) a node r (by_id node r e) in
        record { first = w.first; there = sym (ap (λ d. replica_at scenario before d node) name) ∙ w.there; is_served = w.served_is }

    -- what a replica that was there is now
    pub record IsNow (node : ℕ) (first : ReplicaState) : Type 0 where
      pub r : ReplicaState
      pub there : replica_at scenario rows group node ≡ Some r
      pub is_served : HasServed scenario rows (frame_at_rest stands.lead) node first r

    pub now : (node : ℕ) (first : ReplicaState) → replica_at scenario before group node ≡ Some first → IsNow node first
    now node first e =
        let w = served.standing (frame_at_rest stands.lead) node first a (ap (λ d. replica_at scenario before d node) name ∙ e) in
        record { r = w.0; there = by_group node w.0 w.1; is_served = w.2 }

    -- ---- the one that leads

    g : IsGroupAt words scenario rows (frame_at_rest stands.lead)
    g = j.groups (frame_at_rest stands.lead) a

    pub lead : ReplicaState
    lead = g.r

    pub lead_now : replica_at scenario rows group stands.lead.me ≡ Some lead
    unfolding lead
    lead_now = by_group stands.lead.me g.r g.there

    lead_id : replica_at scenario rows (name_of stands.lead) stands.lead.me ≡ Some lead
    lead_id = by_id stands.lead.me lead lead_now

    pub lead_me : lead.me ≡ stands.lead.me
    lead_me = me_at stands.lead.me lead lead_now

    pub leads : IsPlainReplica (IsBegun scenario rows) (frame_at_rest stands.lead) stands.lead.me lead × IsLeading (IsBegun scenario rows) (frame_at_rest stands.lead) lead
    unfolding lead g
    leads = end_of_line.leads words scenario begins set fact seated rows j served none (frame_at_rest stands.lead) a

    lead_was : HasServed scenario rows (frame_at_rest stands.lead) stands.lead.me stands.lead lead
    lead_was = (let w = was stands.lead.me lead lead_now in subst (λ (x : ReplicaState). HasServed scenario rows (frame_at_rest stands.lead) stands.lead.me x lead) (some_is (sym w.there ∙ lead_there)) w.is_served)

    pub core_is : lead.group.core ≡ stands.lead.group.core
    core_is = lead_was.core_is

    ballot_is : lead.leader.ballot ≡ stands.lead.leader.ballot
    ballot_is = leads.1.leader.ballot_is

    taken_slots : AreTaken lead g.taken
    unfolding lead
    taken_slots = g.slots

    taken_none : g.taken ≡ 0
    unfolding g
    taken_none = end_of_line.taken_none words scenario begins set fact seated rows j served none (frame_at_rest stands.lead) a

    pub newest : IsNewest (replicas_after scenario rows) group lead
    newest = record {
      is_there = ap (replica_at scenario rows group) lead_me ∙ lead_now;
      most = λ node other e. (
          let low = g.between.low node in
          let here = ap next_in (by_id node other e) in
          let there = ap next_in lead_id in
          let zero_ = taken_none in
          omega (arith, low, here, there, zero_));
    }

    leads_at_rest : LeadsAtRest lead
    leads_at_rest = record {
      running = leads.1.leader.running;
      mine = ap (λ (c : Core). is_member c.members lead.me) core_is ∙ (ap (is_member stands.lead.group.core.members) lead_me ∙ frame_is.leads);
      settled_is = and_from lead.running (may_offer lead (first_set lead.sets)) leads.1.leader.running (ap (λ (l : List (List ℕ)). may_offer lead (first_set l)) leads.0.sets_are ∙ leads.1.leader.may (next lead));
      unbound = leads.1.leader.open_;
      top_is = elim (lead_was.top) [ inl same ↦ same ∙ (stands.leads.top_is ∙ sym ballot_is) | inr new ↦ new.0 ∙ sym ballot_is ];
      hint_is = leads.0.hint_is ∙ ap Some (sym lead_me);
    }

    alone : (node : ℕ) (r : ReplicaState) → replica_at scenario rows group node ≡ Some r → r.running ≡ true → r ≡ lead
    alone node r e runs =
        let w = was node r e in
        let same = stands.alone node w.first w.there (sym w.is_served.running_is ∙ runs) in
        let here : node ≡ stands.lead.me = sym (q.kept group node w.first w.there).me_is ∙ ap (λ (x : ReplicaState). x.me) same in
        some_is (sym e ∙ (ap (replica_at scenario rows group) here ∙ lead_now))

    -- ---- each replica

    below_it : (node : ℕ) (r : ReplicaState) → replica_at scenario rows group node ≡ Some r → IsBelow lead r
    below_it node r e =
        let w = was node r e in
        let low = stands.below_it node w.first w.there in
        let at_lead : (b : Ballot) → below stands.lead.leader.ballot b ≡ false → below lead.leader.ballot b ≡ false = λ b k. ap (λ (l : Ballot). below l b) ballot_is ∙ k in
        record {
          promised = at_lead r.acceptor.promised (elim (w.is_served.promised) [
            | inl same ↦ ap (below stands.lead.leader.ballot) same ∙ low.promised
            | inr new ↦ ap (below stands.lead.leader.ballot) new ∙ at_least_itself stands.lead.leader.ballot
          ]);
          top = at_lead r.top (elim (w.is_served.top) [
            | inl same ↦ ap (below stands.lead.leader.ballot) same ∙ low.top
            | inr new ↦ ap (below stands.lead.leader.ballot) new.0 ∙ at_least_itself stands.lead.leader.ballot
          ]);
          accepted = Each-from (λ (report : Report Command). report.slot < next lead) r.acceptor.accepted (λ report m. under report (w.is_served.accepted report m lead g.taken lead_id taken_slots));
        }
      where
        under : (report : Report Command) → report.slot < next lead + g.taken → report.slot < next lead
        under report low = (let zero_ = taken_none in omega (arith, low, zero_))

    -- ---- members

    next_is : (node : ℕ) (r : ReplicaState) → replica_at scenario rows group node ≡ Some r → is_member stands.lead.group.core.members node ≡ true → next r ≡ next lead
    next_is node r e m = elim (cases_eq node stands.lead.me) [
      | inl here ↦ ap next (some_is (sym e ∙ (ap (replica_at scenario rows group) here ∙ lead_now)))
      | inr ne ↦ (
          let l = g.between.learners node m ne in
          let at = seated.homes (name_of stands.lead) node (served.homes (name_of stands.lead) node r (by_id node r e)) in
          let marks = end_of_line.none_at words scenario begins set fact seated rows j served none (frame_at_rest stands.lead) a node at in
          let zero_ = no_left _ l.left (sym (ap taught_slots marks) ∙ l.tells) in
          let reach = l.reaches in
          let here = ap next_in (by_id node r e) in
          let there = ap next_in lead_id in
          omega (arith, reach, zero_, here, there))
    ]

    up_to_date : (node : ℕ) → is_member (members lead) node ≡ true → (r : ReplicaState) × (replica_at scenario rows group node ≡ Some r) × IsUpToDate lead r
    up_to_date node m =
        let m0 : is_member stands.lead.group.core.members node ≡ true = sym (ap (λ (c : Core). is_member c.members node) core_is) ∙ m in
        let w = stands.member node m0 in
        let n = now node w.0 w.1 in
        let nexts = next_is node n.r n.there m0 in (
          n.r,
          n.there,
          record {
            group_is = one_log group node stands.lead.me n.r lead n.there lead_now nexts;
            next_is = nexts;
            sets_are = (replica_of_member node n.r m0 (plain_at node n.r n.there)).sets_are ∙ (ap (λ k. map (frame_at_rest stands.lead).at (numbers_from k slots_ahead)) nexts ∙ sym leads.0.sets_are);
            hint_is = (replica_of_member node n.r m0 (plain_at node n.r n.there)).hint_is ∙ ap Some (sym lead_me);
          },
        )
      where
        replica_of_member : (node : ℕ) (r : ReplicaState) → is_member stands.lead.group.core.members node ≡ true → IsPlainAt (IsBegun scenario rows) (frame_at_rest stands.lead) node r → IsPlainReplica (IsBegun scenario rows) (frame_at_rest stands.lead) node r
        replica_of_member node r m (inl p) = p.0
        replica_of_member node r m (inr left) = absurd (both_ways (is_member stands.lead.group.core.members node) left.left m)

    -- ---- voters

    pub set_among : (slot : ℕ) → Among ((frame_at_rest stands.lead).at slot) stands.lead.sets
    set_among slot = by (slice_get stands.lead.sets (slot - next stands.lead)) refl
      where
        by : (o : Option (List ℕ)) → slice_get stands.lead.sets (slot - next stands.lead) ≡ o → Among (unwrap_or (slice_get stands.lead.sets (slot - next stands.lead)) (members stands.lead)) stands.lead.sets
        by (Some set) e = subst (λ o. Among (unwrap_or o (members stands.lead)) stands.lead.sets) (sym e) (place_among stands.lead.sets (slot - next stands.lead) set e)
        by None e = subst (λ o. Among (unwrap_or o (members stands.lead)) stands.lead.sets) (sym e) (place_among stands.lead.sets 3 (members stands.lead) kept_lead.last)

    voter_at : (slot node : ℕ) → is_member ((frame_at_rest stands.lead).at slot) node ≡ true → (r : ReplicaState) × (replica_at scenario rows group node ≡ Some r) × MayVote lead r
    voter_at slot node m =
        let v = stands.voter ((frame_at_rest stands.lead).at slot) node (set_among slot) m in
        let n = now node v.0 v.1 in (
          n.r,
          n.there,
          record {
            hint_is = hint n.r (plain_at node n.r n.there) ∙ ap Some (sym lead_me);
            promised = λ not_first. (
                let p = v.2.promised (sym (ap (λ (l : LeaderState Command). l.is_first) lead_was.leader) ∙ not_first) in
                let mes : n.r.me ≡ v.0.me = me_at node n.r n.there ∙ sym (q.kept group node v.0 v.1).me_is in (
                  elim (n.is_served.promised) [ inl same ↦ same ∙ (p.0 ∙ sym ballot_is) | inr new ↦ new ∙ sym ballot_is ],
                  ap (λ (l : LeaderState Command). is_member l.promisers n.r.me) lead_was.leader ∙ (ap (is_member stands.lead.leader.promisers) mes ∙ p.1),
                ));
          },
        )
      where
        hint : (r : ReplicaState) → IsPlainAt (IsBegun scenario rows) (frame_at_rest stands.lead) node r → r.hint ≡ Some stands.lead.me
        hint r (inl p) = p.0.hint_is
        hint r (inr left) = (left.voter slot m).hint_is

    voter : (members_ : List ℕ) (node : ℕ) → Among members_ lead.sets → is_member members_ node ≡ true → (r : ReplicaState) × (replica_at scenario rows group node ≡ Some r) × MayVote lead r
    voter members_ node m v =
        let slot = from_map (frame_at_rest stands.lead).at (numbers_from (next lead) slots_ahead) members_ (subst (Among members_) leads.0.sets_are m) in
        voter_at slot.0 node (ap (λ l. is_member l node) slot.1 ∙ v)

    -- ---- all but the link

    pub stands_then : IsLinked (replicas_after scenario rows) lead → StandsQuiet (replicas_after scenario rows) group
    stands_then linked = record {
      lead = lead;
      newest = newest;
      stands = ap (λ (c : Core). c.gone) core_is ∙ stands.stands;
      leads = leads_at_rest;
      alone = alone;
      below_it = below_it;
      member = up_to_date;
      voter = voter;
      linked = linked;
    }
