-- The setting of a plain scenario: a calm one in which clients ask leaders alone, since each is the least member of its group.
use Rattle.std.proofs.Common.{◌≡◌, ℕ, ◌+◌, ◌≤◌, eqb, ◌&&◌, Bool, true, false, cond, List, [], ◌∷◌, find, Option, Some, None, inl, inr, refl, sym, ◌∙◌, ap, subst, arith}
use Rattle.std.specs.Prelude.{is_some}
use Rattle.std.specs.Option.{option_map}
use Rattle.std.proofs.lemmas.Bool.{cond_both, and_parts, and_from, eqb-true, eq-eqb}
use Rattle.sc_base.specs.Definitions.{Among, same_draw, least_of}
use Rattle.sc_base.proofs.Lemmas.{draw_is, same_name, map-some}
use Rattle.sc_node_table.specs.Values.{Draw, Base, Route}
use Rattle.sc_node_table.specs.NodeDefinitions.{ReplicaState, born_replica, slots_ahead}
use Rattle.sc_words.proofs.PaxosProofs.PaxosLemmas.{find_found}
use Rattle.sc_paxos_law.proofs.Lemmas.{from_map}
use Rattle.sc_scenario.specs.scenario.Definitions.{IsBounded}
use Rattle.sc_scenario.specs.declared.scenario.scenarios.Scenario.{Scenario}
use Rattle.sc_live_steps.specs.calm.CalmDefinitions.{Ways, View as Replicas}
use Rattle.sc_live_plain.specs.PlainDefinitions.{IsLinkedSetting, Setting, IsHome, HasGoneTo, IsSetting, Frame, frame_of}
use Rattle.sc_live_plain.proofs.CalmProofs.GroupsRoundRing.{round_from}
use Rattle.sc_live_plain.proofs.PlainProofs.GroupCircle.{next_frame, one_before, arcs_at_birth, least_leads}
use Rattle.sc_live_plain.proofs.PlainProofs.PlainBeginnings.{frames_of, IsStage, stage}
use Rattle.sc_live_plain.proofs.PlainRowsProofs.Lists.{map_among}

-- one of a list that passes a test is found, or one before it
found_among : {X : Type 0} (p : X → Bool) (xs : List X) (x : X) → Among x xs → p x ≡ true → (y : X) × (find p xs ≡ Some y)
found_among p [] x a t = absurd a
found_among {X} p (y ∷ xs) x a t =
    cond_both (p y) (Some y) (find p xs) (λ o. (z : X) × (o ≡ Some z)) (λ _. (y, refl))
    (λ f. found_among p xs x (elim a [ inl same ↦ (let bad : false ≡ true = sym f ∙ (ap p same ∙ t) in cc) | inr b ↦ b ]) t)

-- whether the node leads the group at birth
abbrev is_lead : Draw → ℕ → Base → Bool
is_lead group node base = same_draw base.core.id group && eqb base.core.first node

-- the replicas that lead, as they are at birth, and no others
abbrev pub leaders_of : Scenario → Replicas
leaders_of scenario group node = option_map (λ base. born_replica slots_ahead node base) (find (is_lead group node) scenario.groups)

-- a leader is where hints lead, and each other node is one hint away
abbrev pub ways_to_leaders : Scenario → Ways
ways_to_leaders scenario = record { far = λ group node. cond (is_some (leaders_of scenario group node)) 0 1; most = 1; asked_group = λ tx. None }

abbrev pub plain_setting : Scenario → Setting
plain_setting scenario = record { frames = frames_of scenario; at = leaders_of scenario; ways = ways_to_leaders scenario }

module _ (scenario : Scenario) where
  -- what a leader at birth is
  record IsLeader (group : Draw) (node : ℕ) (r : ReplicaState) : Type 0 where
    base : Base
    among : Among base scenario.groups
    named : base.core.id ≡ group
    first : base.core.first ≡ node
    fact : born_replica slots_ahead node base ≡ r

  is_leader : (group : Draw) (node : ℕ) (r : ReplicaState) → leaders_of scenario group node ≡ Some r → IsLeader group node r
  is_leader group node r e =
      let m = map-some (λ (base : Base). born_replica slots_ahead node base) (find (is_lead group node) scenario.groups) r e in
      let f = find_found (is_lead group node) scenario.groups m.0 m.1 in
      let parts = and_parts (same_draw m.0.core.id group) (eqb m.0.core.first node) f.1 in
      record { base = m.0; among = f.0; named = draw_is m.0.core.id group parts.0; first = eqb-true m.0.core.first node parts.1; fact = m.2 }

  -- whoever may be asked leads
  pub home_leads : (group : Draw) (node : ℕ) → IsHome (plain_setting scenario) group node → (frame : Frame) × Among frame (frames_of scenario) × (frame.core.id ≡ group) × (frame.lead ≡ node)
  home_leads group node h = (let l = is_leader group node h.r h.is_there in (frame_of l.base, map_among frame_of scenario.groups l.base l.among, l.named, l.first))

  -- and each leader may be asked
  leads_home : (frame : Frame) → Among frame (frames_of scenario) → IsHome (plain_setting scenario) frame.core.id frame.lead
  leads_home frame a =
      let b = from_map frame_of scenario.groups frame a in
      let base : Base = b.0 in
      let f = found_among (is_lead base.core.id base.core.first) scenario.groups base b.1
      (and_from (same_draw base.core.id base.core.id) (eqb base.core.first base.core.first) (same_name base.core.id base.core.id refl) (eq-eqb base.core.first base.core.first refl)) in
      subst (λ (x : Frame). IsHome (plain_setting scenario) x.core.id x.lead) b.2
      (record { r = born_replica slots_ahead base.core.first f.0; is_there = ap (λ (o : Option Base). option_map (λ x. born_replica slots_ahead base.core.first x) o) f.1 })

  module _ (begins : IsStage scenario) where
    -- at birth no group is gone
    pub none_gone : (group : Draw) (into : Route) → HasGoneTo (plain_setting scenario) group into → ⊥
    none_gone group into h =
        let l = is_leader group h.node h.r h.is_there in
        let stands = (begins.are (frame_of l.base) (map_among frame_of scenario.groups l.base l.among)).stands in
        let bad : None ≡ Some into = sym stands ∙ (ap (λ (r : ReplicaState). r.group.core.gone) l.fact ∙ h.went) in
        cc

    -- no other node of a group is nearer than its leader
    leader_nearest : (frame : Frame) (node : ℕ) → Among frame (frames_of scenario) → (node ≡ frame.lead → ⊥) → (ways_to_leaders scenario).far frame.core.id frame.lead + 1 ≤ (ways_to_leaders scenario).far frame.core.id node
    leader_nearest frame node a ne =
        let here = leads_home frame a in
        let zero_ : (ways_to_leaders scenario).far frame.core.id frame.lead ≡ 0 = ap (λ (o : Option ReplicaState). cond (is_some o) 0 1) here.is_there in
        by zero_ (leaders_of scenario frame.core.id node) refl
      where
        by : (ways_to_leaders scenario).far frame.core.id frame.lead ≡ 0 → (o : Option ReplicaState) → leaders_of scenario frame.core.id node ≡ o → (ways_to_leaders scenario).far frame.core.id frame.lead + 1 ≤ (ways_to_leaders scenario).far frame.core.id node
        by none None e = (let one : (ways_to_leaders scenario).far frame.core.id node ≡ 1 = ap (λ (o : Option ReplicaState). cond (is_some o) 0 1) e in omega (arith, none, one))
        by none (Some r) e =
            let l = is_leader frame.core.id node r e in
            let same : frame_of l.base ≡ frame = begins.apart (frame_of l.base) frame (map_among frame_of scenario.groups l.base l.among) a l.named in
            absurd (ne (sym l.first ∙ ap (λ (x : Frame). x.lead) same))

    pub is_setting : IsSetting (plain_setting scenario)
    is_setting = record { are = begins.are; apart = begins.apart; leads = leads_home; nearer = leader_nearest }

  -- the groups stand round the ring, and each names the leader of the next
  pub is_linked : IsBounded scenario → IsLinkedSetting (plain_setting scenario)
  is_linked bounded =
      let begins = stage scenario bounded in
      record {
        rings = round_from (plain_setting scenario) begins.apart (arcs_at_birth scenario bounded) (λ frame a. (let n = next_frame scenario bounded frame a in (n.0, n.1, n.2.after))) (one_before scenario bounded);
        links = λ frame a. (let n = next_frame scenario bounded frame a in
            let least : n.0.lead ≡ least_of frame.core.succ.members = least_leads scenario bounded n.0 n.1 ∙ ap least_of (sym n.2.members) in
            subst (IsHome (plain_setting scenario) frame.core.succ.group) least (subst (λ d. IsHome (plain_setting scenario) d n.0.lead) (sym n.2.after.name) (leads_home n.0 n.1)));
        routes = λ group into h. absurd (none_gone begins group into h);
        stand = λ frame into a h. none_gone begins frame.core.id into h;
      }
