-- At the end of a line of requests all replicas are quiet again: links, hints, and groups that are gone.
use Rattle.std.proofs.Common.{◌≡◌, ℕ, ◌+◌, ◌-◌, ◌≤◌, true, false, List, [], ◌∷◌, length, Some, None, ◌⊎◌, inl, inr, sym, ◌∙◌, ap, subst, arith}
use Rattle.std.specs.Prelude.{slice_get, unwrap_or}
use Rattle.std.proofs.lemmas.Bool.{cases_lt, both_ways}
use Rattle.std.proofs.lemmas.Option.{slice_get_past}
use Rattle.sc_base.specs.Definitions.{Among, Each, end_of, is_member}
use Rattle.sc_node_table.specs.Values.{Ballot, Draw, Command, Core}
use Rattle.sc_group_table.specs.machine.MachineDefinitions.{Group}
use Rattle.sc_words.specs.paxos.PaxosDefinitions.{below, LeaderState, must}
use Rattle.sc_words.proofs.PaxosProofs.PaxosLemmas.{not_below_parts}
use Rattle.sc_node_table.specs.NodeDefinitions.{ReplicaState, next, members}
use Rattle.sc_scenario.specs.declared.scenario.scenarios.Scenario.{Scenario}
use Rattle.sc_meaning.specs.sound.SoundDefinitions.{system_of, as_nodes}
use Rattle.sc_live_orderly.specs.OrderlyDefinitions.{rest, is_born}
use Rattle.sc_live_steps.specs.calm.CalmDefinitions.{AreNines, MayPump, Ways, HasReplica, IsNewest, IsAtRest, IsLinked, StandsQuiet, IsGoneQuiet, RisesAt}
use Rattle.sc_live_plain.specs.PlainDefinitions.{IsAsking, AreSeated, replicas_after, setting_at, AreFramesOf, IsQuietJournal, IsOfNodes, IsKept, frame_at_rest, replica_at, IsSetting, Frame, IsFrame, IsBegun, IsPlainAt}
use Rattle.sc_live_plain.proofs.PlainLemmas.{IsStage, Journal}
use Rattle.sc_live_answers.specs.AnswerDefinitions.{HaveOneLog, AreReplicasQuiet}
use Rattle.sc_live_answers.proofs.LinesProofs.LineEndGroups as end_of_line
use Rattle.sc_live_answers.proofs.LinesProofs.LineEndStandingGroups as ends
use Rattle.sc_live_answers.proofs.RequestsProofs.RequestLineReplicas.{HaveServed}

pub few_of : (sets : List (List ℕ)) → Each IsOfNodes sets → AreNines sets
few_of [] e = tt
few_of (set ∷ sets) e = (e.0.roster.most, few_of sets e.1)

module _ (words : ℕ → ℕ → ℕ × ℕ) (scenario : Scenario) (begins : IsStage scenario) (before : Journal) (q : IsQuietJournal words scenario begins.first before) (frames : List Frame) (ways : Ways) (s : AreFramesOf (replicas_after scenario before) frames)
    (fact : IsSetting (setting_at (replicas_after scenario before) frames ways)) (seated : AreSeated scenario (setting_at (replicas_after scenario before) frames ways)) (rows : Journal)
    (j : IsAsking words scenario (setting_at (replicas_after scenario before) frames ways) begins.first rows) (served : HaveServed scenario (setting_at (replicas_after scenario before) frames ways) rows)
    (none : (who : ℕ) → is_born (system_of as_nodes words scenario) who ≡ true → rest (system_of as_nodes words scenario) rows who ≡ []) (one_before : HaveOneLog (replicas_after scenario before)) (one_log : HaveOneLog (replicas_after scenario rows)) where
  -- ---- groups that are gone

  module _ (group : Draw) (gone : IsGoneQuiet (replicas_after scenario before) group) where
    -- such a group has no frame
    no_frame : (frame : Frame) → Among frame frames → frame.core.id ≡ group → ⊥
    no_frame frame a e =
        let f = s.are frame a in
        let there = f.1.newest.is_there in
        let name : f.0 ≡ group = sym (q.kept f.0 f.1.lead.me f.1.lead there).name_is ∙ (ap (λ (x : Frame). x.core.id) f.2 ∙ e) in
        both_ways f.1.lead.running (gone.stopped f.1.lead.me f.1.lead (ap (λ d. replica_at scenario before d f.1.lead.me) (sym name) ∙ there)) f.1.leads.running

    pub same : (node : ℕ) → replica_at scenario rows group node ≡ replica_at scenario before group node
    same node = served.others group node no_frame

  -- ---- replicas that were there are there

  pub home_still : (group : Draw) (node : ℕ) → HasReplica (replicas_after scenario before) group node → HasReplica (replicas_after scenario rows) group node
  home_still group node h = elim (q.quiet.groups group node h) [
    | inl stands ↦ (let n = ends.now words scenario begins before q frames ways s fact seated rows j served none one_log group stands node h.0 h.1 in (n.r, n.there))
    | inr gone ↦ (h.0, same group gone node ∙ h.1)
  ]

  pub home_was : (group : Draw) (node : ℕ) → HasReplica (replicas_after scenario rows) group node → HasReplica (replicas_after scenario before) group node
  home_was group node h = (let w = served.homes group node h.0 h.1 in (w.r, w.is_there))

  -- ---- a group that is gone

  gone_then : (group : Draw) → IsGoneQuiet (replicas_after scenario before) group → IsGoneQuiet (replicas_after scenario rows) group
  gone_then group gone = record {
    last = gone.last;
    newest = record { is_there = same group gone gone.last.me ∙ gone.newest.is_there; most = λ node other e. gone.newest.most node other (sym (same group gone node) ∙ e) };
    into = gone.into;
    went = gone.went;
    stopped = λ node r e. gone.stopped node r (sym (same group gone node) ∙ e);
    member = λ node m. (let w = gone.member node m in (w.0, same group gone node ∙ w.1, w.2, w.3));
    nodes = λ node m. home_still gone.into.group node (gone.nodes node m);
  }

  -- ---- a group that stands

  module _ (group : Draw) (stands : StandsQuiet (replicas_after scenario before) group) where
    abbrev lead : ReplicaState
    lead = ends.lead words scenario begins before q frames ways s fact seated rows j served none one_log group stands

    core_is : lead.group.core ≡ stands.lead.group.core
    core_is = ends.core_is words scenario begins before q frames ways s fact seated rows j served none one_log group stands

    abbrev succ : Draw
    succ = stands.lead.group.core.succ.group

    -- the group behind it stands still
    record Behind : Type 0 where
      is_stands : StandsQuiet (replicas_after scenario before) succ
      group_is : is_stands.lead.group ≡ stands.linked.behind.group

    behind_by : StandsQuiet (replicas_after scenario before) succ ⊎ IsGoneQuiet (replicas_after scenario before) succ → Behind
    behind_by (inl other) =
        let b = stands.linked.newest in
        let one = other.newest.most stands.linked.behind.me stands.linked.behind b.is_there in
        let two = b.most other.lead.me other.lead other.newest.is_there in
        record { is_stands = other; group_is = one_before succ other.lead.me stands.linked.behind.me other.lead stands.linked.behind other.newest.is_there b.is_there (omega (arith, one, two)) }
    behind_by (inr gone) =
        let b = stands.linked.newest in
        let one = gone.newest.most stands.linked.behind.me stands.linked.behind b.is_there in
        let two = b.most gone.last.me gone.last gone.newest.is_there in
        let group_is = one_before succ gone.last.me stands.linked.behind.me gone.last stands.linked.behind gone.newest.is_there b.is_there (omega (arith, one, two)) in
        let bad : Some gone.into ≡ None = sym gone.went ∙ (ap (λ (x : Group). x.core.gone) group_is ∙ stands.linked.stands) in
        absurd (some_none bad)
      where
        some_none : {X : Type 0} {x : X} → Some x ≡ None → ⊥
        some_none e = cc

    behind : Behind
    behind = behind_by (q.quiet.groups succ stands.linked.behind.me (stands.linked.behind, stands.linked.newest.is_there))

    linked_by : (b : Behind) → IsLinked (replicas_after scenario rows) lead
    linked_by b =
        let there : ReplicaState = ends.lead words scenario begins before q frames ways s fact seated rows j served none one_log succ b.is_stands in
        let core : there.group.core ≡ stands.linked.behind.group.core = ends.core_is words scenario begins before q frames ways s fact seated rows j served none one_log succ b.is_stands ∙ ap (λ (x : Group). x.core) b.group_is in
        let new : IsNewest (replicas_after scenario rows) succ there = ends.newest words scenario begins before q frames ways s fact seated rows j served none one_log succ b.is_stands in
        record {
          behind = there;
          newest = subst (λ (c : Core). IsNewest (replicas_after scenario rows) c.succ.group there) (sym core_is) new;
          stands = ap (λ (c : Core). c.gone) core ∙ stands.linked.stands;
          begins = ap (λ (c : Core). c.arc.lo) core ∙ (stands.linked.begins ∙ ap (λ (c : Core). end_of c.arc) (sym core_is));
          nodes = λ node m. subst (λ (c : Core). HasReplica (replicas_after scenario rows) c.succ.group node) (sym core_is)
              (home_still succ node (stands.linked.nodes node (sym (ap (λ (c : Core). is_member c.succ.members node) core_is) ∙ m)));
        }

    pub stands_then : StandsQuiet (replicas_after scenario rows) group
    stands_then = ends.stands_then words scenario begins before q frames ways s fact seated rows j served none one_log group stands (linked_by behind)

    -- ---- each of its replicas

    module _ (node : ℕ) (r : ReplicaState) (e : replica_at scenario rows group node ≡ Some r) where
      w : ends.WasHere words scenario begins before q frames ways s fact seated rows j served none one_log group stands node r
      w = ends.was words scenario begins before q frames ways s fact seated rows j served none one_log group stands node r e

      plain : IsPlainAt (IsBegun scenario rows) (frame_at_rest stands.lead) node r
      plain = ends.plain_at words scenario begins before q frames ways s fact seated rows j served none one_log group stands node r e

      kept_first : IsKept group node w.first
      kept_first = q.kept group node w.first w.there

      pub rests_then : IsAtRest r
      rests_then =
          end_of_line.rests_at words scenario begins (setting_at (replicas_after scenario before) frames ways) fact seated rows j served none (frame_at_rest stands.lead)
          (ends.a words scenario begins before q frames ways s fact seated rows j served none one_log group stands) node r (ends.by_id words scenario begins before q frames ways s fact seated rows j served none one_log group stands node r e) w.first
          (q.quiet.at_rest group node w.first w.there) w.is_served plain

      -- hints rise
      frame_is : IsFrame (frame_at_rest stands.lead)
      frame_is = ends.frame_is words scenario begins before q frames ways s fact seated rows j served none one_log group stands

      to_lead : r.top ≡ stands.lead.leader.ballot → r.hint ≡ Some stands.lead.me → RisesAt (replicas_after scenario rows) group r
      to_lead top hint =
          let own : r.top.node ≡ stands.lead.me = ap (λ (b : Ballot). b.node) top ∙ frame_is.own in
          let stood = stands_then in
          record {
            hint_is = hint ∙ ap Some (sym own);
            there = lead;
            is_there = ap (replica_at scenario rows group) own ∙ ends.lead_now words scenario begins before q frames ways s fact seated rows j served none one_log group stands;
            nearer = inl lead_runs;
          }
        where
          lead_runs : lead.running ≡ true
          lead_runs = (ends.leads words scenario begins before q frames ways s fact seated rows j served none one_log group stands).1.leader.running

      still_by : r.top ≡ w.first.top → RisesAt (replicas_after scenario before) group w.first → RisesAt (replicas_after scenario rows) group r
      still_by top up =
          let n = ends.now words scenario begins before q frames ways s fact seated rows j served none one_log group stands w.first.top.node up.there up.is_there in
          let node_is : r.top.node ≡ w.first.top.node = ap (λ (b : Ballot). b.node) top in
          let round_is : r.top.round ≡ w.first.top.round = ap (λ (b : Ballot). b.round) top in
          record {
            hint_is = w.is_served.hint_is ∙ (up.hint_is ∙ ap Some (sym node_is));
            there = n.r;
            is_there = ap (replica_at scenario rows group) node_is ∙ n.there;
            nearer = elim (up.nearer) [
              | inl runs ↦ inl (n.is_served.running_is ∙ runs)
              | inr o ↦ elim o [
                | inl gone ↦ inr (inl (gone.0, ap (λ (c : Core). c.gone) n.is_served.core_is ∙ gone.1))
                | inr later ↦ inr (inr (elim (n.is_served.top) [
                  | inl same_top ↦ (let rounds = ap (λ (b : Ballot). b.round) same_top in omega (arith, later, rounds, round_is))
                  | inr new ↦ (
                      let rounds = ap (λ (b : Ballot). b.round) new.0 in
                      let high = round_low up.there.top (stands.below_it w.first.top.node up.there up.is_there).top in
                      omega (arith, later, rounds, round_is, high))
                ]))
              ]
            ];
          }
        where
          round_low : (b : Ballot) → below stands.lead.leader.ballot b ≡ false → b.round ≤ stands.lead.leader.ballot.round
          round_low b k = elim (not_below_parts stands.lead.leader.ballot b k) [ inl lt ↦ omega (arith, lt) | inr p ↦ (let e_ = p.0 in omega (arith, e_)) ]

      pub rises_then : r.running ≡ false → r.group.core.gone ≡ None → RisesAt (replicas_after scenario rows) group r
      rises_then stops stays = elim (w.is_served.top) [
        | inr new ↦ to_lead new.0 new.1
        | inl same_top ↦ still_by same_top (q.quiet.rises group node w.first w.there (sym w.is_served.running_is ∙ stops) (sym (ap (λ (c : Core). c.gone) w.is_served.core_is) ∙ stays))
      ]

      -- ---- it is kept

      at_last : (n : ℕ) → next stands.lead ≤ n → (frame_at_rest stands.lead).at (n + 1 + 1 + 1) ≡ members stands.lead
      at_last n low = elim (cases_lt (next stands.lead) n) [
        | inl more ↦ (let many = kept_lead.many in ap (λ o. unwrap_or o (members stands.lead)) (slice_get_past stands.lead.sets (n + 1 + 1 + 1 - next stands.lead) (omega (arith, many, more))))
        | inr high ↦ (let three : n + 1 + 1 + 1 - next stands.lead ≡ 3 = omega (arith, low, high) in ap (λ k. unwrap_or (slice_get stands.lead.sets k) (members stands.lead)) three ∙ ap (λ o. unwrap_or o (members stands.lead)) kept_lead.last)
      ]
        where
          kept_lead : IsKept group stands.lead.me stands.lead
          kept_lead = q.kept group stands.lead.me stands.lead stands.newest.is_there

      set_of_nodes : (slot : ℕ) → IsOfNodes ((frame_at_rest stands.lead).at slot)
      set_of_nodes slot = record { roster = frame_is.rosters slot; nodes = λ n m. frame_is.nodes slot n m }

      members_are : members r ≡ members w.first
      members_are = ap (λ (c : Core). c.members) w.is_served.core_is

      kept_by : IsPlainAt (IsBegun scenario rows) (frame_at_rest stands.lead) node r → IsKept group node r
      kept_by (inl p) = record {
        me_is = ends.me_at words scenario begins before q frames ways s fact seated rows j served none one_log group stands node r e;
        name_is = ap (λ (c : Core). c.id) w.is_served.core_is ∙ kept_first.name_is;
        own = λ runs. ap (λ (l : LeaderState Command). l.ballot.node) w.is_served.leader ∙ kept_first.own (sym w.is_served.running_is ∙ runs);
        floor_low = p.0.floor_low;
        many = ap length p.0.sets_are;
        sets = subst (Each IsOfNodes) (sym p.0.sets_are) (set_of_nodes (next r), (set_of_nodes (next r + 1), (set_of_nodes (next r + 1 + 1), (set_of_nodes (next r + 1 + 1 + 1), tt))));
        last = ap (λ (l : List (List ℕ)). slice_get l 3) p.0.sets_are ∙ (ap Some (at_last (next r) p.0.begins) ∙ ap (λ (c : Core). Some c.members) (sym p.0.group.core_is));
      }
      kept_by (inr left) = elim (w.is_served.rest) [
        | inr member ↦ absurd (both_ways (is_member stands.lead.group.core.members node) left.left member)
        | inl still ↦ record {
          me_is = ends.me_at words scenario begins before q frames ways s fact seated rows j served none one_log group stands node r e;
          name_is = ap (λ (c : Core). c.id) w.is_served.core_is ∙ kept_first.name_is;
          own = λ runs. ap (λ (l : LeaderState Command). l.ballot.node) w.is_served.leader ∙ kept_first.own (sym w.is_served.running_is ∙ runs);
          floor_low = (let low = kept_first.floor_low in let f = still.floor_is in let n = still.next_is in omega (arith, low, f, n));
          many = ap length still.sets_are ∙ kept_first.many;
          sets = subst (Each IsOfNodes) (sym still.sets_are) kept_first.sets;
          last = ap (λ (l : List (List ℕ)). slice_get l 3) still.sets_are ∙ (kept_first.last ∙ ap Some (sym members_are));
        }
      ]

      pub kept_then : IsKept group node r
      kept_then = kept_by plain

      pumps_then : MayPump w.first → MayPump r
      pumps_then may = record {
        unbound = λ slot low. (let up = w.is_served.next_up in ap (must slot) w.is_served.leader ∙ may.unbound slot (omega (arith, low, up)));
        few = few_of r.sets kept_then.sets;
      }

      pub pumps_if : ((d : Draw) (n : ℕ) (x : ReplicaState) → replica_at scenario before d n ≡ Some x → MayPump x) → MayPump r
      pumps_if all = pumps_then (all group node w.first w.there)

  -- ---- all replicas

  pub which : (group : Draw) (node : ℕ) (r : ReplicaState) → replica_at scenario rows group node ≡ Some r → StandsQuiet (replicas_after scenario before) group ⊎ IsGoneQuiet (replicas_after scenario before) group
  which group node r e = q.quiet.groups group node (home_was group node (r, e))

  pub all_quiet : AreReplicasQuiet (replicas_after scenario before) (replicas_after scenario rows)
  all_quiet = record {
    groups = λ group node h. elim (which group node h.0 h.1) [ inl stands ↦ inl (stands_then group stands) | inr gone ↦ inr (gone_then group gone) ];
    at_rest = λ group node r e. elim (which group node r e) [ inl stands ↦ rests_then group stands node r e | inr gone ↦ q.quiet.at_rest group node r (sym (same group gone node) ∙ e) ];
    rises = λ group node r e stops stays. elim (which group node r e) [
      | inl stands ↦ rises_then group stands node r e stops stays
      | inr gone ↦ (
          let up = q.quiet.rises group node r (sym (same group gone node) ∙ e) stops stays in
          record { hint_is = up.hint_is; there = up.there; is_there = same group gone r.top.node ∙ up.is_there; nearer = up.nearer })
    ];
    kept = λ group node r e. elim (which group node r e) [ inl stands ↦ kept_then group stands node r e | inr gone ↦ q.kept group node r (sym (same group gone node) ∙ e) ];
    may_pump = λ all group node r e. elim (which group node r e) [ inl stands ↦ pumps_if group stands node r e all | inr gone ↦ all group node r (sym (same group gone node) ∙ e) ];
  }
