-- Each group that stands in a quiet journal stands plain: its replicas are those of the frame that its leader gives.
use Rattle.std.proofs.Common.{◌≡◌, ℕ, ◌+◌, ◌-◌, ◌*◌, ◌≤◌, ◌||◌, not, eqb, true, false, List, [], ◌∷◌, length, map, count_by, Option, Some, None, inl, inr, refl, sym, ◌∙◌, ap, subst, arith}
use Rattle.std.specs.Prelude.{slice_get, unwrap_or}
use Rattle.std.proofs.lemmas.Bool.{cases_Bool, cases_eq, cases_lt, both_ways, and_from, or_left, or_right, lt-ltb}
use Rattle.std.proofs.lemmas.Option.{slice_get_past}
use Rattle.sc_base.specs.Definitions.{Among, Each, votes_of, is_majority, is_member}
use Rattle.sc_node_table.specs.Values.{Draw, Command, Flight}
use Rattle.sc_words.specs.paxos.PaxosDefinitions.{below}
use Rattle.sc_words.proofs.PaxosProofs.PaxosLemmas.{Each-among}
use Rattle.sc_group_table.specs.machine.MachineDefinitions.{Group}
use Rattle.sc_node_table.specs.NodeDefinitions.{ReplicaState, name_of, next, members, may_offer, numbers_from, slots_ahead}
use Rattle.sc_paxos_law.proofs.Lemmas.{place_among, among-member}
use Rattle.sc_live_steps.specs.calm.CalmDefinitions.{View as Replicas, IsAtRest, IsUpToDate, StandsQuiet}
use Rattle.sc_live_plain.specs.PlainDefinitions.{IsOfNodes, IsKept, frame_at_rest, view_at_rest, StandsPlain, QuietGroupsStandPlain, IsBetween, next_in, voters_in, votes_in, Frame, IsFrame, IsBegun, Requests, IsPlainCommand, takers, AreTaken, IsPlainGroup, IsPlainFlight, IsPlainLeader, IsPlainFollower, IsPlainVoter, IsPlainReplica, IsLeading, IsSettled, IsPlainAt}
use Rattle.sc_live_plain.proofs.PlainRowsProofs.SlotCounts.{one_if, one_no}
use Rattle.sc_live_plain.proofs.LeadersProofs.LeadingReplicas.{in_range, range_before, range_behind}
use Rattle.sc_live_plain.proofs.PlainRowsProofs.Lists.{some_is}
use Rattle.sc_live_plain.proofs.LeadersProofs.IdleLeaders.{all_voted}

-- the members of four open slots, by their numbers
four_are : (n : ℕ) (sets : List (List ℕ)) (members : List ℕ) → length sets ≡ slots_ahead → sets ≡ map (λ slot. unwrap_or (slice_get sets (slot - n)) members) (numbers_from n slots_ahead)
four_are n (a ∷ b ∷ c ∷ d ∷ []) members e =
    let sets : List (List ℕ) = a ∷ b ∷ c ∷ d ∷ [] in
    let one : n - n ≡ 0 = omega arith in
    let two : n + 1 - n ≡ 1 = omega arith in
    let three : n + 1 + 1 - n ≡ 2 = omega arith in
    let four : n + 1 + 1 + 1 - n ≡ 3 = omega arith in
    ap (λ k. unwrap_or (slice_get sets k) members ∷ b ∷ c ∷ d ∷ []) (sym one)
    ∙ ap (λ k. unwrap_or (slice_get sets (n - n)) members ∷ unwrap_or (slice_get sets k) members ∷ c ∷ d ∷ []) (sym two)
    ∙ ap (λ k. unwrap_or (slice_get sets (n - n)) members ∷ unwrap_or (slice_get sets (n + 1 - n)) members ∷ unwrap_or (slice_get sets k) members ∷ d ∷ []) (sym three)
    ∙ ap (λ k. unwrap_or (slice_get sets (n - n)) members ∷ unwrap_or (slice_get sets (n + 1 - n)) members ∷ unwrap_or (slice_get sets (n + 1 + 1 - n)) members ∷ unwrap_or (slice_get sets k) members ∷ []) (sym four)
four_are n [] members e = cc
four_are n (a ∷ []) members e = absurd (omega (arith, e))
four_are n (a ∷ b ∷ []) members e = absurd (omega (arith, e))
four_are n (a ∷ b ∷ c ∷ []) members e = absurd (omega (arith, e))
four_are n (a ∷ b ∷ c ∷ d ∷ x ∷ more) members e = absurd (omega (arith, e))

-- no slot is taken where nothing is in flight or ready
none_taken : (r : ReplicaState) → IsAtRest r → AreTaken r 0
none_taken r at = record { most = omega arith; once = none }
  where
    none_in_range : (slot : ℕ) → one_if (in_range (next r) 0 slot) ≡ 0
    none_in_range slot = elim (cases_lt slot (next r)) [
      | inl low ↦ one_no (in_range (next r) 0 slot) (range_before (next r) 0 slot low)
      | inr high ↦ one_no (in_range (next r) 0 slot) (range_behind (next r) 0 slot (omega (arith, high)))
    ]

    none : (slot : ℕ) → takers r slot ≡ one_if (in_range (next r) 0 slot)
    none slot =
        (let flights = ap (λ (fs : List (Flight Command)). count_by (λ (flight : Flight Command). eqb flight.slot slot) fs) at.flights in
        let ready = ap (λ (es : List (ℕ × Command)). count_by (λ (entry : ℕ × Command). eqb entry.0 slot) es) at.ready in
        let zero_ = none_in_range slot in
        omega (arith, flights, ready, zero_))

module _ (begun : Requests) (at : Replicas) (group : Draw) (quiet : StandsQuiet at group) (all : (node : ℕ) (r : ReplicaState) → at group node ≡ Some r → IsKept group node r × IsAtRest r)
    (noted : IsPlainGroup begun (frame_at_rest quiet.lead) quiet.lead.group) where
  abbrev lead : ReplicaState
  lead = quiet.lead

  abbrev frame : Frame
  frame = frame_at_rest quiet.lead

  here : at group quiet.lead.me ≡ Some quiet.lead
  here = quiet.newest.is_there

  kept : IsKept group quiet.lead.me quiet.lead
  kept = (all quiet.lead.me quiet.lead here).0

  rests : IsAtRest quiet.lead
  rests = (all quiet.lead.me quiet.lead here).1

  name : name_of quiet.lead ≡ group
  name = kept.name_is

  -- who decides a slot is known
  set_among : (slot : ℕ) → Among ((frame_at_rest quiet.lead).at slot) quiet.lead.sets
  set_among slot = by (slice_get quiet.lead.sets (slot - next quiet.lead)) refl
    where
      by : (o : Option (List ℕ)) → slice_get quiet.lead.sets (slot - next quiet.lead) ≡ o → Among (unwrap_or (slice_get quiet.lead.sets (slot - next quiet.lead)) (members quiet.lead)) quiet.lead.sets
      by (Some set) e = subst (λ o. Among (unwrap_or o (members quiet.lead)) quiet.lead.sets) (sym e) (place_among quiet.lead.sets (slot - next quiet.lead) set e)
      by None e = subst (λ o. Among (unwrap_or o (members quiet.lead)) quiet.lead.sets) (sym e) (place_among quiet.lead.sets 3 (members quiet.lead) kept.last)

  set_is : (slot : ℕ) → IsOfNodes ((frame_at_rest quiet.lead).at slot)
  set_is slot = Each-among IsOfNodes quiet.lead.sets ((frame_at_rest quiet.lead).at slot) kept.sets (set_among slot)

  is_frame : IsFrame (frame_at_rest quiet.lead)
  is_frame = record {
    free = rests.free;
    stands = quiet.stands;
    leads = quiet.leads.mine;
    own = kept.own quiet.leads.running;
    rosters = λ slot. (set_is slot).roster;
    nodes = λ slot node m. (set_is slot).nodes node m;
    later = λ slot late. (let many = kept.many in ap (λ o. unwrap_or o (members quiet.lead)) (slice_get_past quiet.lead.sets (slot - next quiet.lead) (omega (arith, many, late))));
  }

  -- ---- the leader

  -- each node that decides a slot is a promiser, where that matters
  promised_by : quiet.lead.leader.is_first ≡ false → (slot node : ℕ) → is_member ((frame_at_rest quiet.lead).at slot) node ≡ true → is_member quiet.lead.leader.promisers node ≡ true
  promised_by not_first slot node m =
      let v = quiet.voter ((frame_at_rest quiet.lead).at slot) node (set_among slot) m in
      let me = (all node v.0 v.1).0.me_is in
      subst (λ n. is_member quiet.lead.leader.promisers n ≡ true) me (v.2.promised not_first).1

  may : (slot : ℕ) → may_offer quiet.lead ((frame_at_rest quiet.lead).at slot) ≡ true
  may slot =
      let set = (frame_at_rest quiet.lead).at slot in
      let promisers = quiet.lead.leader.promisers in
      and_from (not (below quiet.lead.leader.ballot quiet.lead.acceptor.promised)) (quiet.lead.leader.is_first || is_majority set promisers) (ap not (quiet.below_it quiet.lead.me quiet.lead here).promised)
      (elim (cases_Bool quiet.lead.leader.is_first) [
        | inl first ↦ or_left quiet.lead.leader.is_first (is_majority set promisers) first
        | inr not_first ↦ or_right quiet.lead.leader.is_first (is_majority set promisers)
            (let votes = all_voted set promisers (λ node a. promised_by not_first slot node (among-member set node a)) in
            let some = (set_is slot).roster.some in
            lt-ltb (length set) (2 * votes_of set promisers) (omega (arith, votes, some)))
      ])

  leader : IsPlainLeader begun (frame_at_rest quiet.lead) 0 quiet.lead
  leader = record {
    running = quiet.leads.running;
    ballot_is = refl;
    may = may;
    open_ = quiet.leads.unbound;
    backlog = subst (Each (IsPlainCommand begun (frame_at_rest quiet.lead))) (sym rests.backlog) tt;
    flights = subst (Each (IsPlainFlight begun (frame_at_rest quiet.lead))) (sym rests.flights) tt;
    ready = subst (Each (λ (entry : ℕ × Command). IsPlainCommand begun (frame_at_rest quiet.lead) entry.1)) (sym rests.ready) tt;
    slots = none_taken quiet.lead rests;
  }

  leading : IsLeading begun (frame_at_rest quiet.lead) quiet.lead
  leading = record {
    taken = 0;
    leader = leader;
    done = record { executed = ap (λ (entries : List (ℕ × Command)). count_by (λ (entry : ℕ × Command). eqb entry.0 (next quiet.lead)) entries) rests.ready; offered = inl rests.backlog };
  }

  -- ---- the replicas

  -- one at another node does not run
  stopped : (node : ℕ) (r : ReplicaState) → at group node ≡ Some r → (node ≡ quiet.lead.me → ⊥) → r.running ≡ false
  stopped node r there ne = elim (cases_Bool r.running) [
    | inl runs ↦ (let same = quiet.alone node r there runs in absurd (ne (sym (all node r there).0.me_is ∙ ap (λ (x : ReplicaState). x.me) same)))
    | inr stops ↦ stops
  ]

  follows : (node : ℕ) (r : ReplicaState) → at group node ≡ Some r → (node ≡ quiet.lead.me → ⊥) → IsPlainFollower r
  follows node r there ne = (let rest = (all node r there).1 in record { stopped = stopped node r there ne; backlog = rest.backlog; flights = rest.flights; ready = rest.ready })

  sets_at : (r : ReplicaState) → IsUpToDate quiet.lead r → r.sets ≡ map (frame_at_rest quiet.lead).at (numbers_from (next r) slots_ahead)
  sets_at r u = u.sets_are ∙ (four_are (next quiet.lead) quiet.lead.sets (members quiet.lead) kept.many ∙ ap (λ n. map (frame_at_rest quiet.lead).at (numbers_from n slots_ahead)) (sym u.next_is))

  of_member : (node : ℕ) (r : ReplicaState) → at group node ≡ Some r → IsUpToDate quiet.lead r → IsPlainReplica begun (frame_at_rest quiet.lead) node r
  of_member node r there u =
      let k = (all node r there).0 in
      let rest = (all node r there).1 in
      let low = quiet.below_it node r there in
      let next_is = u.next_is in
      record {
        me_is = k.me_is;
        group = subst (λ (g : Group). IsPlainGroup begun (frame_at_rest quiet.lead) g) (sym u.group_is) noted;
        hint_is = u.hint_is;
        top_low = low.top;
        promised_low = low.promised;
        floor_low = k.floor_low;
        begins = omega (arith, next_is);
        sets_are = sets_at r u;
        acts = rest.acts;
        waits = rest.waits;
      }

  of_voter : (node : ℕ) (r : ReplicaState) → at group node ≡ Some r → (slot : ℕ) → is_member ((frame_at_rest quiet.lead).at slot) node ≡ true → IsPlainVoter (frame_at_rest quiet.lead) node r
  of_voter node r there slot m =
      let k = (all node r there).0 in
      let low = quiet.below_it node r there in
      let v = quiet.voter ((frame_at_rest quiet.lead).at slot) node (set_among slot) m in
      let same : v.0 ≡ r = some_is (sym v.1 ∙ there) in
      record {
        me_is = k.me_is;
        name_is = k.name_is ∙ sym name;
        hint_is = ap (λ (x : ReplicaState). x.hint) (sym same) ∙ v.2.hint_is;
        top_low = low.top;
        promised_low = low.promised;
        floor_low = k.floor_low;
      }

  settled_at : (node : ℕ) (r : ReplicaState) → at group node ≡ Some r → IsSettled begun (frame_at_rest quiet.lead) node r
  settled_at node r there = elim (cases_eq node quiet.lead.me) [
    | inl fact ↦ (let same : quiet.lead ≡ r = some_is (sym here ∙ (ap (at group) (sym fact) ∙ there)) in inl (fact, subst (λ x. IsLeading begun (frame_at_rest quiet.lead) x) same leading))
    | inr ne ↦ inr (ne, follows node r there ne)
  ]

  plain_at : (node : ℕ) (r : ReplicaState) → at group node ≡ Some r → IsPlainAt begun (frame_at_rest quiet.lead) node r
  plain_at node r there = elim (cases_Bool (is_member (members quiet.lead) node)) [
    | inl m ↦ (let u = quiet.member node m in let same : u.0 ≡ r = some_is (sym u.1 ∙ there) in inl (of_member node r there (subst (λ x. IsUpToDate quiet.lead x) same u.2), settled_at node r there))
    | inr left ↦ inr (record {
      left = left;
      follower = follows node r there (λ e. both_ways (is_member (members quiet.lead) node) left (ap (is_member (members quiet.lead)) e ∙ quiet.leads.mine));
      voter = λ slot m. of_voter node r there slot m;
    })
  ]

  -- ---- what stands between them

  no_flight : (slot : ℕ) (voters : List ℕ) → votes_in (at (name_of quiet.lead) quiet.lead.me) slot ≡ Some voters → ⊥
  no_flight slot voters e =
      let there : votes_in (at (name_of quiet.lead) quiet.lead.me) slot ≡ voters_in quiet.lead.leader.flights slot = ap (λ d. votes_in (at d quiet.lead.me) slot) name ∙ ap (λ o. votes_in o slot) here in
      let none : None ≡ Some voters = sym (there ∙ ap (λ (flights : List (Flight Command)). voters_in flights slot) rests.flights) ∙ e in cc

  next_at : (node : ℕ) (r : ReplicaState) → at group node ≡ Some r → next_in (at (name_of quiet.lead) node) ≡ next r
  next_at node r there = ap (λ d. next_in (at d node)) name ∙ ap next_in there

  next_low : (node : ℕ) → next_in (at (name_of quiet.lead) node) ≤ next_in (at (name_of quiet.lead) quiet.lead.me)
  next_low node = by (at group node) refl
    where
      by : (o : Option ReplicaState) → at group node ≡ o → next_in (at (name_of quiet.lead) node) ≤ next_in (at (name_of quiet.lead) quiet.lead.me)
      by None e = (let fact = ap (λ d. next_in (at d node)) name ∙ ap next_in e in omega (arith, fact))
      by (Some r) e = (let fact = next_at node r e in let low = quiet.newest.most node r e in let lead_is = next_at quiet.lead.me quiet.lead here in omega (arith, fact, low, lead_is))

  between : IsBetween (frame_at_rest quiet.lead) (view_at_rest at quiet.lead) (λ node. [])
  between = record {
    learners = λ node m ne. (let u = quiet.member node m in
        let fact = next_at node u.0 u.1 in
        let lead_is = next_at quiet.lead.me quiet.lead here in
        let same = u.2.next_is in
        record { left = 0; reaches = omega (arith, fact, lead_is, same); tells = refl });
    order = λ node. tt;
    below = λ node. tt;
    low = next_low;
    undone = λ slot a. absurd a;
    flying = λ slot voters e. absurd (no_flight slot voters e);
    votes = λ slot voters e. absurd (no_flight slot voters e);
  }

  stands_plain : StandsPlain begun at quiet.lead
  stands_plain = record {
    frame = is_frame;
    replicas = λ node r there. plain_at node r (ap (λ d. at d node) (sym name) ∙ there);
    has = λ slot node m. (let v = quiet.voter ((frame_at_rest quiet.lead).at slot) node (set_among slot) m in (v.0, ap (λ d. at d node) name ∙ v.1));
    slots = none_taken quiet.lead rests;
    between = between;
  }

-- Until the next order each group that stands in a quiet journal is as plain as one from its birth: in the frame that its leader gives, with the open slots' own members, all its replicas are plain, also those of nodes that left, and nothing stands between the leader and its nodes.
pub quiet_stand_plain : QuietGroupsStandPlain
quiet_stand_plain scenario rows at group quiet all noted = stands_plain (IsBegun scenario rows) at group quiet all noted
