-- At the end of a line of requests each group that stood is quiet again.
use Rattle.std.proofs.Common.{◌≡◌, ℕ, zero, suc, ◌+◌, ◌<◌, ◌≤◌, eqb, true, List, [], ◌∷◌, map, count_by, Some, inl, inr, refl, sym, ◌∙◌, ap, subst, arith}
use Rattle.std.proofs.lemmas.Bool.{cases_eq, both_ways}
use Rattle.sc_base.specs.Definitions.{Among, Each, is_member}
use Rattle.sc_node_table.specs.Values.{Command, Call, Core, Node, Flight}
use Rattle.sc_node_table.specs.NodeDefinitions.{replica_of, ReplicaState, next}
use Rattle.sc_scenario.specs.declared.scenario.scenarios.Scenario.{Scenario}
use Rattle.sc_meaning.specs.sound.SoundDefinitions.{node_seat, births, system_of, as_nodes}
use Rattle.sc_live_orderly.specs.OrderlyDefinitions.{rest, is_born}
use Rattle.sc_live_orderly.proofs.OrderlyLemmas.{is_born-from, seat_found}
use Rattle.sc_live_steps.specs.calm.CalmDefinitions.{IsAtRest}
use Rattle.sc_live_plain.specs.PlainDefinitions.{IsAsking, AreSeated, Asks as AsksFor, Votes, mark, IsVoting, replica_at, votes_in, marks_at, IsGroupAt, Setting, IsSetting, Frame, IsFrame, IsBegun, IsPlainCommand, takers, IsPlainFlight, IsPlainReplica, IsLeading, IsPlainAt}
use Rattle.sc_live_plain.proofs.PlainLemmas.{one_if, one_yes, in_range, range_yes, IsStage, node_born, node_number, Journal, replica_is, IsHeld, some_is, call_is, leader_idle, leading_at}
use Rattle.sc_live_answers.proofs.RequestsProofs.RequestLineReplicas.{HasServed, HaveServed}

module _ (words : ℕ → ℕ → ℕ × ℕ) (scenario : Scenario) (begins : IsStage scenario) (set : Setting) (fact : IsSetting set) (seated : AreSeated scenario set) (rows : Journal) (j : IsAsking words scenario set begins.first rows) (served : HaveServed scenario set rows)
    (none : (who : ℕ) → is_born (system_of as_nodes words scenario) who ≡ true → rest (system_of as_nodes words scenario) rows who ≡ []) where
  -- ---- each replica of a group that stands

  module _ (frame : Frame) (a : Among frame set.frames) where
    frame_is : IsFrame frame
    frame_is = fact.are frame a

    seat_of : (node : ℕ) (r : ReplicaState) → replica_at scenario rows frame.core.id node ≡ Some r → (1 ≤ node) × (node ≤ scenario.nodes)
    seat_of node r e = seated.homes frame.core.id node (served.homes frame.core.id node r e)

    pub found : (node : ℕ) (at : (1 ≤ node) × (node ≤ scenario.nodes)) → replica_at scenario rows frame.core.id node ≡ replica_of frame.core.id (j.nodes node at.0 at.1).node.replicas
    found node at = (let n = j.nodes node at.0 at.1 in replica_is words scenario rows frame.core.id node (Node n.node) (node_number words scenario begins node at.0 at.1) n.fact)

    pub plain_at : (node : ℕ) (r : ReplicaState) → replica_at scenario rows frame.core.id node ≡ Some r → IsPlainAt (IsBegun scenario rows) frame node r
    plain_at node r e = (let at = seat_of node r e in
        let n = j.nodes node at.0 at.1 in
        subst (λ me. IsPlainAt (IsBegun scenario rows) frame me r) n.me_is (n.calm.plain.replicas frame r a (sym (found node at) ∙ e)))

    pub me_at : (node : ℕ) (r : ReplicaState) → replica_at scenario rows frame.core.id node ≡ Some r → r.me ≡ node
    me_at node r e = (let at = seat_of node r e in let n = j.nodes node at.0 at.1 in n.calm.own frame.core.id r (sym (found node at) ∙ e) ∙ n.me_is)

    -- what a replica was before
    pub record WasAt (node : ℕ) (r : ReplicaState) : Type 0 where
      pub first : ReplicaState
      pub there : set.at frame.core.id node ≡ Some first
      pub served_is : HasServed scenario rows frame node first r

    pub was_at : (node : ℕ) (r : ReplicaState) → replica_at scenario rows frame.core.id node ≡ Some r → WasAt node r
    was_at node r e =
        let h = served.homes frame.core.id node r e in
        let s = served.standing frame node h.r a h.is_there in
        record { first = h.r; there = h.is_there; served_is = subst (λ (x : ReplicaState). HasServed scenario rows frame node h.r x) (some_is (sym s.1 ∙ e)) s.2 }

    -- ---- the one that leads

    abbrev pub g : IsGroupAt words scenario rows frame
    g = j.groups frame a

    pub leads : IsPlainReplica (IsBegun scenario rows) frame frame.lead g.r × IsLeading (IsBegun scenario rows) frame g.r
    leads = leading_at (IsBegun scenario rows) frame frame_is frame.lead g.r refl (plain_at frame.lead g.r g.there)

    pub none_at : (node : ℕ) → (1 ≤ node) × (node ≤ scenario.nodes) → marks_at words scenario rows frame.core.id node ≡ []
    none_at node at =
        let seat = node_seat as_nodes scenario.groups scenario.policy node in
        ap (map (mark frame.core.id)) (none node (is_born-from (system_of as_nodes words scenario) node seat (seat_found (births as_nodes scenario) seat begins.seats_apart (node_born words scenario begins node at.0 at.1))))

    lead_seat : (1 ≤ frame.lead) × (frame.lead ≤ scenario.nodes)
    lead_seat = seat_of frame.lead g.r g.there

    counted : (slot : ℕ) (voters : List ℕ) (node : ℕ) → is_member (frame.at slot) node ≡ true → IsVoting node slot voters (marks_at words scenario rows frame.core.id node) (marks_at words scenario rows frame.core.id frame.lead) → is_member voters node ≡ true
    counted slot voters node m (inl v) = v
    counted slot voters node m (inr (inl asked)) = absurd (subst (Among (AsksFor slot)) (none_at node (seated.voters frame slot node a m)) asked)
    counted slot voters node m (inr (inr vote)) = absurd (subst (Among (Votes node slot)) (none_at frame.lead lead_seat) vote)

    idle : (client seq : ℕ) → IsHeld g.r client seq → ⊥
    idle client seq held =
        leader_idle (IsBegun scenario rows) frame frame_is g.r leads.1 (λ slot voters e node m. counted slot voters node m (g.between.votes slot voters (ap (λ o. votes_in o slot) g.there ∙ e) node m)) client seq held

    queued_number : (command : Command) → IsPlainCommand (IsBegun scenario rows) frame command → (client : ℕ) × (seq : ℕ) × (op : _) × (command ≡ Call client seq op)
    queued_number command p = call_is (IsBegun scenario rows) frame frame_is 0 0 [] (λ x y. ⊥) command p

    no_calls : (backlog : List Command) → g.r.backlog ≡ backlog → backlog ≡ []
    no_calls [] e = refl
    no_calls (command ∷ backlog) e = (let c = queued_number command (subst (Each (IsPlainCommand (IsBegun scenario rows) frame)) e leads.1.leader.backlog).0 in
        absurd (idle c.0 c.1 (record { number = c.1; op = c.2; later = omega arith; where_ = inl (subst (Among (Call c.0 c.1 c.2)) (sym e) (inl c.3)) })))

    no_flights : (flights : List (Flight Command)) → g.r.leader.flights ≡ flights → flights ≡ []
    no_flights [] e = refl
    no_flights (flight ∷ flights) e = (let c = queued_number flight.value (subst (Each (IsPlainFlight (IsBegun scenario rows) frame)) e leads.1.leader.flights).0.is_call in
        absurd (idle c.0 c.1 (record { number = c.1; op = c.2; later = omega arith; where_ = inr (inl (flight, subst (Among flight) (sym e) (inl refl), c.3)) })))

    no_ready : (ready : List (ℕ × Command)) → g.r.ready ≡ ready → ready ≡ []
    no_ready [] e = refl
    no_ready (entry ∷ ready) e = (let c = queued_number entry.1 (subst (Each (λ (x : ℕ × Command). IsPlainCommand (IsBegun scenario rows) frame x.1)) e leads.1.leader.ready).0 in
        absurd (idle c.0 c.1 (record { number = c.1; op = c.2; later = omega arith; where_ = inr (inr (entry.0, subst (Among (entry.0, Call c.0 c.1 c.2)) (sym e) (inl (ap (λ (x : Command). (entry.0, x)) c.3)))) })))

    pub calls_none : g.r.backlog ≡ []
    calls_none = no_calls g.r.backlog refl

    pub flights_none : g.r.leader.flights ≡ []
    flights_none = no_flights g.r.leader.flights refl

    pub ready_none : g.r.ready ≡ []
    ready_none = no_ready g.r.ready refl

    not_none : (n taken : ℕ) → (taken ≡ 0 → ⊥) → n < n + taken
    not_none n zero ne = absurd (ne refl)
    not_none n (suc taken) ne = omega arith

    -- so no slot is taken
    pub taken_none : g.taken ≡ 0
    taken_none = elim (cases_eq g.taken 0) [
      | inl e ↦ e
      | inr some ↦ absurd (taken_some (next g.r) g.taken (g.slots.once (next g.r)) (λ e. some e))
    ]
      where
        taken_some : (n taken : ℕ) → takers g.r n ≡ one_if (in_range n taken n) → (taken ≡ 0 → ⊥) → ⊥
        taken_some n taken once ne =
            let yes = one_yes (in_range n taken n) (range_yes n taken n (omega arith) (not_none n taken ne)) in
            let flights = ap (λ (fs : List (Flight Command)). count_by (λ (flight : Flight Command). eqb flight.slot n) fs) flights_none in
            let ready = ap (λ (es : List (ℕ × Command)). count_by (λ (entry : ℕ × Command). eqb entry.0 n) es) ready_none in
            omega (arith, once, yes, flights, ready)

    -- ---- at rest

    pub rests_at : (node : ℕ) (r : ReplicaState) → replica_at scenario rows frame.core.id node ≡ Some r → (first : ReplicaState) → IsAtRest first → HasServed scenario rows frame node first r → IsPlainAt (IsBegun scenario rows) frame node r → IsAtRest r
    rests_at node r e first rest h (inl (p, inl l)) =
        let same : g.r ≡ r = some_is (sym g.there ∙ (ap (replica_at scenario rows frame.core.id) (sym l.0) ∙ e)) in
        record {
          free = ap (λ (c : Core). c.lock) h.core_is ∙ rest.free;
          acts = p.acts;
          backlog = ap (λ (x : ReplicaState). x.backlog) (sym same) ∙ calls_none;
          waits = p.waits;
          flights = ap (λ (x : ReplicaState). x.leader.flights) (sym same) ∙ flights_none;
          ready = ap (λ (x : ReplicaState). x.ready) (sym same) ∙ ready_none;
        }
    rests_at node r e first rest h (inl (p, inr f)) =
        record { free = ap (λ (c : Core). c.lock) h.core_is ∙ rest.free; acts = p.acts; backlog = f.1.backlog; waits = p.waits; flights = f.1.flights; ready = f.1.ready }
    rests_at node r e first rest h (inr left) = elim (h.rest) [
      | inr member ↦ absurd (both_ways (is_member frame.core.members node) left.left member)
      | inl s ↦ record { free = ap (λ (c : Core). c.lock) h.core_is ∙ rest.free; acts = s.acts_are ∙ rest.acts; backlog = left.follower.backlog; waits = s.waits_are ∙ rest.waits; flights = left.follower.flights; ready = left.follower.ready }
    ]
