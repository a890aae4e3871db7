-- Accept and Learn at the replicas of a plain group.
use Rattle.std.proofs.Common.{◌≡◌, ℕ, ◌+◌, ◌≤◌, ◌&&◌, ◌||◌, not, eqb, true, false, cond, List, [], ◌∷◌, Some, None, refl, sym, ◌∙◌, ap, arith}
use Rattle.std.specs.Prelude.{nat_le, nat_lt}
use Rattle.std.specs.Option.{option_map}
use Rattle.std.proofs.lemmas.Bool.{cond_both, cond-true, cond-false, eq-eqb, lt-leb, le-ltb, and_left, and_from, and_parts}
use Rattle.sc_node_table.specs.Values.{Ballot, Draw, Op, Command, Call, Core, Mail, Accepted, AcceptAnswer, Flight, Report}
use Rattle.sc_base.specs.Definitions.{is_majority, is_member}
use Rattle.sc_words.specs.declared.paxos.answers.AcceptAnswer.TheVariants as Asked
use Rattle.sc_words.specs.paxos.PaxosDefinitions.{accepted as accepted_by, AcceptorState, may_accept, after_accept, below, IsAtLeast, flight_at, without_flight}
use Rattle.sc_words.proofs.PaxosProofs.PaxosLemmas.{at_least_itself}
use Rattle.sc_group_table.specs.machine.MachineDefinitions.{applied}
use Rattle.sc_node_table.specs.NodeDefinitions.{stopped, saw, entered, is_among, executed_one, executed_ready, all_ready, executed, install_to, pumped_from, pumped, ReplicaState, Place, Executed, childless, name_of, next, members, settled, flying, forgotten, last_slot, learn_row, without_slot, hinted, accepted_to, took, accept_row}
use Rattle.sc_law_walks.proofs.WalkLemmas.{cleared, entered_next}
use Rattle.sc_live_plain.specs.PlainDefinitions.{Frame, IsFrame, Requests, IsPlainCall, AreTaken, IsPlainLeader, IsPlainFollower, IsPlainVoter, IsPlainReplica, HasOffered}
use Rattle.sc_live_plain.proofs.LeadersProofs.PlainEntries.{entered_plain, learnt_call}
use Rattle.sc_live_plain.proofs.LeadersProofs.LeadingReplicas.{IsHeld}
use Rattle.sc_live_plain.proofs.PlainRowsProofs.RepeatedMail.{mail_of}
use Rattle.sc_live_plain.proofs.LeadersProofs.ExecutedCalls.{IsServed, call_plain, entered_frame}

-- ---- Accept

-- a replica that accepts: it has seen the ballot, and has promised it
unfoldable pub accepted_state : Frame → ReplicaState → ℕ → Command → ReplicaState
accepted_state frame r slot command = record r {
  hint = Some frame.lead;
  top = cond (below r.top frame.ballot) frame.ballot r.top;
  acceptor = after_accept (record { slot = slot; ballot = frame.ballot; value = command }) r.acceptor;
}

-- the vote that a voter sends
module _ (frame : Frame) (fact : IsFrame frame) (me : ℕ) (r : ReplicaState) (v : IsPlainVoter frame me r) where
  abbrev seen : ReplicaState
  seen = record r { top = cond (below r.top frame.ballot) frame.ballot r.top }

  -- the ballot is seen, and stops no leader
  saw_is : (mails : List Mail) → (r.running && below r.leader.ballot frame.ballot) ≡ false → saw frame.ballot (r, mails) ≡ (seen, mails)
  unfolding saw
  saw_is mails stays =
      let raised : ReplicaState = cond (below r.top frame.ballot) (record r { top = frame.ballot }) r in
      let same : raised ≡ seen =
      cond_both (below r.top frame.ballot) (record r { top = frame.ballot }) r (λ (x : ReplicaState). x ≡ seen)
      (λ t. ap (λ (b : Ballot). record r { top = b }) (sym (cond-true (below r.top frame.ballot) frame.ballot r.top t)))
      (λ f. ap (λ (b : Ballot). record r { top = b }) (sym (cond-false (below r.top frame.ballot) frame.ballot r.top f))) in
      cond-false (r.running && below r.leader.ballot frame.ballot) (stopped (Some frame.ballot.node) (raised, mails)) (raised, mails) stays ∙ ap (λ (x : ReplicaState). (x, mails)) same

  hinted_is : (slot : ℕ) (command : Command) → hinted frame.ballot (record seen { acceptor = after_accept (record { slot = slot; ballot = frame.ballot; value = command }) r.acceptor }) ≡ accepted_state frame r slot command
  unfolding accepted_state
  hinted_is slot command =
      let after : ReplicaState = record seen { acceptor = after_accept (record { slot = slot; ballot = frame.ballot; value = command }) r.acceptor } in
      cond_both r.running after (record after { hint = Some frame.ballot.node }) (λ x. x ≡ record after { hint = Some frame.lead })
      (λ _. ap (λ hint. record after { hint = hint }) v.hint_is) (λ _. ap (λ node. record after { hint = Some node }) fact.own)

  pub accept_is : (from slot : ℕ) (command : Command) → next r ≤ slot → (r.running && below r.leader.ballot frame.ballot) ≡ false
      → accept_row from frame.ballot slot command (r, []) ≡ (accepted_state frame r slot command, mail_of me from (Accepted frame.core.id frame.ballot slot) ∷ [])
  unfolding accept_row took
  accept_is from slot command high stays =
      let report : Report Command = record { slot = slot; ballot = frame.ballot; value = command } in
      let low = v.floor_low in
      let may : may_accept r.acceptor frame.ballot ≡ true = ap not v.promised_low in
      ap (took from report) (saw_is [] stays)
      ∙ cond-false (nat_le slot r.acceptor.floor) (install_to from (seen, [])) (accepted_to from frame.ballot slot (accepted_by report r.acceptor) (seen, [])) (lt-leb slot r.acceptor.floor (omega (arith, low, high)))
      ∙ ap (λ (a : AcceptAnswer × AcceptorState Command). accepted_to from frame.ballot slot a (seen, [])) (cond-true (may_accept r.acceptor frame.ballot) (Asked.Accepted, after_accept report r.acceptor) (Asked.Ignored r.acceptor.promised, r.acceptor) may)
      ∙ ap (λ (x : ReplicaState). (x, mail_of r.me from (Accepted (name_of r) frame.ballot slot) ∷ [])) (hinted_is slot command)
      ∙ ap (λ (name : Draw). (accepted_state frame r slot command, mail_of r.me from (Accepted name frame.ballot slot) ∷ [])) v.name_is
      ∙ ap (λ who. (accepted_state frame r slot command, mail_of who from (Accepted frame.core.id frame.ballot slot) ∷ [])) v.me_is

  pub accepted_voter : (slot : ℕ) (command : Command) → IsPlainVoter frame me (accepted_state frame r slot command)
  unfolding accepted_state
  accepted_voter slot command = record {
    me_is = v.me_is;
    name_is = v.name_is;
    hint_is = refl;
    top_low = cond_both (below r.top frame.ballot) frame.ballot r.top (λ b. IsAtLeast frame.ballot b) (λ _. at_least_itself frame.ballot) (λ _. v.top_low);
    promised_low = at_least_itself frame.ballot;
    floor_low = v.floor_low;
  }

-- what it has to do stays
module _ (frame : Frame) (r : ReplicaState) (slot : ℕ) (command : Command) where
  pub accepted_hint : (accepted_state frame r slot command).hint ≡ Some frame.lead
  unfolding accepted_state
  accepted_hint = refl

  pub accepted_me : (accepted_state frame r slot command).me ≡ r.me
  unfolding accepted_state
  accepted_me = refl

  pub accepted_group : (accepted_state frame r slot command).group ≡ r.group
  unfolding accepted_state
  accepted_group = refl

  pub accepted_next : next (accepted_state frame r slot command) ≡ next r
  unfolding accepted_state
  accepted_next = refl

  pub accepted_flights : (accepted_state frame r slot command).leader.flights ≡ r.leader.flights
  unfolding accepted_state
  accepted_flights = refl

  pub accepted_held : (c n : ℕ) → IsHeld r c n → IsHeld (accepted_state frame r slot command) c n
  unfolding accepted_state
  accepted_held c n h = record { number = h.number; op = h.op; later = h.later; where_ = h.where_ }

  pub accepted_slots : (taken : ℕ) → AreTaken r taken → AreTaken (accepted_state frame r slot command) taken
  unfolding accepted_state
  accepted_slots taken a = record { most = a.most; once = a.once }

  pub accepted_follower : IsPlainFollower r → IsPlainFollower (accepted_state frame r slot command)
  unfolding accepted_state
  accepted_follower f = record { stopped = f.stopped; backlog = f.backlog; flights = f.flights; ready = f.ready }

  pub accepted_leader : (begun : Requests) (taken : ℕ) → IsPlainLeader begun frame taken r → IsPlainLeader begun frame taken (accepted_state frame r slot command)
  unfolding accepted_state
  accepted_leader begun taken l = record {
    running = l.running;
    ballot_is = l.ballot_is;
    may = λ s.
        and_from (not (below r.leader.ballot frame.ballot)) (r.leader.is_first || is_majority (frame.at s) r.leader.promisers)
        (ap (λ (b : Ballot). not (below b frame.ballot)) l.ballot_is ∙ ap not (at_least_itself frame.ballot))
        (and_parts (not (below r.leader.ballot r.acceptor.promised)) (r.leader.is_first || is_majority (frame.at s) r.leader.promisers) (l.may s)).1;
    open_ = l.open_;
    backlog = l.backlog;
    flights = l.flights;
    ready = l.ready;
    slots = record { most = l.slots.most; once = l.slots.once };
  }

  pub accepted_done : (taken : ℕ) → HasOffered taken r → HasOffered taken (accepted_state frame r slot command)
  unfolding accepted_state
  accepted_done taken d = record { executed = d.executed; offered = d.offered }

-- ---- at a member

module _ (begun : Requests) (frame : Frame) (fact : IsFrame frame) (me : ℕ) (r : ReplicaState) (p : IsPlainReplica begun frame me r) where
  -- it may vote
  pub as_voter : IsPlainVoter frame me r
  as_voter = record {
    me_is = p.me_is;
    name_is = ap (λ (core : Core). core.id) p.group.core_is;
    hint_is = p.hint_is;
    top_low = p.top_low;
    promised_low = p.promised_low;
    floor_low = p.floor_low;
  }

  pub accepted_plain : (slot : ℕ) (command : Command) → IsPlainReplica begun frame me (accepted_state frame r slot command)
  unfolding accepted_state
  accepted_plain slot command = (let v = accepted_voter frame fact me r as_voter slot command in record {
    me_is = p.me_is;
    group = p.group;
    hint_is = refl;
    top_low = v.top_low;
    promised_low = v.promised_low;
    floor_low = p.floor_low;
    begins = p.begins;
    sets_are = p.sets_are;
    acts = p.acts;
    waits = p.waits;
  })

  -- ---- Learn

  module _ (f : IsPlainFollower r) (member : is_member frame.core.members frame.lead ≡ true) (client seq : ℕ) (op : Op) (call : IsPlainCall begun frame client seq op) (room : next r ≤ last_slot) where
    serves : IsServed begun frame client seq op (applied r.group (Call client seq op))
    serves = call_plain begun frame fact client seq op r.group call p.group

    unfoldable pub learnt_state : ReplicaState
    learnt_state = (cleared (next r) (entered (Call client seq op) r, [])).0

    stopped_after : (entered (Call client seq op) r).running ≡ false
    unfolding entered forgotten
    stopped_after = f.stopped

    knows_after : is_among (members (entered (Call client seq op) r)) (entered (Call client seq op) r).hint ≡ true
    unfolding entered forgotten
    knows_after = ap (is_among (members (entered (Call client seq op) r))) p.hint_is ∙ ap (λ (core : Core). is_member core.members frame.lead) (entered_frame begun frame client seq op r serves) ∙ member

    flies_none : flying (entered (Call client seq op) r) (next r) ≡ None
    unfolding entered forgotten
    flies_none = ap (λ (fs : List (Flight Command)). option_map (λ (flight : Flight Command). flight.value) (flight_at (next r) fs)) f.flights

    ready_none : learnt_state.ready ≡ []
    unfolding learnt_state entered forgotten
    ready_none = ap (λ (es : List (ℕ × Command)). without_slot es (next r)) f.ready

    settled_not : settled learnt_state ≡ false
    unfolding learnt_state entered forgotten
    settled_not = and_left r.running _ f.stopped

    one_is : executed_one false (Call client seq op) (r, []) ≡ (learnt_state, [])
    unfolding learnt_state
    one_is = learnt_call client seq op r [] (ap (λ (core : Core). core.members) ((entered_frame begun frame client seq op r serves) ∙ sym p.group.core_is)) stopped_after (ap (λ (core : Core). core.gone) (entered_frame begun frame client seq op r serves) ∙ fact.stands) knows_after flies_none

    rest_is : pumped (all_ready (learnt_state, [])).0 ≡ (learnt_state, [])
    unfolding executed_ready pumped
    rest_is =
        ap (λ (es : List (ℕ × Command)). pumped (executed_ready es (learnt_state, [])).0) ready_none
        ∙ cond-false (settled learnt_state && nat_le (next learnt_state) last_slot) (pumped_from (next learnt_state) learnt_state.sets (learnt_state, [])) (learnt_state, []) (and_left (settled learnt_state) _ settled_not)

    execution : (from slot : ℕ) → slot ≡ next r → learn_row from slot (Call client seq op) (r, []) ≡ executed false (Call client seq op) (r, [])
    unfolding learn_row
    execution from slot e =
        cond-false (nat_lt last_slot slot) (childless (r, [])) _ (le-ltb last_slot slot (omega (arith, e, room)))
        ∙ cond-true (eqb slot (next r)) (executed false (Call client seq op) (r, [])) _ (eq-eqb slot (next r) e)

    pub learn_is : (from slot : ℕ) → slot ≡ next r → (learn_row from slot (Call client seq op) (r, [])).0 ≡ (learnt_state, [])
    unfolding executed
    learn_is from slot e =
        ap (λ (step : Executed). step.0) (execution from slot e)
        ∙ ap (λ (q : Place). pumped (all_ready q).0) one_is
        ∙ rest_is

    -- it makes no child
    pub learnt_none : (from slot : ℕ) → slot ≡ next r → (learn_row from slot (Call client seq op) (r, [])).1 ≡ []
    unfolding executed executed_ready
    learnt_none from slot e =
        ap (λ (step : Executed). step.1) (execution from slot e)
        ∙ ap (λ (q : Place). (all_ready q).1) one_is
        ∙ ap (λ (es : List (ℕ × Command)). (executed_ready es (learnt_state, [])).1) ready_none

    pub learnt_plain : IsPlainReplica begun frame me learnt_state
    unfolding learnt_state entered forgotten
    learnt_plain = (let q = entered_plain begun frame fact me (Call client seq op) r serves.group p in record {
      me_is = q.me_is;
      group = q.group;
      hint_is = q.hint_is;
      top_low = q.top_low;
      promised_low = q.promised_low;
      floor_low = q.floor_low;
      begins = q.begins;
      sets_are = q.sets_are;
      acts = q.acts;
      waits = q.waits;
    })

    pub learnt_follower : IsPlainFollower learnt_state
    unfolding learnt_state entered forgotten
    learnt_follower = record { stopped = f.stopped; backlog = f.backlog; flights = ap (without_flight (next r)) f.flights; ready = ap (λ (es : List (ℕ × Command)). without_slot es (next r)) f.ready }

    pub learnt_next : next learnt_state ≡ next r + 1
    unfolding learnt_state
    learnt_next = entered_next (Call client seq op) r
