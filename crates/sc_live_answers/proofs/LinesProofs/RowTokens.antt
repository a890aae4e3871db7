-- No row of a replica raises tokens while clients ask.
use Rattle.sc_live_steps.proofs.CalmStepsProofs.PumpInvariants.{pump_kept}
use Rattle.std.proofs.Common.{◌≡◌, ℕ, ◌+◌, ◌≤◌, eqb, true, List, [], ◌∷◌, ◌++◌, sum_by, Option, Some, None, refl, sym, ◌∙◌, ap, subst, arith}
use Rattle.sc_base.specs.Definitions.{Each, client_actor, is_member}
use Rattle.sc_node_table.specs.Values.{Ballot, Draw, Op, Command, Call, Core, AnswerBody, Mail, MailBody, Request, Answer, Accept, Accepted, Learn, Flight}
use Rattle.sc_words.specs.paxos.PaxosDefinitions.{must, flight_at, with_voters}
use Rattle.sc_words.proofs.PaxosProofs.PaxosLemmas.{Each-among, find_found}
use Rattle.sc_node_table.specs.NodeDefinitions.{entered, executed_one, next_child, next_ready, ending, executed_ready, executed, pumped, ReplicaState, Place, Executed, childless, name_of, next, members, last_slot, forgotten, mailed, at_slot, with_slot, slots_ahead, accepted_row}
use Rattle.sc_law_walks.proofs.WalkLemmas.{entered_next, cleared}
use Rattle.sc_live_plain.specs.PlainDefinitions.{Frame, IsFrame, Requests, IsPlainCommand, IsPlainCall, IsPlainBody, IsPlainFlight, IsPlainReplica, IsPlainFollower, IsPlainLeader, IsPlainAt, IsDue}
use Rattle.sc_live_plain.proofs.PlainLemmas.{learn_is, learnt_plain, learnt_follower, at_found, with_at, with_each, recorded_after, counted_call, call_is, leading_at, following_at, none_stops, call_plain, entered_frame}
use Rattle.sc_live_answers.specs.AnswerDefinitions.{command_token, body_token, flight_tokens, ready_tokens, replica_tokens, place_tokens}
use Rattle.sc_live_answers.proofs.LinesProofs.CallEffects.{with_chosen, vote_row, Goes, pumps, entry_goes, leaves_itself}
use Rattle.sc_live_plain.proofs.PlainLemmas.{accept_is}
use Rattle.sc_live_plain.proofs.PlainRowsProofs.PlainAcceptAndLearnRows.{accepted_state}
use Rattle.sc_live_answers.proofs.LinesProofs.PumpTokens.{IsFree, sent_token, others_token, answer_token, without_flight_tokens, taken_flight_tokens, with_voters_tokens, taken_slot_tokens, with_slot_tokens, pump_tokens, request_tokens}
use Rattle.sc_live_answers.proofs.RequestsProofs.RequestRowEffects.{voter_at}
use Rattle.sc_live_steps.proofs.FollowingProofs.FollowingLemmas.{ready_of}

module _ (c : ℕ) (begun : Requests) (frame : Frame) (fact : IsFrame frame) (first : ReplicaState) (free : IsFree first) (bound : ℕ) where
  -- ---- entries of a leader

  -- it goes on, with at most this number of tokens
  record Holds (place : Place) : Type 0 where
    goes : Goes begun frame fact first place.0
    low : next first ≤ next place.0
    most : place_tokens c place ≤ bound

  free_at : (place : Place) → Holds place → IsFree place.0
  free_at place h slot le = (let low = h.low in ap (must slot) h.goes.leaves.leader ∙ free slot (omega (arith, low, le)))

  pumps_on : (place : Place) → Holds place → Holds (pumped place)
  pumps_on place h =
      let le = pump_tokens c place (free_at place h) in
      let same : next (pumped place).0 ≡ next place.0 = ap next (pump_kept place) in
      let low = h.low in
      let most = h.most in
      record { goes = pumps begun frame fact first place h.goes; low = omega (arith, low, same); most = omega (arith, le, most) }

  -- an entry is answered
  entry_tokens : (r : ReplicaState) (mails : List Mail) (client seq : ℕ) (op : Op) (answer : AnswerBody) → at_slot r.ready (next r) ≡ Some (Call client seq op)
      → place_tokens c (cleared (next r) (entered (Call client seq op) r, recorded_after r (entered (Call client seq op) r) client seq op answer mails)) ≤ place_tokens c (r, mails)
  unfolding entered forgotten
  entry_tokens r mails client seq op answer at =
      let e : ReplicaState = entered (Call client seq op) r in
      let reported = others_token c e.me (Learn (name_of e) (next r) (Call client seq op)) (λ to. refl) (members r) (sent_mails e client seq answer mails) in
      let one = sent_token c e.me (client_actor client) (Answer (name_of e) seq answer) mails in
      let same = answer_token c client (name_of e) seq answer in
      let flights = without_flight_tokens c (next r) r.leader.flights in
      let ready = taken_slot_tokens c (next r) r.ready (Call client seq op) at in
      omega (arith, reported, one, same, flights, ready)
    where
      sent_mails : ReplicaState → ℕ → ℕ → AnswerBody → List Mail → List Mail
      sent_mails e client seq answer mails = mails ++ record { from = e.me; to = client_actor client; body = Answer (name_of e) seq answer } ∷ []

  one_call : (r : ReplicaState) (mails : List Mail) (client seq : ℕ) (op : Op) → IsPlainCall begun frame client seq op → at_slot r.ready (next r) ≡ Some (Call client seq op) → Holds (r, mails) → Holds (executed_one true (Call client seq op) (r, mails))
  unfolding entered forgotten
  one_call r mails client seq op call at h =
      let g = h.goes in
      let serves = call_plain begun frame fact client seq op r.group call g.group in
      let core = entered_frame begun frame client seq op r serves in
      let e : ReplicaState = entered (Call client seq op) r in
      let is_ = counted_call client seq op serves.answer r mails serves.answer_is (ap (λ (x : Core). x.members) (core ∙ sym g.group.core_is)) g.running (ap (λ (x : Core). x.gone) core ∙ fact.stands)
      (ap (λ (x : Core). is_member x.members r.me) core ∙ ap (is_member frame.core.members) g.me_is ∙ fact.leads) in
      let tokens = entry_tokens r mails client seq op serves.answer at in
      let up = entered_next (Call client seq op) r in
      let low = h.low in
      let most = h.most in
      let next_is : next (executed_one true (Call client seq op) (r, mails)).0 ≡ next (entered (Call client seq op) r) = ap (λ (p : Place). next p.0) is_ in
      let same = ap (place_tokens c) is_ in
      record { goes = entry_goes begun frame fact first r mails client seq op call g; low = omega (arith, low, up, next_is); most = omega (arith, tokens, same, most) }

  one_on : (command : Command) (place : Place) → IsPlainCommand begun frame command → at_slot place.0.ready (next place.0) ≡ Some command → Holds place → Holds (executed_one true command place)
  one_on command (r, mails) plain at h =
      let k = call_is begun frame fact 0 0 [] (λ x y. ⊥) command plain in
      subst (λ (x : Command). Holds (executed_one true x (r, mails))) (sym k.3) (one_call r mails k.0 k.1 k.2 (subst (IsPlainCommand begun frame) k.3 plain) (at ∙ ap Some k.3) h)

  plain_at : (place : Place) (command : Command) → Holds place → at_slot place.0.ready (next place.0) ≡ Some command → IsPlainCommand begun frame command
  plain_at place command h at = Each-among (λ (entry : ℕ × Command). IsPlainCommand begun frame entry.1) place.0.ready (next place.0, command) h.goes.ready (at_found place.0.ready (next place.0) command at).1

  abbrev HoldsAfter : Executed → Type 0
  HoldsAfter step = Holds step.0

  ready_on : (es : List (ℕ × Command)) (place : Place) → Holds place → Holds (executed_ready es place).0
  unfolding executed_ready
  ready_on [] place h = h
  ready_on (e ∷ es) place h = by (next_ready place.0) refl (λ p q. ready_on es p q)
    where
      by : (o : Option Command) → next_ready place.0 ≡ o → ((p : Place) → Holds p → Holds (executed_ready es p).0)
          → HoldsAfter (elim o [ None ↦ childless place | Some command ↦ ending (next_child command place.0) (executed_ready es (executed_one true command place)) ])
      by None is_ more = h
      by (Some command) is_ more =
          let at = ready_of command place.0 is_ in
          pumps_on (executed_ready es (executed_one true command place)).0 (more (executed_one true command place) (one_on command place (plain_at place command h at) at h))

  executes_on : (command : Command) (place : Place) → at_slot place.0.ready (next place.0) ≡ Some command → Holds place → Holds (executed true command place).0
  unfolding executed
  executes_on command place at h =
      let after : Place = executed_one true command place in
      pumps_on (executed_ready after.0.ready after).0 (ready_on after.0.ready after (one_on command place (plain_at place command h at) at h))

  -- ---- a vote

  module _ (r : ReplicaState) (h : Holds (r, [])) (flights : Each (IsPlainFlight begun frame) r.leader.flights) (from : ℕ) (ballot : Ballot) (slot : ℕ) where
    chosen : (flight : Flight Command) → flight_at slot r.leader.flights ≡ Some flight → Holds (with_chosen slot flight r, [])
    chosen flight e =
        let g = h.goes in
        let flies = Each-among (IsPlainFlight begun frame) r.leader.flights flight flights (find_found (λ (f : Flight Command). eqb f.slot slot) r.leader.flights flight e).0 in
        let out = taken_flight_tokens c slot r.leader.flights flight e in
        let in_ = with_slot_tokens c slot flight.value r.ready in
        let most = h.most in
        record {
          goes = record {
            group = g.group;
            me_is = g.me_is;
            running = g.running;
            ready = with_each slot flight.value (λ (x : ℕ × Command). IsPlainCommand begun frame x.1) r.ready flies.is_call g.ready;
            leaves = record { top = g.leaves.top; promised = g.leaves.promised; leader = g.leaves.leader; accepted = g.leaves.accepted };
          };
          low = h.low;
          most = omega (arith, out, in_, most);
        }

    noted : (voters : Option (List ℕ)) → Holds (record r { leader = record r.leader { flights = with_voters slot voters r.leader.flights } }, [])
    noted voters =
        let g = h.goes in
        let same = with_voters_tokens c slot voters r.leader.flights in
        let most = h.most in
        record {
          goes = record { group = g.group; me_is = g.me_is; running = g.running; ready = g.ready; leaves = record { top = g.leaves.top; promised = g.leaves.promised; leader = g.leaves.leader; accepted = g.leaves.accepted } };
          low = h.low;
          most = omega (arith, same, most);
        }

    vote_holds : Holds (accepted_row from ballot slot (r, [])).0
    vote_holds =
        vote_row Holds r from ballot slot h noted chosen
        (λ flight e here. executes_on flight.value (with_chosen slot flight r, []) (subst (λ n. at_slot (with_slot r.ready slot flight.value) n ≡ Some flight.value) here (with_at slot flight.value r.ready)) (chosen flight e))

-- ---- each mail

module _ (c : ℕ) (begun : Requests) (frame : Frame) (fact : IsFrame frame) (me from : ℕ) (r : ReplicaState) (room : next r + slots_ahead ≤ last_slot) where
  abbrev Stay : MailBody → Type 0
  Stay body = place_tokens c (mailed from body (r, [])).0 ≤ replica_tokens c r + body_token c me body

  by_request : (group : Draw) (client seq : ℕ) (op : Op) (taken : ℕ) → IsPlainLeader begun frame taken r → Stay (Request group client seq op)
  unfolding mailed
  by_request group client seq op taken l = (let le = request_tokens c client seq op r [] l.open_ in omega (arith, le))

  by_vote : (group : Draw) (ballot : Ballot) (slot taken : ℕ) → IsPlainReplica begun frame frame.lead r → IsPlainLeader begun frame taken r → Stay (Accepted group ballot slot)
  unfolding mailed
  by_vote group ballot slot taken p l =
      let held = vote_holds c begun frame fact r l.open_ (replica_tokens c r) r (record { goes = record { group = p.group; me_is = p.me_is; running = l.running; ready = l.ready; leaves = leaves_itself r }; low = omega arith; most = omega arith }) l.flights from ballot slot in
      let most = held.most in
      omega (arith, most)

  by_accept : (group : Draw) (slot : ℕ) (command : Command) → IsPlainAt begun frame me r → is_member (frame.at slot) me ≡ true → next r ≤ slot → Stay (Accept group frame.ballot slot command)
  unfolding mailed accepted_state
  by_accept group slot command k m low =
      let same = ap (place_tokens c) (accept_is frame fact me r (voter_at begun frame fact me r slot m k) from slot command low (none_stops begun frame fact me r k)) in
      omega (arith, same)

  by_learn : (group : Draw) (slot client seq : ℕ) (op : Op) → IsPlainReplica begun frame me r → IsPlainFollower r → IsPlainCall begun frame client seq op → slot ≡ next r → Stay (Learn group slot (Call client seq op))
  unfolding mailed
  by_learn group slot client seq op p f call at =
      let low : next r ≤ last_slot = omega (arith, room) in
      let after = learnt_plain begun frame fact me r p f fact.leads client seq op call low in
      let stopped = learnt_follower begun frame fact me r p f fact.leads client seq op call low in
      let same = ap (place_tokens c) (learn_is begun frame fact me r p f fact.leads client seq op call low from slot at) in
      let acts = ap (sum_by (command_token c)) after.acts in
      let backlog = ap (sum_by (command_token c)) stopped.backlog in
      let flights = ap (flight_tokens c) stopped.flights in
      let ready = ap (ready_tokens c) stopped.ready in
      omega (arith, same, acts, backlog, flights, ready)

  pub stay_row : (body : MailBody) → IsPlainAt begun frame me r → IsPlainBody begun frame from me body → IsDue r body → ((client seq : ℕ) (op : Op) → begun client seq op → me ≡ client_actor client → ⊥) → place_tokens c (mailed from body (r, [])).0 ≤ replica_tokens c r + body_token c me body
  stay_row (Request group client seq op) k b due n = (let leads_ = leading_at begun frame fact me r b.1.to_is k in by_request group client seq op leads_.1.taken leads_.1.leader)
  stay_row (Accepted group ballot slot) k b due n = (let leads_ = leading_at begun frame fact me r b.2 k in by_vote group ballot slot leads_.1.taken leads_.0 leads_.1.leader)
  stay_row (Accept group ballot slot command) k b due n = subst (λ (x : Ballot). Stay (Accept group x slot command)) (sym b.1) (by_accept group slot command k b.2.to_in due)
  stay_row (Learn group slot command) k b due n =
      let x = call_is begun frame fact 0 0 [] (λ x y. ⊥) command b.1.is_call in
      let plain : IsPlainCall begun frame x.0 x.1 x.2 = subst (IsPlainCommand begun frame) x.3 b.1.is_call in
      let follows = following_at begun frame fact me r b.1.to_in b.1.other k in
      subst (λ (y : Command). Stay (Learn group slot y)) (sym x.3) (by_learn group slot x.0 x.1 x.2 follows.0 follows.1 plain due)
  stay_row (Answer group seq answer) k b due n = absurd (n b.1.client seq b.1.op b.1.is_begun b.1.to_is)
  stay_row _ k b due n = absurd b
