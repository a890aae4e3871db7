-- After each row of a replica's table no act waits where nothing is in flight: the row ends with the pump, or leaves what the replica leads with and what waits, or nothing waits.
use Rattle.std.proofs.Common.{◌≡◌, ℕ, ◌≤◌, ◌&&◌, ◌||◌, not, nat_le, nat_lt, eqb, refl, Bool, true, false, true≢false, cond, List, [], ◌∷◌, length, Option, Some, None, sym, ◌∙◌, ap, subst}
use Rattle.std.proofs.lemmas.Bool.{and_parts, and_from}
use Rattle.sc_base.specs.Definitions.{Drawer, is_majority, is_member, same_ballot}
use Rattle.sc_node_table.specs.Values.{Ballot, Draw, Command, Base, OrderLine, AnswerBody, Mail, MailBody, Prepare, Promise, Accept, Accepted, Nack, Learn, Ask, Install, Counted, Chosen, NotYet, Flight, Report}
use Rattle.sc_words.specs.declared.paxos.answers.AcceptAnswer.TheVariants as Asked
use Rattle.sc_words.specs.declared.paxos.answers.PrepareAnswer.TheVariants as Prepared
use Rattle.sc_words.specs.paxos.PaxosDefinitions.{accepted as accepted_by, AcceptorState, may_promise, after_promise, after_accept, reports_from, below, IsAtLeast, LeaderState, flight_at, promise_counted, without_flight_at, prepared, counted, kept_voters, voters_after, with_voters, vote_at}
use Rattle.sc_words.proofs.PaxosProofs.PaxosLemmas.{at_least_from_below, at_least_trans}
use Rattle.sc_node_table.specs.NodeDefinitions.{elected, ended, stopped, saw, all_ready, executed, executed_one, has_room, looked, install_to, named, jumped, sent, ordered_row, pumped, ReplicaState, Place, Executed, childless, first_set, forgotten, installed_replica, last_slot, may_offer, members, name_of, next, set_at, settled, learn_row, ask_row, looked_up, took_over, install_row, made_by, mailed, with_slot, hinted, promise_to, prepare_row, accepted_to, took, accept_row, leads, promise_row, readied, vote_tallied, voted, accepted_row, nack_row}
use Rattle.sc_law_walks.proofs.WalkLemmas.{promised_place, asked_place, either_way, Talk, grows}
use Rattle.sc_live_steps.specs.pump.Waiting.{HasNoneWaiting, PumpsLeaveNone}
use Rattle.sc_live_steps.proofs.CalmStepsProofs.PumpInvariants.{pump_kept}
use Rattle.sc_live_steps.proofs.ExecutionParts.{looking_kept}
use Rattle.sc_live_journals.proofs.RowsProofs.StillReplicas as beside

-- ---- what leaves a replica so

-- one that does not run may not offer
pub off_none : (r : ReplicaState) → r.running ≡ false → HasNoneWaiting r
off_none r off s n f e = absurd (true≢false (sym (and_parts r.running (may_offer r (first_set r.sets)) s).0 ∙ off))

pub idle_none : (r : ReplicaState) → r.acts ≡ [] → HasNoneWaiting r
idle_none r none s n f e = none

-- one that promises no less is settled only where it was
settled_lower : (r : ReplicaState) (acceptor : AcceptorState Command) → IsAtLeast acceptor.promised r.acceptor.promised → settled (record r { acceptor = acceptor }) ≡ true → settled r ≡ true
settled_lower r acceptor least s =
    let counts : Bool = r.leader.is_first || is_majority (first_set r.sets) r.leader.promisers in
    let on = and_parts r.running (not (below r.leader.ballot acceptor.promised) && counts) s in
    let parts = and_parts (not (below r.leader.ballot acceptor.promised)) counts on.1 in
    let low : IsAtLeast r.leader.ballot r.acceptor.promised = at_least_trans r.leader.ballot acceptor.promised r.acceptor.promised (lower (below r.leader.ballot acceptor.promised) parts.0) least in
    and_from r.running (may_offer r (first_set r.sets)) on.0 (and_from (not (below r.leader.ballot r.acceptor.promised)) counts (ap not low) parts.1)
  where
    lower : (b : Bool) → not b ≡ true → b ≡ false
    lower true e = sym e
    lower false e = refl

accepting_none : (r : ReplicaState) (acceptor : AcceptorState Command) → IsAtLeast acceptor.promised r.acceptor.promised → HasNoneWaiting r → HasNoneWaiting (record r { acceptor = acceptor })
accepting_none r acceptor least k s n f e = k (settled_lower r acceptor least s) n f e

hinted_none : (ballot : Ballot) (r : ReplicaState) → HasNoneWaiting r → HasNoneWaiting (hinted ballot r)
hinted_none ballot r k = either_way HasNoneWaiting r.running r (record r { hint = Some ballot.node }) k k

-- a value at a slot is there
slot_some : (es : List (ℕ × Command)) (slot : ℕ) (command : Command) → with_slot es slot command ≡ [] → ⊥
slot_some [] slot command e = cc
slot_some (x ∷ es) slot command e = by (eqb x.0 slot) (nat_lt slot x.0) e
  where
    by : (b c : Bool) → cond b ((slot, command) ∷ es) (cond c ((slot, command) ∷ x ∷ es) (x ∷ with_slot es slot command)) ≡ [] → ⊥
    by true c q = cc
    by false true q = cc
    by false false q = cc

-- votes are kept where something is in flight
voters_some : (slot : ℕ) (voters : Option (List ℕ)) (flights : List (Flight Command)) → with_voters slot voters flights ≡ [] → flights ≡ []
voters_some slot voters [] e = refl
voters_some slot voters (flight ∷ flights) e = by (eqb flight.slot slot) e
  where
    by : (b : Bool) → cond b (record flight { voters = voters } ∷ flights) (flight ∷ with_voters slot voters flights) ≡ [] → flight ∷ flights ≡ []
    by true q = cc
    by false q = cc

module _ (pump_law : PumpsLeaveNone) where
  -- no act waits
  abbrev NoneAt : Place → Type 0
  NoneAt place = HasNoneWaiting place.0

  -- no act waits where some slot is open
  abbrev Ends : Place → Type 0
  Ends place = 1 ≤ length place.0.sets → HasNoneWaiting place.0

  abbrev EndsAfter : Executed → Type 0
  EndsAfter step = Ends step.0

  pumped_ends : (place : Place) → Ends (pumped place)
  pumped_ends place some = pump_law place (subst (λ (sets : List (List ℕ)). 1 ≤ length sets) (ap (λ (r : ReplicaState). r.sets) (pump_kept place)) some)

  executed_ends : (counted : Bool) (command : Command) (place : Place) → EndsAfter (executed counted command place)
  unfolding executed
  executed_ends counted command place = pumped_ends (all_ready (executed_one counted command place)).0

  -- ---- mail that neither asks an acceptor nor teaches a replica, and orders

  pumps_end : (r : ReplicaState) (mails : List Mail) (acts backlog : List Command) → Ends (r, mails) → Ends (pumped (record r { acts = acts; backlog = backlog }, mails))
  pumps_end r mails acts backlog k = pumped_ends (record r { acts = acts; backlog = backlog }, mails)

  any_talk : (r : ReplicaState) → Talk r.me (λ mails. Ends (r, mails))
  any_talk r = grows r.me (λ mails. Ends (r, mails)) (λ mails mail k. k)

  pub order_ends : (drawer : Drawer) (line : OrderLine) (r : ReplicaState) → HasNoneWaiting r → Ends (ordered_row drawer line (r, []))
  order_ends drawer line r k = beside.order_keeps Ends pumps_end any_talk drawer line (r, []) (λ some. k)

  -- ---- promises and votes

  ended_none : (hint : Option ℕ) (answer : AnswerBody) (place : Place) → NoneAt (ended hint answer place)
  unfolding ended
  ended_none hint answer (r, mails) s n f e = refl

  saw_none : (ballot : Ballot) (place : Place) → NoneAt place → NoneAt (saw ballot place)
  unfolding saw
  saw_none ballot (r, mails) k =
      let seen : ReplicaState = cond (below r.top ballot) (record r { top = ballot }) r in
      let at : HasNoneWaiting seen = either_way HasNoneWaiting (below r.top ballot) (record r { top = ballot }) r k k in
      either_way NoneAt (r.running && below r.leader.ballot ballot) (stopped (Some ballot.node) (seen, mails)) (seen, mails) (ended_none (Some ballot.node) _ (seen, mails)) at

  promises_none : (from : ℕ) (ballot : Ballot) (from_slot : ℕ) (place : Place) → NoneAt place → NoneAt (promise_to from ballot (prepared ballot from_slot place.0.acceptor) place)
  promises_none from ballot from_slot (r, mails) k = by (may_promise r.acceptor ballot) refl
    where
      by : (b : Bool) → may_promise r.acceptor ballot ≡ b → NoneAt (promise_to from ballot (cond b (Prepared.Promise (reports_from from_slot r.acceptor.accepted), after_promise ballot r.acceptor) (Prepared.Ignored r.acceptor.promised, r.acceptor)) (r, mails))
      by true t = hinted_none ballot (record r { acceptor = after_promise ballot r.acceptor }) (accepting_none r (after_promise ballot r.acceptor) (at_least_from_below r.acceptor.promised ballot t) k)
      by false t = k

  sent_none : (node : ℕ) (place : Place) → NoneAt place → NoneAt (install_to node place)
  unfolding install_to
  sent_none node (r, mails) k = k

  prepare_none : (from : ℕ) (ballot : Ballot) (from_slot : ℕ) (place : Place) → NoneAt place → NoneAt (prepare_row from ballot from_slot place)
  unfolding prepare_row
  prepare_none from ballot from_slot place k =
      let seen : Place = saw ballot place in
      let q : NoneAt seen = saw_none ballot place k in
      promised_place NoneAt from ballot from_slot seen (sent_none from seen q) (promises_none from ballot from_slot seen q)

  accepts_none : (from : ℕ) (report : Report Command) (place : Place) → NoneAt place → NoneAt (accepted_to from report.ballot report.slot (accepted_by report place.0.acceptor) place)
  accepts_none from report (r, mails) k = by (below report.ballot r.acceptor.promised) refl
    where
      by : (b : Bool) → below report.ballot r.acceptor.promised ≡ b → NoneAt (accepted_to from report.ballot report.slot (cond (not b) (Asked.Accepted, after_accept report r.acceptor) (Asked.Ignored r.acceptor.promised, r.acceptor)) (r, mails))
      by true t = k
      by false t = hinted_none report.ballot (record r { acceptor = after_accept report r.acceptor }) (accepting_none r (after_accept report r.acceptor) t k)

  took_none : (from : ℕ) (report : Report Command) (place : Place) → NoneAt place → NoneAt (took from report place)
  unfolding took install_to
  took_none from report (r, mails) k = either_way NoneAt (nat_le report.slot r.acceptor.floor) _ _ k (accepts_none from report (r, mails) k)

  accept_none : (from : ℕ) (ballot : Ballot) (slot : ℕ) (command : Command) (place : Place) → NoneAt place → NoneAt (accept_row from ballot slot command place)
  unfolding accept_row
  accept_none from ballot slot command place k = took_none from (record { slot = slot; ballot = ballot; value = command }) (saw ballot place) (saw_none ballot place k)

  promise_ends : (from : ℕ) (ballot : Ballot) (reports : List (Report Command)) (place : Place) → NoneAt place → Ends (promise_row from ballot reports place)
  unfolding promise_row
  promise_ends from ballot reports (r, mails) k =
      let counts : ReplicaState = record r { leader = (promise_counted from ballot reports r.leader).1 } in
      either_way Ends (leads ballot r) (pumped (counts, mails)) (r, mails) (pumped_ends (counts, mails)) (λ some. k)

  readied_ends : (slot : ℕ) (command : Command) (place : Place) → EndsAfter (readied slot command place)
  unfolding readied
  readied_ends slot command (r, mails) =
      let after : ReplicaState = record r { ready = with_slot r.ready slot command } in
      either_way EndsAfter (eqb slot (next r) && has_room r) (executed true command (after, mails)) (childless (after, mails)) (executed_ends true command (after, mails))
      (λ some s n f e. absurd (slot_some r.ready slot command e))

  -- a vote is counted, or leaves what is in flight
  module _ (from slot : ℕ) (set : List ℕ) (r : ReplicaState) (mails : List Mail) (k : HasNoneWaiting r) where
    abbrev Tallied : Counted Command × LeaderState Command → Type 0
    Tallied p = EndsAfter (vote_tallied slot p (r, mails))

    at_ends : (o : Option (Flight Command)) → Tallied (vote_at from slot set o r.leader)
    at_ends None = λ some. k
    at_ends (Some flight) =
        let voters : Option (List ℕ) = voters_after set from flight.voters in
        either_way Tallied (is_majority set (kept_voters voters)) (Chosen flight.value, without_flight_at slot r.leader)
        (NotYet (length (kept_voters voters)), record r.leader { flights = with_voters slot voters r.leader.flights })
        (readied_ends slot flight.value (record r { leader = without_flight_at slot r.leader }, mails)) (λ some s n f e. k s n (voters_some slot voters r.leader.flights f) e)

    counted_ends : (ballot : Ballot) → Tallied (counted from ballot slot set r.leader)
    counted_ends ballot = either_way Tallied (same_ballot ballot r.leader.ballot) _ (NotYet 0, r.leader) (at_ends (flight_at slot r.leader.flights)) (λ some. k)

  voted_ends : (from : ℕ) (ballot : Ballot) (slot : ℕ) (o : Option (List ℕ)) (place : Place) → NoneAt place → EndsAfter (voted from ballot slot o place)
  voted_ends from ballot slot None place k = λ some. k
  voted_ends from ballot slot (Some set) (r, mails) k = counted_ends from slot set r mails k ballot

  accepted_ends : (from : ℕ) (ballot : Ballot) (slot : ℕ) (place : Place) → NoneAt place → EndsAfter (accepted_row from ballot slot place)
  unfolding accepted_row
  accepted_ends from ballot slot (r, mails) k =
      either_way EndsAfter (leads ballot r) (voted from ballot slot (set_at slot r) (r, mails)) (childless (r, mails)) (voted_ends from ballot slot (set_at slot r) (r, mails) k) (λ some. k)

  -- ---- Learn, Ask and Install

  learn_ends : (from slot : ℕ) (command : Command) (place : Place) → NoneAt place → EndsAfter (learn_row from slot command place)
  unfolding learn_row
  learn_ends from slot command (r, mails) k =
      either_way EndsAfter (nat_lt last_slot slot) _ _ (λ some. k)
      (either_way EndsAfter (eqb slot (next r)) _ _ (executed_ends false command (r, mails))
      (either_way EndsAfter (nat_lt (next r) slot) (childless (r, sent r.me from (Ask (name_of r) (next r)) mails)) (childless (r, mails)) (λ some. k) (λ some. k)))

  ask_none : (from slot : ℕ) (place : Place) → NoneAt place → NoneAt (ask_row from slot place)
  unfolding install_to
  ask_none from slot (r, mails) k = asked_place NoneAt from slot (r, mails) k k k

  -- who looks for a leader, and who elects itself, keeps what waits
  elected_acts : (r : ReplicaState) (mails : List Mail) → (elected (r, mails)).0.acts ≡ r.acts
  unfolding elected
  elected_acts r mails = either_way (λ (p : Place). p.0.acts ≡ r.acts) (eqb r.top.round _) (r, mails) _ refl refl

  looked_acts : (place : Place) → (looked place).0.acts ≡ place.0.acts
  looked_acts place = looking_kept (λ (p : Place). p.0.acts ≡ place.0.acts) (λ p k. elected_acts p.0 p.1 ∙ k) (λ hint r mails k. k) place refl

  looked_up_acts : (from : ℕ) (place : Place) → (looked_up from place).0.acts ≡ place.0.acts
  unfolding looked_up
  looked_up_acts from (r, mails) = either_way (λ (p : Place). p.0.acts ≡ r.acts) (is_member (members r) from) (record r { hint = Some from }, mails) (looked (r, mails)) refl (looked_acts (r, mails))

  jumped_acts : (slot : ℕ) (base : Base) (sets : List (List ℕ)) (r : ReplicaState) → (jumped slot base sets r).acts ≡ r.acts
  unfolding jumped forgotten
  jumped_acts slot base sets r = refl

  ended_acts : (hint : Option ℕ) (answer : AnswerBody) (place : Place) → (ended hint answer place).0.acts ≡ []
  unfolding ended
  ended_acts hint answer (r, mails) = refl

  -- one that takes a state over stopped, or did not run
  over_none : (from slot : ℕ) (base : Base) (sets : List (List ℕ)) (r : ReplicaState) (mails : List Mail) → (r.running ≡ false → r.acts ≡ []) → NoneAt (took_over from slot base sets (r, mails))
  unfolding took_over
  over_none from slot base sets r mails idle =
      let place1 : Place = cond r.running (stopped (Some from) (r, mails)) (r, mails) in
      idle_none (looked_up from (jumped slot base sets place1.0, place1.1)).0 (looked_up_acts from (jumped slot base sets place1.0, place1.1) ∙ (jumped_acts slot base sets place1.0 ∙ by r.running refl))
    where
      by : (b : Bool) → r.running ≡ b → (cond {A = Place} b (stopped (Some from) (r, mails)) (r, mails)).0.acts ≡ []
      by true t = ended_acts (Some from) _ (r, mails)
      by false f = idle f

  install_none : (from slot : ℕ) (base : Base) (sets : List (List ℕ)) (r : ReplicaState) (mails : List Mail) → (r.running ≡ false → r.acts ≡ []) → HasNoneWaiting r → NoneAt (install_row from slot base sets (r, mails))
  unfolding install_row
  install_none from slot base sets r mails idle k =
      either_way NoneAt (not (eqb (length sets) (length r.sets)) || (nat_lt last_slot slot || nat_lt slot (next r))) (r, mails) (took_over from slot base sets (r, mails)) k (over_none from slot base sets r mails idle)

  -- ---- all mail

  pub mailed_ends : (from : ℕ) (body : MailBody) (r : ReplicaState) → (r.running ≡ false → r.acts ≡ []) → HasNoneWaiting r → EndsAfter (mailed from body (r, []))
  unfolding mailed nack_row
  mailed_ends from (Prepare group ballot from_slot) r idle k = λ some. prepare_none from ballot from_slot (r, []) k
  mailed_ends from (Promise group ballot reports) r idle k = promise_ends from ballot reports (r, []) k
  mailed_ends from (Accept group ballot slot command) r idle k = λ some. accept_none from ballot slot command (r, []) k
  mailed_ends from (Accepted group ballot slot) r idle k = accepted_ends from ballot slot (r, []) k
  mailed_ends from (Nack group ballot) r idle k = λ some. saw_none ballot (r, []) k
  mailed_ends from (Learn group slot command) r idle k = learn_ends from slot command (r, []) k
  mailed_ends from (Ask group from_slot) r idle k = λ some. ask_none from from_slot (r, []) k
  mailed_ends from (Install group slot base sets) r idle k = λ some. install_none from slot base sets r [] idle k
  mailed_ends from body r idle k = beside.beside_keeps Ends pumps_end any_talk from body (r, []) tt (λ some. k)

  -- a replica that is made of a state has no act
  pub made_none : (me from : ℕ) (group : Draw) (slot : ℕ) (base : Base) (sets : List (List ℕ)) → NoneAt (made_by me from group slot base sets)
  unfolding made_by forgotten
  made_none me from group slot base sets = idle_none (looked_up from (installed_replica me slot (named group base) sets, [])).0 (looked_up_acts from (installed_replica me slot (named group base) sets, []))
