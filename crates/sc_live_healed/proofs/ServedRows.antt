-- Each mail but Accepted leaves a replica that runs, and whose group is not reshaped, stopped or with its slots taken as they should be.
use Rattle.std.proofs.Common.{◌≡◌, ℕ, ◌&&◌, ◌||◌, not, nat_le, nat_lt, eqb, Bool, true, false, cond, List, [], ◌∷◌, ◌++◌, length, Option, Some, None, ◌⊎◌, inl, inr, refl, sym, ◌∙◌, ap, subst}
use Rattle.std.proofs.lemmas.Bool.{cond_both, cond-true, and_parts, and_from}
use Rattle.sc_base.specs.Definitions.{Among, Each, is_member, is_majority, same_ballot}
use Rattle.sc_node_table.specs.Values.{Ballot, Op, Base, Command, Call, Core, Free, Route, AnswerBody, Mail, Flight, Report, PrepareAnswer, AcceptAnswer}
use Rattle.sc_words.specs.ideal.IdealDefinitions.{key_of, holds_key}
use Rattle.sc_words.specs.declared.paxos.answers.PrepareAnswer.TheVariants as Prepared
use Rattle.sc_words.specs.declared.paxos.answers.AcceptAnswer.TheVariants as Asked
use Rattle.sc_mail.specs.declared.bodies.AnswerBody.TheVariants as Says
use Rattle.sc_words.specs.paxos.PaxosDefinitions.{below, prepared, accepted as accepted_by, AcceptorState, LeaderState, reports_from, after_promise, after_accept, may_promise, may_accept, promise_counted, entry_at}
use Rattle.sc_words.proofs.PaxosProofs.PaxosLemmas.{Each-among, Each-from, Each-append, Each-push}
use Rattle.sc_node_table.specs.NodeDefinitions.{stopped, ended, saw, looked, executed, jumped, install_to, pumped, queued_number, without_request, ReplicaState, Place, Executed, childless, next, settled, may_offer, first_set, last_slot, forgotten, refused_at, request_refusal, admits_requests, queued, requested, request_row, learn_row, ask_answered, ask_row, looked_up, took_over, install_row, hinted, promise_to, promised, prepare_row, accepted_to, took, accept_row, leads, promise_row, nack_row}
use Rattle.sc_law_walks.proofs.WalkLemmas.{either_way}
use Rattle.sc_live_healed.specs.HealedDefinitions.{IsFixedCommand, IsFixedRequest, IsFixedReplica, IsFixedBase, KeepsBallots, IsUndecided, TakesSlots}
use Rattle.sc_live_healed.proofs.ServingReplicas.{IsServing, IsUnderWay}
use Rattle.sc_live_healed.proofs.OfferedQueues.{requeued}
use Rattle.sc_live_healed.proofs.ExecutedSlots.{without_fixed}
use Rattle.sc_live_healed.proofs.ReadySlots.{HasServed, executed_serves, pump_serves}

-- what is not refused is of a key of the group
taken_key : (gone : Option Route) (core : Core) (running : Bool) (hint : Option ℕ) (op : Op) → request_refusal gone core running hint op ≡ None → admits_requests core.lock ≡ true → holds_key core.arc (key_of op) ≡ true
taken_key (Some into) core running hint op e free = cc
taken_key None core false hint op e free = cc
taken_key None core true hint op e free = by (admits_requests core.lock) (holds_key core.arc (key_of op)) (Says.NotMine core.arc core.succ) free e
  where
    by : (a b : Bool) (answer : AnswerBody) → a ≡ true → cond (a && not b) (Some answer) None ≡ None → b ≡ true
    by true true answer t e2 = refl
    by true false answer t e2 = cc
    by false b answer t e2 = cc

-- ---- one that does not run, or stops

stopped_off : (hint : Option ℕ) (r : ReplicaState) (mails : List Mail) → (stopped hint (r, mails)).0.running ≡ false
unfolding ended
stopped_off hint r mails = refl

pub hinted_runs : (ballot : Ballot) (r : ReplicaState) → (hinted ballot r).running ≡ r.running
hinted_runs ballot r = either_way (λ (x : ReplicaState). x.running ≡ r.running) r.running r (record r { hint = Some ballot.node }) refl refl

pub promised_runs : (from : ℕ) (ballot : Ballot) (from_slot : ℕ) (place : Place) → (promised from ballot from_slot place).0.running ≡ place.0.running
unfolding promised install_to
promised_runs from ballot from_slot (r, mails) =
    either_way (λ (p : Place). p.0.running ≡ r.running) (nat_le from_slot r.acceptor.floor) (install_to from (r, mails)) (promise_to from ballot (prepared ballot from_slot r.acceptor) (r, mails)) refl
    (either_way (λ (p : PrepareAnswer Command × AcceptorState Command). (promise_to from ballot p (r, mails)).0.running ≡ r.running) (may_promise r.acceptor ballot)
    (Prepared.Promise (reports_from from_slot r.acceptor.accepted), after_promise ballot r.acceptor) (Prepared.Ignored r.acceptor.promised, r.acceptor)
    (hinted_runs ballot (record r { acceptor = after_promise ballot r.acceptor })) refl)

pub took_runs : (from : ℕ) (report : Report Command) (place : Place) → (took from report place).0.running ≡ place.0.running
unfolding took install_to
took_runs from report (r, mails) =
    either_way (λ (p : Place). p.0.running ≡ r.running) (nat_le report.slot r.acceptor.floor) (install_to from (r, mails)) (accepted_to from report.ballot report.slot (accepted_by report r.acceptor) (r, mails)) refl
    (either_way (λ (p : AcceptAnswer × AcceptorState Command). (accepted_to from report.ballot report.slot p (r, mails)).0.running ≡ r.running) (may_accept r.acceptor report.ballot)
    (Asked.Accepted, after_accept report r.acceptor) (Asked.Ignored r.acceptor.promised, r.acceptor)
    (hinted_runs report.ballot (record r { acceptor = after_accept report r.acceptor })) refl)

-- a state of the group that is taken over leaves it stopped
pub took_over_off : (base : Base) (from slot : ℕ) (sent : Base) (sets : List (List ℕ)) (place : Place) → IsFixedBase base sent → is_member base.core.members from ≡ true → (took_over from slot sent sets place).0.running ≡ false
unfolding took_over looked_up jumped forgotten ended
took_over_off base from slot sent sets (r, mails) same m =
    cond_both r.running (stopped (Some from) (r, mails)) (r, mails) (λ (p : Place). (looked_up from (jumped slot sent sets p.0, p.1)).0.running ≡ false) (λ _. by (stopped (Some from) (r, mails)) refl) (λ off. by (r, mails) off)
  where
    here : is_member sent.core.members from ≡ true
    here = ap (λ (core : Core). is_member core.members from) same ∙ m

    by : (p : Place) → p.0.running ≡ false → (looked_up from (jumped slot sent sets p.0, p.1)).0.running ≡ false
    by p off = subst (λ (q : Place). q.0.running ≡ false) (sym (cond-true (is_member sent.core.members from) (record (jumped slot sent sets p.0) { hint = Some from }, p.1) (looked (jumped slot sent sets p.0, p.1)) here)) off

-- a ballot that is seen stops it, or leaves all but the greatest ballot seen
pub seen_by : (P : Place → Type 0) (ballot : Ballot) (r : ReplicaState) (mails : List Mail) → ((place : Place) → place.0.running ≡ false → P place) → ((top : Ballot) → (r.running && below r.leader.ballot ballot) ≡ false → P (record r { top = top }, mails)) → P (saw ballot (r, mails))
unfolding saw
seen_by P ballot r mails off on =
    let seen : ReplicaState = cond (below r.top ballot) (record r { top = ballot }) r in
    cond_both (r.running && below r.leader.ballot ballot) (stopped (Some ballot.node) (seen, mails)) (seen, mails) P
    (λ _. off (stopped (Some ballot.node) (seen, mails)) (stopped_off (Some ballot.node) seen mails))
    (λ f. either_way (λ (x : ReplicaState). P (x, mails)) (below r.top ballot) (record r { top = ballot }) r (on ballot f) (on r.top f))

-- ---- one that runs

module _ (base : Base) (me : ℕ) (ballot : Ballot) (Held : Flight Command → Type 0) (free : base.core.lock ≡ Free) (stands : base.core.gone ≡ None) (member : is_member base.core.members me ≡ true)
    (r : ReplicaState) (fixed : IsFixedReplica base r) (ballots : KeepsBallots base r) (takes : TakesSlots base r) (on : r.running ≡ true) (me_is : r.me ≡ me) (ballot_is : r.leader.ballot ≡ ballot)
    (held : (flight : Flight Command) → Among flight r.leader.flights → Held flight) where
  abbrev S : ℕ → Place → Type 0
  S taken place = IsServing base me ballot Held taken place

  abbrev E : Place → Type 0
  E place = HasServed base me ballot Held place

  -- what a row leaves
  abbrev pub R : Place → Type 0
  R place = (place.0.running ≡ false) ⊎ E place

  abbrev pub RAfter : Executed → Type 0
  RAfter step = R step.0

  pub serving : (mails : List Mail) → S takes.taken (r, mails)
  serving mails = record {
    running = on;
    me_is = me_is;
    ballot_is = ballot_is;
    core = fixed.group;
    sets = fixed.sets;
    acts = fixed.acts;
    backlog = fixed.backlog;
    flights = Each-from (IsUnderWay base me ballot Held mails) r.leader.flights (λ flight a. record {
      value = Each-among (λ (x : Flight Command). IsFixedCommand base x.value) r.leader.flights flight fixed.flights a;
      undecided = Each-among (IsUndecided base) r.leader.flights flight takes.undecided a;
      from = inl (held flight a);
    });
    ready = fixed.ready;
    reports = fixed.reports;
    slots = takes.slots;
    room = takes.room;
  }

  -- nothing changes but what is promised, accepted and seen
  module _ (top : Ballot) (acceptor : AcceptorState Command) (mails : List Mail) where
    abbrev changed : ReplicaState
    changed = record r { top = top; acceptor = acceptor }

    changed_serving : S takes.taken (changed, mails)
    changed_serving = (let k = serving mails in record {
      running = k.running;
      me_is = k.me_is;
      ballot_is = k.ballot_is;
      core = k.core;
      sets = k.sets;
      acts = k.acts;
      backlog = k.backlog;
      flights = k.flights;
      ready = k.ready;
      reports = k.reports;
      slots = record { most = k.slots.most; once = k.slots.once };
      room = k.room;
    })

    -- it was settled before
    settled_before : settled changed ≡ true → settled r ≡ true
    settled_before t =
        let low = (ballots.running on).unpassed in
        let may = (and_parts r.running (may_offer changed (first_set r.sets)) t).1 in
        let most = (and_parts (not (below r.leader.ballot acceptor.promised)) (r.leader.is_first || is_majority (first_set r.sets) r.leader.promisers) may).1 in
        and_from r.running (may_offer r (first_set r.sets)) on (and_from (not (below r.leader.ballot r.acceptor.promised)) (r.leader.is_first || is_majority (first_set r.sets) r.leader.promisers) (ap not low) most)

    changed_served : E (changed, mails)
    changed_served = record {
      taken = takes.taken;
      serves = changed_serving;
      executed = takes.executed;
      offered = λ t near. takes.offered (settled_before t) near;
    }

  pub unchanged : (mails : List Mail) → E (r, mails)
  unchanged mails = changed_served r.top r.acceptor mails

  -- ---- Request

  free_here : admits_requests r.group.core.lock ≡ true
  free_here = ap (λ (core : Core). admits_requests core.lock) fixed.group ∙ ap admits_requests free

  held_here : (op : Op) → refused_at r.group.core.gone op r ≡ None → holds_key base.core.arc (key_of op) ≡ true
  held_here op e = ap (λ (core : Core). holds_key core.arc (key_of op)) (sym fixed.group) ∙ taken_key r.group.core.gone r.group.core r.running r.hint op e free_here

  queues : (o : Option ℕ) (client seq : ℕ) (op : Op) (mails : List Mail) → holds_key base.core.arc (key_of op) ≡ true → E (queued o client seq op (r, mails))
  unfolding queued
  queues None client seq op mails h =
      let backlog : List Command = r.backlog ++ Call client seq op ∷ [] in
      pump_serves base me ballot Held free stands member takes.taken (record r { backlog = backlog }, mails) takes.executed
      (requeued base me ballot Held free stands takes.taken r mails backlog (Each-push (IsFixedRequest base) r.backlog (Call client seq op) fixed.backlog h) (serving mails))
  queues (Some other) client seq op mails h =
      let backlog : List Command = without_request r.backlog client ++ Call client seq op ∷ [] in
      either_way E (nat_le seq other) (r, mails) (pumped (record r { backlog = backlog }, mails)) (unchanged mails)
      (pump_serves base me ballot Held free stands member takes.taken (record r { backlog = backlog }, mails) takes.executed
      (requeued base me ballot Held free stands takes.taken r mails backlog
      (Each-push (IsFixedRequest base) (without_request r.backlog client) (Call client seq op) (without_fixed base me ballot Held free stands member r.backlog client fixed.backlog) h) (serving mails)))

  requests_by : (o : Option AnswerBody) (client seq : ℕ) (op : Op) (mails : List Mail) → refused_at r.group.core.gone op r ≡ o → E (requested o client seq op (r, mails))
  unfolding requested
  requests_by (Some answer) client seq op mails e = unchanged _
  requests_by None client seq op mails e = queues (queued_number r.backlog client) client seq op mails (held_here op e)

  pub requests : (client seq : ℕ) (op : Op) (mails : List Mail) → R (request_row client seq op (r, mails))
  unfolding request_row
  requests client seq op mails = inr (requests_by (refused_at r.group.core.gone op r) client seq op mails refl)

  -- ---- Prepare, Accept and Nack

  hints : (seen : Ballot) (top : Ballot) (acceptor : AcceptorState Command) (mails : List Mail) → E (hinted seen (record r { top = top; acceptor = acceptor }), mails)
  hints seen top acceptor mails =
      subst (λ (x : ReplicaState). E (x, mails)) (sym (cond-true r.running (record r { top = top; acceptor = acceptor }) (record r { top = top; acceptor = acceptor; hint = Some seen.node }) on)) (changed_served top acceptor mails)

  promises : (from : ℕ) (seen : Ballot) (from_slot : ℕ) (top : Ballot) (mails : List Mail) → E (promised from seen from_slot (record r { top = top }, mails))
  unfolding promised install_to
  promises from seen from_slot top mails =
      either_way E (nat_le from_slot r.acceptor.floor) _ _ (changed_served top r.acceptor _)
      (either_way (λ (p : PrepareAnswer Command × AcceptorState Command). E (promise_to from seen p (record r { top = top }, mails))) (may_promise r.acceptor seen)
      (Prepared.Promise (reports_from from_slot r.acceptor.accepted), after_promise seen r.acceptor) (Prepared.Ignored r.acceptor.promised, r.acceptor)
      (hints seen top (after_promise seen r.acceptor) _) (changed_served top r.acceptor _))

  pub prepares : (from : ℕ) (seen : Ballot) (from_slot : ℕ) (mails : List Mail) → R (prepare_row from seen from_slot (r, mails))
  unfolding prepare_row
  prepares from seen from_slot mails =
      seen_by (λ (place : Place). R (promised from seen from_slot place)) seen r mails (λ place off. inl (promised_runs from seen from_slot place ∙ off)) (λ top f. inr (promises from seen from_slot top mails))

  accepts_to : (from : ℕ) (report : Report Command) (top : Ballot) (mails : List Mail) → E (took from report (record r { top = top }, mails))
  unfolding took install_to
  accepts_to from report top mails =
      either_way E (nat_le report.slot r.acceptor.floor) _ _ (changed_served top r.acceptor _)
      (either_way (λ (p : AcceptAnswer × AcceptorState Command). E (accepted_to from report.ballot report.slot p (record r { top = top }, mails))) (may_accept r.acceptor report.ballot)
      (Asked.Accepted, after_accept report r.acceptor) (Asked.Ignored r.acceptor.promised, r.acceptor)
      (hints report.ballot top (after_accept report r.acceptor) _) (changed_served top r.acceptor _))

  pub accepts : (from : ℕ) (seen : Ballot) (slot : ℕ) (command : Command) (mails : List Mail) → R (accept_row from seen slot command (r, mails))
  unfolding accept_row
  accepts from seen slot command mails =
      let report : Report Command = record { slot = slot; ballot = seen; value = command } in
      seen_by (λ (place : Place). R (took from report place)) seen r mails (λ place off. inl (took_runs from report place ∙ off)) (λ top f. inr (accepts_to from report top mails))

  pub nacks : (seen : Ballot) (mails : List Mail) → R (nack_row seen (r, mails))
  unfolding nack_row
  nacks seen mails = seen_by R seen r mails (λ place off. inl off) (λ top f. inr (changed_served top r.acceptor mails))

  -- ---- Promise

  polled : (from : ℕ) (seen : Ballot) (reports : List (Report Command)) (mails : List Mail) → Each (λ (report : Report Command). IsFixedCommand base report.value) reports
      → S takes.taken (record r { leader = (promise_counted from seen reports r.leader).1 }, mails)
  polled from seen reports mails good =
      either_way (λ (p : Bool × LeaderState Command). S takes.taken (record r { leader = p.1 }, mails)) (same_ballot seen r.leader.ballot && not (is_member r.leader.promisers from)) _ _
      (let k = serving mails in record {
        running = k.running;
        me_is = k.me_is;
        ballot_is = k.ballot_is;
        core = k.core;
        sets = k.sets;
        acts = k.acts;
        backlog = k.backlog;
        flights = k.flights;
        ready = k.ready;
        reports = Each-append (λ (report : Report Command). IsFixedCommand base report.value) r.leader.reports reports k.reports good;
        slots = record { most = k.slots.most; once = k.slots.once };
        room = k.room;
      })
      (serving mails)

  pub promises_count : (from : ℕ) (seen : Ballot) (reports : List (Report Command)) (mails : List Mail) → Each (λ (report : Report Command). IsFixedCommand base report.value) reports → R (promise_row from seen reports (r, mails))
  unfolding promise_row
  promises_count from seen reports mails good =
      either_way R (leads seen r) (pumped (record r { leader = (promise_counted from seen reports r.leader).1 }, mails)) (r, mails)
      (inr (pump_serves base me ballot Held free stands member takes.taken (record r { leader = (promise_counted from seen reports r.leader).1 }, mails) takes.executed (polled from seen reports mails good)))
      (inr (unchanged mails))

  -- ---- Learn, Ask and Install

  pub learns : (from slot : ℕ) (command : Command) (mails : List Mail) → IsFixedCommand base command → RAfter (learn_row from slot command (r, mails))
  unfolding learn_row
  learns from slot command mails good =
      either_way RAfter (nat_lt last_slot slot) (childless (r, mails)) _ (inr (unchanged mails))
      (either_way RAfter (eqb slot (next r)) (executed false command (r, mails)) _ (inr (executed_serves base me ballot Held free stands member takes.taken false command r mails good (serving mails)))
      (either_way RAfter (nat_lt (next r) slot) _ (childless (r, mails)) (inr (unchanged _)) (inr (unchanged mails))))

  answers_by : (o : Option Command) (from slot : ℕ) (mails : List Mail) → R (ask_answered o from slot (r, mails))
  unfolding install_to
  answers_by None from slot mails = inr (unchanged _)
  answers_by (Some command) from slot mails = inr (unchanged _)

  pub asks : (from slot : ℕ) (mails : List Mail) → R (ask_row from slot (r, mails))
  unfolding ask_row
  asks from slot mails = either_way R (nat_lt slot (next r)) (ask_answered (entry_at slot r.log) from slot (r, mails)) (r, mails) (answers_by (entry_at slot r.log) from slot mails) (inr (unchanged mails))

  pub installs : (from slot : ℕ) (sent : Base) (sets : List (List ℕ)) (mails : List Mail) → IsFixedBase base sent → is_member base.core.members from ≡ true → R (install_row from slot sent sets (r, mails))
  unfolding install_row
  installs from slot sent sets mails same m =
      either_way R (not (eqb (length sets) (length r.sets)) || (nat_lt last_slot slot || nat_lt slot (next r))) (r, mails) (took_over from slot sent sets (r, mails))
      (inr (unchanged mails)) (inl (took_over_off base from slot sent sets (r, mails) same m))
