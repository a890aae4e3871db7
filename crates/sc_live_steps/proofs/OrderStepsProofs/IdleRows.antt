-- Rows that do nothing of an order: what is asked for, and an entry that is learnt.
use Rattle.std.proofs.Common.{◌≡◌, ℕ, ◌+◌, ◌-◌, ◌^◌, ◌&&◌, ◌||◌, not, length, append-nil, eqb, Bool, true, false, cond, List, [], ◌∷◌, ◌++◌, Option, Some, None, refl, sym, ◌∙◌, ap, subst}
use Rattle.std.specs.Option.{option_map}
use Rattle.std.specs.Prelude.{nat_lt, nat_le}
use Rattle.sc_base.specs.Definitions.{same_ballot, is_member}
use Rattle.sc_node_table.specs.Values.{Ballot, Draw, Command, Noop, Base, Effect, OrderResult, AnswerBody, Mail, Accept, Ask, Install, Learn, Nack, Prepare, Promise, AcceptAnswer, PrepareAnswer, Flight, Report}
use Rattle.sc_mail.specs.declared.bodies.AnswerBody.TheVariants as Says
use Rattle.sc_group_table.specs.machine.MachineDefinitions.{applied}
use Rattle.sc_node_table.specs.NodeDefinitions.{saw, ended, stopped, elected, open_nodes, entered, announced, order_result, effect_reported, learnt_to, welcomed, slot_lost, landed, left, looked, executed_one, executed, install_to, jumped, sent, answered_all, order_number, pumped, ReplicaState, Place, Executed, childless, name_of, next, members, flying, under_way, forgotten, last_slot, listed, mailed, learn_row, looked_up, took_over, install_row, without_slot, before_of, spoken, spoken_mails, leads, promise_row, hinted, promise_to, promised, prepare_row, accepted_to, took, accept_row, nack_row}
use Rattle.sc_words.specs.declared.paxos.answers.AcceptAnswer.TheVariants as Asked
use Rattle.sc_words.specs.declared.paxos.answers.Must.TheVariants.{Free as Open}
use Rattle.sc_words.specs.declared.paxos.answers.PrepareAnswer.TheVariants as Prepared
use Rattle.sc_words.specs.paxos.PaxosDefinitions.{accepted as accepted_by, AcceptorState, below, chosen_value, names_above, LeaderState, must, must_without, flight_at, without_flight, without_flight_at, prepared}
use Rattle.sc_law_walks.proofs.WalkLemmas.{idle_pump, none_ready as ready_still, either_way}
use Rattle.sc_law_walks.specs.WalkDefinitions.{GoesOn}
use Rattle.sc_live_steps.proofs.ExecutionParts.{leaving_kept, looking_kept}
use Rattle.sc_live_steps.specs.orders.OrderDefinitions.{Work, works_in, works_flying, works_ready, works, errands_for, IsUnbound, Works, IsIdle, Rested, TablesRest, PromisesKeepWork}
use Rattle.sc_live_steps.proofs.OrderStepsProofs.Errands.{errands-none, errands-all}
use Rattle.sc_live_steps.proofs.OrderStepsProofs.LoneWorkPumps.{pump-stays, pumps-keep}
use Rattle.sc_live_steps.proofs.OrderStepsProofs.LoneEntries.{order_none, begun_none, all_answered_none, all_dismissed_none}

-- ---- what is asked for

module _ (r : ReplicaState) where
  -- the queues and what the replica leads stay, and no errand is sent
  record IsSame (q : ReplicaState) (mails : List Mail) : Type 0 where
    pub group : q.group ≡ r.group
    pub me : q.me ≡ r.me
    pub running : q.running ≡ r.running
    pub acts : q.acts ≡ r.acts
    pub backlog : q.backlog ≡ r.backlog
    pub leader : q.leader ≡ r.leader
    pub ready : q.ready ≡ r.ready
    pub sends : (name : Draw) → errands_for name mails ≡ []

  abbrev Same : Place → Type 0
  Same place = IsSame place.0 place.1

  same_works : (place : Place) → Same place → Works (works r) [] r place
  same_works place s = record {
    group = s.group;
    me = s.me;
    running = s.running;
    work = ap (λ l. works_in l ++ (works_in place.0.backlog ++ (works_flying place.0.leader.flights ++ works_ready place.0.ready))) s.acts
        ∙ (ap (λ l. works_in r.acts ++ (works_in l ++ (works_flying place.0.leader.flights ++ works_ready place.0.ready))) s.backlog
        ∙ (ap (λ (l : LeaderState Command). works_in r.acts ++ (works_in r.backlog ++ (works_flying l.flights ++ works_ready place.0.ready))) s.leader ∙ ap (λ l. works_in r.acts ++ (works_in r.backlog ++ (works_flying r.leader.flights ++ works_ready l))) s.ready));
    sends = (tt, λ name none. s.sends name);
  }

  itself : Same (r, [])
  itself = record { group = refl; me = refl; running = refl; acts = refl; backlog = refl; leader = refl; ready = refl; sends = λ name. refl }

  saw_same : (ballot : Ballot) → GoesOn ballot r → Same (saw ballot (r, []))
  unfolding saw
  saw_same ballot goes = by (below r.top ballot)
    where
      here : (seen : ReplicaState) (b : Bool) → b ≡ false → Same (seen, []) → Same (cond b (stopped (Some ballot.node) (seen, [])) (seen, []))
      here seen true e s = absurd cc
      here seen false e s = s

      by : (b : Bool) → Same (cond (r.running && below r.leader.ballot ballot) (stopped (Some ballot.node) (cond b (record r { top = ballot }) r, [])) (cond b (record r { top = ballot }) r, []))
      by true = here (record r { top = ballot }) (r.running && below r.leader.ballot ballot) goes (record { group = refl; me = refl; running = refl; acts = refl; backlog = refl; leader = refl; ready = refl; sends = λ name. refl })
      by false = here r (r.running && below r.leader.ballot ballot) goes itself

  install_same : (node : ℕ) (q : ReplicaState) (mails : List Mail) → IsSame q mails → Same (install_to node (q, mails))
  unfolding install_to
  install_same node q mails s = record { group = s.group; me = s.me; running = s.running; acts = s.acts; backlog = s.backlog; leader = s.leader; ready = s.ready; sends = λ name. errands-none name q.me node _ mails refl ∙ s.sends name }

  hinted_same : (ballot : Ballot) (acceptor : AcceptorState Command) (q : ReplicaState) (mails after : List Mail) → IsSame q mails → ((name : Draw) → errands_for name after ≡ errands_for name mails) → IsSame (hinted ballot (record q { acceptor = acceptor })) after
  hinted_same ballot acceptor q mails after s e = by q.running
    where
      by : (b : Bool) → IsSame (cond b (record q { acceptor = acceptor }) (record q { acceptor = acceptor; hint = Some ballot.node })) after
      by true = record { group = s.group; me = s.me; running = s.running; acts = s.acts; backlog = s.backlog; leader = s.leader; ready = s.ready; sends = λ name. e name ∙ s.sends name }
      by false = record { group = s.group; me = s.me; running = s.running; acts = s.acts; backlog = s.backlog; leader = s.leader; ready = s.ready; sends = λ name. e name ∙ s.sends name }

  accepted_same : (from : ℕ) (ballot : Ballot) (slot : ℕ) (answer : AcceptAnswer) (acceptor : AcceptorState Command) (q : ReplicaState) (mails : List Mail) → IsSame q mails → Same (accepted_to from ballot slot (answer, acceptor) (q, mails))
  accepted_same from ballot slot Asked.Accepted acceptor q mails s = hinted_same ballot acceptor q mails _ s (λ name. errands-none name q.me from _ mails refl)
  accepted_same from ballot slot (Asked.Ignored promised) acceptor q mails s = record { group = s.group; me = s.me; running = s.running; acts = s.acts; backlog = s.backlog; leader = s.leader; ready = s.ready; sends = λ name. errands-none name q.me from (Nack (name_of q) promised) mails refl ∙ s.sends name }

  promise_same : (from : ℕ) (ballot : Ballot) (answer : PrepareAnswer Command) (acceptor : AcceptorState Command) (q : ReplicaState) (mails : List Mail) → IsSame q mails → Same (promise_to from ballot (answer, acceptor) (q, mails))
  promise_same from ballot (Prepared.Promise reports) acceptor q mails s = hinted_same ballot acceptor q mails _ s (λ name. errands-none name q.me from _ mails refl)
  promise_same from ballot (Prepared.Ignored promised) acceptor q mails s = record { group = s.group; me = s.me; running = s.running; acts = s.acts; backlog = s.backlog; leader = s.leader; ready = s.ready; sends = λ name. errands-none name q.me from (Nack (name_of q) promised) mails refl ∙ s.sends name }

  took_same : (from : ℕ) (report : Report Command) (q : ReplicaState) (mails : List Mail) → IsSame q mails → Same (took from report (q, mails))
  unfolding took
  took_same from report q mails s =
      by (nat_le report.slot q.acceptor.floor) (install_same from q mails s) (let x = accepted_by report q.acceptor in accepted_same from report.ballot report.slot x.0 x.1 q mails s)
    where
      by : (b : Bool) → Same (install_to from (q, mails)) → Same (accepted_to from report.ballot report.slot (accepted_by report q.acceptor) (q, mails)) → Same (cond b (install_to from (q, mails)) (accepted_to from report.ballot report.slot (accepted_by report q.acceptor) (q, mails)))
      by true i a = i
      by false i a = a

  promised_same : (from : ℕ) (ballot : Ballot) (from_slot : ℕ) (q : ReplicaState) (mails : List Mail) → IsSame q mails → Same (promised from ballot from_slot (q, mails))
  unfolding promised
  promised_same from ballot from_slot q mails s =
      by (nat_le from_slot q.acceptor.floor) (install_same from q mails s) (let x = prepared ballot from_slot q.acceptor in promise_same from ballot x.0 x.1 q mails s)
    where
      by : (b : Bool) → Same (install_to from (q, mails)) → Same (promise_to from ballot (prepared ballot from_slot q.acceptor) (q, mails)) → Same (cond b (install_to from (q, mails)) (promise_to from ballot (prepared ballot from_slot q.acceptor) (q, mails)))
      by true i a = i
      by false i a = a

  accept_rests : (from : ℕ) (group : Draw) (ballot : Ballot) (slot : ℕ) (command : Command) → GoesOn ballot r → Works (works r) [] r (mailed from (Accept group ballot slot command) (r, [])).0
  unfolding mailed accept_row
  accept_rests from group ballot slot command goes =
      (let seen : Place = saw ballot (r, []) in let s = saw_same ballot goes in
      same_works (took from (record { slot = slot; ballot = ballot; value = command }) seen) (took_same from (record { slot = slot; ballot = ballot; value = command }) seen.0 seen.1 s))

  prepare_rests : (from : ℕ) (group : Draw) (ballot : Ballot) (from_slot : ℕ) → GoesOn ballot r → Works (works r) [] r (mailed from (Prepare group ballot from_slot) (r, [])).0
  unfolding mailed prepare_row
  prepare_rests from group ballot from_slot goes =
      (let seen : Place = saw ballot (r, []) in let s = saw_same ballot goes in same_works (promised from ballot from_slot seen) (promised_same from ballot from_slot seen.0 seen.1 s))

  nack_rests : (from : ℕ) (group : Draw) (ballot : Ballot) → GoesOn ballot r → Works (works r) [] r (mailed from (Nack group ballot) (r, [])).0
  unfolding mailed nack_row
  nack_rests from group ballot goes = same_works (saw ballot (r, [])) (saw_same ballot goes)

-- ---- an entry that is learnt

module _ (command : Command) (r : ReplicaState) (idle : IsIdle r) where
  -- no work, nothing in flight or ready, nothing that binds one that runs, and no errand
  record IsStill (q : ReplicaState) (mails : List Mail) : Type 0 where
    pub acts : works_in q.acts ≡ []
    pub backlog : works_in q.backlog ≡ []
    pub flights : q.leader.flights ≡ []
    pub ready : q.ready ≡ []
    pub musts : q.running ≡ true → (slot : ℕ) → must slot q.leader ≡ Open
    pub sends : (name : Draw) → errands_for name mails ≡ []

  abbrev Still : Place → Type 0
  Still place = IsStill place.0 place.1

  start_still : Still (r, [])
  start_still = record { acts = idle.acts; backlog = idle.backlog; flights = idle.flights; ready = idle.ready; musts = λ e. (let f : false ≡ true = sym idle.stopped ∙ e in absurd cc); sends = λ name. refl }

  entered_still : Still (entered command r, [])
  unfolding entered forgotten
  entered_still = record { acts = idle.acts; backlog = idle.backlog; flights = idle.flights; ready = idle.ready; musts = λ e. (let f : false ≡ true = sym idle.stopped ∙ e in absurd cc); sends = λ name. refl }

  reported_still : (o : Option OrderResult) (q : ReplicaState) (mails : List Mail) → IsStill q mails → Still (effect_reported o command (q, mails))
  unfolding effect_reported
  reported_still None q mails s = s
  reported_still (Some result) q mails s = record { acts = s.acts; backlog = s.backlog; flights = s.flights; ready = s.ready; musts = s.musts; sends = λ name. order_none name q.me (order_number command) result mails ∙ s.sends name }

  announced_still : (effect : Effect) (q : ReplicaState) (mails : List Mail) → IsStill q mails → Still (announced false effect command (q, mails))
  unfolding announced
  announced_still effect q mails s = reported_still (order_result command effect) q mails s

  spoken_still : (effect : Effect) (q : ReplicaState) (mails : List Mail) → IsStill q mails → Still (spoken false (before_of r.group.core) effect command (q, mails))
  unfolding spoken spoken_mails
  spoken_still effect q mails s = record { acts = s.acts; backlog = s.backlog; flights = s.flights; ready = s.ready; musts = s.musts; sends = λ name. begun_none name q.me (before_of r.group.core) effect command mails ∙ s.sends name }

  learnt_still : (q : ReplicaState) (mails : List Mail) → IsStill q mails → Still (learnt_to false (members r) (next r) command (q, mails))
  unfolding learnt_to
  learnt_still q mails s = s

  welcomed_still : (q : ReplicaState) (mails : List Mail) → IsStill q mails → Still (welcomed false (members r) (q, mails))
  unfolding welcomed
  welcomed_still q mails s = s

  landed_still : (q : ReplicaState) (mails : List Mail) → IsStill q mails → Still (landed false (next r) command (q, mails))
  unfolding landed
  landed_still q mails s =
      subst (λ o. IsStill (slot_lost false command o (record q { leader = without_flight_at (next r) q.leader; ready = without_slot q.ready (next r) })) mails) (sym none)
      (record { acts = s.acts; backlog = s.backlog; flights = ap (without_flight (next r)) s.flights; ready = ap (λ l. without_slot l (next r)) s.ready; musts = s.musts; sends = s.sends })
    where
      none : flying q (next r) ≡ None
      none = ap (λ fs. option_map (λ (f : Flight Command). f.value) (flight_at (next r) fs)) s.flights

  ended_still : (hint : Option ℕ) (answer : AnswerBody) (q : ReplicaState) (mails : List Mail) → IsStill q mails → Still (ended hint answer (q, mails))
  unfolding ended
  ended_still hint answer q mails s = record {
    acts = refl;
    backlog = refl;
    flights = refl;
    ready = refl;
    musts = λ e slot. refl;
    sends = λ name. all_dismissed_none name q.me (name_of q) hint answer q.backlog (answered_all q.me (name_of q) answer (under_way q) mails)
        ∙ (all_answered_none name q.me (name_of q) answer (under_way q) mails ∙ s.sends name);
  }

  hinted_still : (hint : Option ℕ) (q : ReplicaState) (mails : List Mail) → IsStill q mails → IsStill (record q { hint = hint }) mails
  hinted_still hint q mails s = record { acts = s.acts; backlog = s.backlog; flights = s.flights; ready = s.ready; musts = s.musts; sends = s.sends }

  elected_still : (q : ReplicaState) (mails : List Mail) → IsStill q mails → Still (elected (q, mails))
  unfolding elected
  elected_still q mails s = either_way Still (eqb q.top.round (2 ^ 32 - 1)) (q, mails) _ s (record {
    acts = s.acts;
    backlog = s.backlog;
    flights = refl;
    ready = refl;
    musts = λ e slot. refl;
    sends = λ name. errands-all name q.me (open_nodes q.sets) (Prepare (name_of q) (record { round = q.top.round + 1; node = q.me }) (next q)) mails (λ to. refl) ∙ s.sends name;
  })

  looked_still : (q : ReplicaState) (mails : List Mail) → IsStill q mails → Still (looked (q, mails))
  looked_still q mails s = looking_kept Still (λ place k. elected_still place.0 place.1 k) (λ hint x more k. hinted_still hint x more k) (q, mails) s

  one_still : Still (executed_one false command (r, []))
  unfolding executed_one
  one_still =
      (let effect : Effect = (applied r.group command).1 in
      let place1 : Place = announced false effect command (entered command r, []) in let s1 = announced_still effect (entered command r) [] entered_still in
      let place2 : Place = spoken false (before_of r.group.core) effect command place1 in let s2 = spoken_still effect place1.0 place1.1 s1 in
      let place3 : Place = learnt_to false (members r) (next r) command place2 in let s3 = learnt_still place2.0 place2.1 s2 in
      let place4 : Place = welcomed false (members r) place3 in let s4 = welcomed_still place3.0 place3.1 s3 in
      let place5 : Place = landed false (next r) command place4 in let s5 = landed_still place4.0 place4.1 s4 in
      let place6 : Place = left place5 in let s6 : Still place6 = leaving_kept Still (λ hint answer place k. ended_still hint answer place.0 place.1 k) place5 s5 in looked_still place6.0 place6.1 s6)

  still_work : (q : ReplicaState) (mails : List Mail) → IsStill q mails → works q ≡ []
  still_work q mails s = ap (λ l. l ++ (works_in q.backlog ++ (works_flying q.leader.flights ++ works_ready q.ready))) s.acts
      ∙ (ap (λ l. l ++ (works_flying q.leader.flights ++ works_ready q.ready)) s.backlog ∙ (ap (λ l. works_flying l ++ works_ready q.ready) s.flights ∙ ap works_ready s.ready))

  pumped_still : (q : ReplicaState) (mails : List Mail) → IsStill q mails → Rested (pumped (q, mails))
  pumped_still q mails s = by q.running refl
    where
      by : (b : Bool) → q.running ≡ b → Rested (pumped (q, mails))
      by true e = (let p = pump-stays q mails None (λ slot le. s.musts e slot) (still_work q mails s) in record { work = p.1; sends = (tt, λ name none. p.0.errands name ∙ s.sends name) })
      by false e = subst Rested (sym (idle_pump (q, mails) e)) (record { work = still_work q mails s; sends = (tt, λ name none. s.sends name) })

  executed_rests : Rested (executed false command (r, [])).0
  unfolding executed
  executed_rests =
      (let after : Place = executed_one false command (r, []) in let s = one_still in
      subst (λ (x : Executed). Rested (pumped x.0)) (sym (ready_still after after.0.ready s.ready)) (pumped_still after.0 after.1 s))

  nothing_rests : Rested (r, [])
  nothing_rests = record { work = still_work r [] start_still; sends = (tt, λ name none. refl) }

  learn_rests : (from : ℕ) (group : Draw) (slot : ℕ) → Rested (mailed from (Learn group slot command) (r, [])).0
  unfolding mailed learn_row
  learn_rests from group slot = by (nat_lt last_slot slot) (eqb slot (next r)) (nat_lt (next r) slot)
    where
      by : (b c d : Bool) → Rested (cond b (childless (r, [])) (cond c (executed false command (r, [])) (cond d (childless (r, sent r.me from (Ask (name_of r) (next r)) [])) (childless (r, []))))).0
      by true c d = nothing_rests
      by false true d = executed_rests
      by false false true = record { work = still_work r [] start_still; sends = (tt, λ name none. errands-none name r.me from (Ask (name_of r) (next r)) [] refl) }
      by false false false = nothing_rests

  -- ---- a state that is taken over

  jumped_still : (slot : ℕ) (base : Base) (sets : List (List ℕ)) (q : ReplicaState) (mails : List Mail) → IsStill q mails → IsStill (jumped slot base sets q) mails
  unfolding jumped forgotten
  jumped_still slot base sets q mails s = record { acts = s.acts; backlog = s.backlog; flights = s.flights; ready = s.ready; musts = s.musts; sends = s.sends }

  looked_up_still : (from : ℕ) (q : ReplicaState) (mails : List Mail) → IsStill q mails → Still (looked_up from (q, mails))
  unfolding looked_up
  looked_up_still from q mails s = by (is_member (members q) from)
    where
      by : (b : Bool) → Still (cond b (record q { hint = Some from }, mails) (looked (q, mails)))
      by true = hinted_still (Some from) q mails s
      by false = looked_still q mails s

  stopped_still : (from : ℕ) → Still (cond r.running (stopped (Some from) (r, [])) (r, []))
  stopped_still from = by r.running
    where
      by : (b : Bool) → Still (cond b (stopped (Some from) (r, [])) (r, []))
      by true = ended_still (Some from) (Says.NotLeader (Some from)) r [] start_still
      by false = start_still

  took_over_still : (from slot : ℕ) (base : Base) (sets : List (List ℕ)) → Still (took_over from slot base sets (r, []))
  unfolding took_over
  took_over_still from slot base sets =
      (let place : Place = cond r.running (stopped (Some from) (r, [])) (r, []) in let s = stopped_still from in
      looked_up_still from (jumped slot base sets place.0) place.1 (jumped_still slot base sets place.0 place.1 s))

  still_rests : (place : Place) → Still place → Rested place
  still_rests place s = record { work = still_work place.0 place.1 s; sends = (tt, λ name none. s.sends name) }

  install_rests : (from : ℕ) (group : Draw) (slot : ℕ) (base : Base) (sets : List (List ℕ)) → Rested (mailed from (Install group slot base sets) (r, [])).0
  unfolding mailed install_row
  install_rests from group slot base sets = by (not (eqb (length sets) (length r.sets)) || (nat_lt last_slot slot || nat_lt slot (next r)))
    where
      by : (b : Bool) → Rested (cond b (r, []) (took_over from slot base sets (r, [])))
      by true = nothing_rests
      by false = still_rests (took_over from slot base sets (r, [])) (took_over_still from slot base sets)

-- ---- a promise

module _ (from : ℕ) (ballot : Ballot) (o : Option Work) (r : ReplicaState) (unbound : IsUnbound r) (one : works r ≡ listed o) where
  counted_keep : (leader : LeaderState Command) → leader.flights ≡ r.leader.flights → leader.reports ≡ r.leader.reports → Works (listed o) [] r (pumped (record r { leader = leader }, []))
  counted_keep leader flights reports =
      (let w = pumps-keep o (record r { leader = leader }) (λ slot le. ap (λ l. must_without (names_above slot l) (chosen_value slot l)) reports ∙ unbound slot le)
      (ap (λ l. works_in r.acts ++ (works_in r.backlog ++ (works_flying l ++ works_ready r.ready))) flights ∙ one) in
      record { group = w.group; me = w.me; running = w.running; work = w.work; sends = w.sends })

  promise_keeps : (group : Draw) → Works (listed o) [] r (mailed from (Promise group ballot []) (r, [])).0
  unfolding mailed promise_row
  promise_keeps group = by (leads ballot r) (same_ballot ballot r.leader.ballot && not (is_member r.leader.promisers from))
    where
      by : (b c : Bool) → Works (listed o) [] r (cond b (pumped (record r { leader = (cond {A = Bool × LeaderState Command} c (true, record r.leader { promisers = r.leader.promisers ++ from ∷ []; reports = r.leader.reports ++ [] }) (false, r.leader)).1 }, [])) (r, []))
      by true true = counted_keep (record r.leader { promisers = r.leader.promisers ++ from ∷ []; reports = r.leader.reports ++ [] }) refl (append-nil r.leader.reports)
      by true false = counted_keep r.leader refl refl
      by false c = record { group = refl; me = refl; running = refl; work = one; sends = (tt, λ name none. refl) }

-- A promise that reports nothing leaves the one work of an order that a leader has where it is.
pub promises-keep : PromisesKeepWork
promises-keep from group ballot o r unbound one = promise_keeps from ballot o r unbound one group

-- A replica that is asked to accept or to promise, and does not stop by it, keeps its work; and one that learns an entry, or takes over a state, and has no work has none after it, also where it is elected by it. Neither sends a mail of a transaction.
pub tables-rest : TablesRest
tables-rest = record {
  accept = λ from group ballot slot command r goes. accept_rests r from group ballot slot command goes;
  prepare = λ from group ballot from_slot r goes. prepare_rests r from group ballot from_slot goes;
  nack = λ from group ballot r goes. nack_rests r from group ballot goes;
  learn = λ from group slot command r idle. learn_rests command r idle from group slot;
  install = λ from group slot base sets r idle. install_rests Noop r idle from group slot base sets;
}
