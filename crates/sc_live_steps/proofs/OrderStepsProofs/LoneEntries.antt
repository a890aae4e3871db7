-- A leader executes an entry of an order that it counted, alone.
use Rattle.std.proofs.Common.{◌≡◌, ℕ, ◌+◌, ◌≤◌, ◌-◌, ◌^◌, not, eqb, Bool, true, false, cond, List, [], ◌∷◌, ◌++◌, filter, Option, Some, None, refl, sym, ◌∙◌, ap, subst, arith}
use Rattle.std.proofs.lemmas.Bool.{eq-eqb}
use Rattle.sc_base.specs.Definitions.{client_actor, is_member, least_of}
use Rattle.sc_node_table.specs.Values.{Draw, Command, Call, Effect, Route, OrderResult, AnswerBody, Mail, MailBody, Answer, Prepare, Learn, Told}
use Rattle.sc_mail.specs.declared.bodies.AnswerBody.TheVariants as Says
use Rattle.sc_group_table.specs.machine.MachineDefinitions.{Group, applied}
use Rattle.sc_node_table.specs.NodeDefinitions.{elected, ended, stopped, open_nodes, entered, answer_of, answered_or_put_back, order_result, effect_reported, announced, learnt_to, welcomed, slot_lost, landed, left_gone, left, executed_one, executed, install_to, asked_to_promise, welcomed_all, sent, sent_others, answered, answered_all, dismissed, dismissed_all, order_reported, result_sent, order_number, pumped, ReplicaState, Place, Executed, name_of, next, members, flying, under_way, forgotten, without_slot, before_of, begun_result, result_reported, begun_reported, went_on, spoken_mails, spoken}
use Rattle.sc_node_table.specs.declared.Before.{Before}
use Rattle.sc_words.specs.declared.paxos.answers.Must.TheVariants.{Free as Open}
use Rattle.sc_words.specs.paxos.PaxosDefinitions.{must, without_flight, without_flight_at}
use Rattle.sc_group_table.specs.policy.PolicyDefinitions.{is_reported}
use Rattle.sc_law_walks.proofs.WalkLemmas.{entered_next, lost_counted, none_ready as ready_none, either_way}
use Rattle.sc_live_steps.proofs.ExecutionParts.{looking_kept}
use Rattle.sc_live_steps.specs.orders.OrderDefinitions.{Work, work_by, works_in, works_flying, works_ready, errand_by, errands_for, IsLone, RunsAlone, EntriesRunAlone}
use Rattle.sc_live_steps.proofs.OrderStepsProofs.SentErrands.{went-adds}
use Rattle.sc_live_steps.proofs.OrderStepsProofs.Errands.{errands-none, errands-all}
use Rattle.sc_live_steps.proofs.OrderStepsProofs.LoneWorkPumps.{pump-stays}

-- ---- mail that is no errand

module _ (name : Draw) where
  others_none : (me : ℕ) (nodes : List ℕ) (body : MailBody) (mails : List Mail) → ((to : ℕ) → errand_by me to body ≡ None) → errands_for name (sent_others me nodes body mails) ≡ errands_for name mails
  unfolding sent_others
  others_none me [] body mails e = refl
  others_none me (node ∷ nodes) body mails e = others_none me nodes body (cond (eqb node me) mails (sent me node body mails)) e ∙ by (eqb node me)
    where
      by : (b : Bool) → errands_for name (cond b mails (sent me node body mails)) ≡ errands_for name mails
      by true = refl
      by false = errands-none name me node body mails (e node)

  pub order_none : (me number : ℕ) (result : OrderResult) (mails : List Mail) → errands_for name (order_reported me number result mails) ≡ errands_for name mails
  unfolding order_reported
  order_none me number result mails = by (is_reported number)
    where
      by : (b : Bool) → errands_for name (cond b (result_sent me number result mails) mails) ≡ errands_for name mails
      by true = errands-none name me 0 (Told number result) mails refl
      by false = refl

  told_none : (me number : ℕ) (result : Option OrderResult) (mails : List Mail) → errands_for name (result_reported me result number mails) ≡ errands_for name mails
  told_none me number None mails = refl
  told_none me number (Some result) mails = order_none me number result mails

  pub begun_none : (me : ℕ) (before : Before) (effect : Effect) (command : Command) (mails : List Mail) → errands_for name (begun_reported me before effect command mails) ≡ errands_for name mails
  unfolding begun_reported
  begun_none me before effect command mails = told_none me _ (begun_result before.alone effect command) mails

  answered_none : (me : ℕ) (group : Draw) (answer : AnswerBody) (command : Command) (mails : List Mail) → errands_for name (answered me group answer command mails) ≡ errands_for name mails
  unfolding answered
  answered_none me group answer (Call client seq op) mails = errands-none name me (client_actor client) (Answer group seq answer) mails refl
  answered_none me group answer _ mails = refl

  pub all_answered_none : (me : ℕ) (group : Draw) (answer : AnswerBody) (commands : List Command) (mails : List Mail) → errands_for name (answered_all me group answer commands mails) ≡ errands_for name mails
  unfolding answered_all
  all_answered_none me group answer [] mails = refl
  all_answered_none me group answer (command ∷ commands) mails = all_answered_none me group answer commands (answered me group answer command mails) ∙ answered_none me group answer command mails

  dismissed_none : (me : ℕ) (group : Draw) (hint : Option ℕ) (answer : AnswerBody) (command : Command) (mails : List Mail) → errands_for name (dismissed me group hint answer command mails) ≡ errands_for name mails
  unfolding dismissed
  dismissed_none me group hint answer (Call client seq op) mails = errands-none name me (client_actor client) (Answer group seq answer) mails refl
  dismissed_none me group hint answer _ mails = order_none me _ _ mails

  pub all_dismissed_none : (me : ℕ) (group : Draw) (hint : Option ℕ) (answer : AnswerBody) (commands : List Command) (mails : List Mail) → errands_for name (dismissed_all me group hint answer commands mails) ≡ errands_for name mails
  unfolding dismissed_all
  all_dismissed_none me group hint answer [] mails = refl
  all_dismissed_none me group hint answer (command ∷ commands) mails = all_dismissed_none me group hint answer commands (dismissed me group hint answer command mails) ∙ dismissed_none me group hint answer command mails

-- a command that is a work is no call: no client gets an answer for it
not_call : (o : Option AnswerBody) (command : Command) (work : Work) (place : Place) → work_by command ≡ Some work → answered_or_put_back o command place ≡ place
unfolding answered_or_put_back
not_call o (Call client seq op) work place e = cc
not_call (Some answer) _ work place e = refl
not_call None _ work place e = refl

-- ---- the parts of an execution

module _ (command : Command) (work : Work) (r : ReplicaState) (lone : IsLone command r) (fact : work_by command ≡ Some work) where
  abbrev made : Group
  made = (applied r.group command).0

  abbrev effect : Effect
  effect = (applied r.group command).1

  abbrev goes_on : List Mail
  goes_on = went_on r.me made (before_of r.group.core) effect command []

  -- 1. what is reported, and how the transaction goes on
  effect_told : (o : Option OrderResult) (q : ReplicaState) (mails : List Mail) → ((effect_reported o command (q, mails)).0 ≡ q) × ((name : Draw) → errands_for name (effect_reported o command (q, mails)).1 ≡ errands_for name mails)
  unfolding effect_reported
  effect_told None q mails = (refl, λ name. refl)
  effect_told (Some result) q mails = (refl, λ name. order_none name q.me (order_number command) result mails)

  abbrev place1 : Place
  place1 = announced true effect command (entered command r, [])

  announced_is : (place1.0 ≡ entered command r) × ((name : Draw) → errands_for name place1.1 ≡ [])
  unfolding announced
  announced_is = subst (λ (p : Place). ((effect_reported (order_result command effect) command p).0 ≡ entered command r) × ((name : Draw) → errands_for name (effect_reported (order_result command effect) command p).1 ≡ []))
      (sym (not_call (answer_of effect) command work (entered command r, []) fact)) (effect_told (order_result command effect) (entered command r) [])

  entered_group : (entered command r).group ≡ made
  unfolding entered forgotten
  entered_group = refl

  entered_me : (entered command r).me ≡ r.me
  unfolding entered forgotten
  entered_me = refl

  -- what is sent from a place with no errand
  spoken_sends : (q : ReplicaState) (mails : List Mail) → q.group ≡ made → q.me ≡ r.me → ((name : Draw) → errands_for name mails ≡ []) → (name : Draw) → errands_for name (spoken true (before_of r.group.core) effect command (q, mails)).1 ≡ errands_for name goes_on
  unfolding spoken spoken_mails
  spoken_sends q mails g m none name =
      went-adds name q.me q.group (before_of r.group.core) effect command (begun_reported q.me (before_of r.group.core) effect command mails)
      ∙ (ap (λ l. l ++ errands_for name (went_on q.me q.group (before_of r.group.core) effect command [])) (begun_none name q.me (before_of r.group.core) effect command mails ∙ none name)
      ∙ (ap (λ x. errands_for name (went_on x q.group (before_of r.group.core) effect command [])) m ∙ ap (λ x. errands_for name (went_on r.me x (before_of r.group.core) effect command [])) g))

  spoken_state : (q : ReplicaState) (mails : List Mail) → (spoken true (before_of r.group.core) effect command (q, mails)).0 ≡ q
  unfolding spoken
  spoken_state q mails = refl

  -- 2. who learns it, and who is welcomed
  welcome_one : (node : ℕ) (q : ReplicaState) (mails : List Mail) → ((asked_to_promise node (install_to node (q, mails))).0 ≡ q) × ((name : Draw) → errands_for name (asked_to_promise node (install_to node (q, mails))).1 ≡ errands_for name mails)
  unfolding install_to
  welcome_one node q mails = by q.leader.is_first _ (λ name. errands-none name q.me node _ mails refl)
    where
      by : (b : Bool) (sent_first : List Mail) → ((name : Draw) → errands_for name sent_first ≡ errands_for name mails)
          → ((cond {A = Place} b (q, sent_first) (q, sent q.me node (Prepare (name_of q) q.leader.ballot (next q)) sent_first)).0 ≡ q)
          × ((name : Draw) → errands_for name (cond {A = Place} b (q, sent_first) (q, sent q.me node (Prepare (name_of q) q.leader.ballot (next q)) sent_first)).1 ≡ errands_for name mails)
      by true sent_first e = (refl, e)
      by false sent_first e = (refl, λ name. errands-none name q.me node (Prepare (name_of q) q.leader.ballot (next q)) sent_first refl ∙ e name)

  welcomed_same : (nodes : List ℕ) (q : ReplicaState) (mails : List Mail) → ((welcomed_all nodes (q, mails)).0 ≡ q) × ((name : Draw) → errands_for name (welcomed_all nodes (q, mails)).1 ≡ errands_for name mails)
  unfolding welcomed_all
  welcomed_same [] q mails = (refl, λ name. refl)
  welcomed_same (node ∷ nodes) q mails =
      (let one = welcome_one node q mails in let after : Place = asked_to_promise node (install_to node (q, mails)) in let rest = welcomed_same nodes after.0 after.1 in
      (rest.0 ∙ one.0, λ name. rest.1 name ∙ one.1 name))

  abbrev place2 : Place
  place2 = spoken true (before_of r.group.core) effect command place1

  abbrev place3 : Place
  place3 = learnt_to true (members r) (next r) command place2

  abbrev place4 : Place
  place4 = welcomed true (members r) place3

  learnt_is : (q : ReplicaState) (mails : List Mail) → ((learnt_to true (members r) (next r) command (q, mails)).0 ≡ q) × ((name : Draw) → errands_for name (learnt_to true (members r) (next r) command (q, mails)).1 ≡ errands_for name mails)
  unfolding learnt_to
  learnt_is q mails = (refl, λ name. others_none name q.me (members r) (Learn (name_of q) (next r) command) mails (λ to. refl))

  welcomed_is : (q : ReplicaState) (mails : List Mail) → ((welcomed true (members r) (q, mails)).0 ≡ q) × ((name : Draw) → errands_for name (welcomed true (members r) (q, mails)).1 ≡ errands_for name mails)
  unfolding welcomed
  welcomed_is q mails = welcomed_same (filter (λ node. not (is_member (members r) node)) (members q)) q mails

  state4 : place4.0 ≡ entered command r
  state4 = (welcomed_is place3.0 place3.1).0 ∙ ((learnt_is place2.0 place2.1).0 ∙ (spoken_state place1.0 place1.1 ∙ announced_is.0))

  sends4 : (name : Draw) → errands_for name place4.1 ≡ errands_for name goes_on
  sends4 name = (welcomed_is place3.0 place3.1).1 name ∙ ((learnt_is place2.0 place2.1).1 name
      ∙ spoken_sends place1.0 place1.1 (ap (λ (q : ReplicaState). q.group) announced_is.0 ∙ entered_group) (ap (λ (q : ReplicaState). q.me) announced_is.0 ∙ entered_me) announced_is.1 name)

  -- the replica after the entry is over: its group is that after it, its queues have no work, nothing is in flight or ready, and nothing binds it; the errands are sent
  record IsDone (q : ReplicaState) (mails : List Mail) : Type 0 where
    pub group : q.group ≡ made
    pub me : q.me ≡ r.me
    pub next_is : next q ≡ next r + 1
    pub acts : works_in q.acts ≡ []
    pub backlog : works_in q.backlog ≡ []
    pub flights : q.leader.flights ≡ []
    pub ready : q.ready ≡ []
    pub musts : (slot : ℕ) → next r ≤ slot → must slot q.leader ≡ Open
    pub sends : (name : Draw) → errands_for name mails ≡ errands_for name goes_on

  -- the leader leads on where it stays a member of a group that stands
  abbrev IsDoneAt : Place → Type 0
  IsDoneAt place = IsDone place.0 place.1 × (made.core.gone ≡ None → is_member made.core.members r.me ≡ true → place.0.running ≡ true)

  abbrev over : ReplicaState
  over = record (entered command r) { leader = without_flight_at (next r) (entered command r).leader; ready = without_slot (entered command r).ready (next r) }

  over_flights : over.leader.flights ≡ []
  unfolding entered forgotten
  over_flights = ap (without_flight (next r)) lone.flights

  over_ready : over.ready ≡ []
  unfolding entered forgotten
  over_ready = ap (λ l. without_slot l (next r)) lone.ready ∙ ap (λ b. cond b [] ((next r, command) ∷ [])) (eq-eqb (next r) (next r) refl)

  over_done : (mails : List Mail) → ((name : Draw) → errands_for name mails ≡ errands_for name goes_on) → IsDoneAt (over, mails)
  unfolding entered forgotten
  over_done mails sends = (
    record {
      group = refl;
      me = refl;
      next_is = entered_next command r;
      acts = lone.acts;
      backlog = lone.backlog;
      flights = over_flights;
      ready = over_ready;
      musts = lone.unbound;
      sends = sends;
    },
    λ stands member. lone.running,
  )

  landed_done : (q : ReplicaState) (mails : List Mail) → q ≡ entered command r → ((name : Draw) → errands_for name mails ≡ errands_for name goes_on) → IsDoneAt (landed true (next r) command (q, mails))
  unfolding landed
  landed_done q mails e sends = subst (λ (x : ReplicaState). IsDoneAt (slot_lost true command (flying x (next r)) (record x { leader = without_flight_at (next r) x.leader; ready = without_slot x.ready (next r) }), mails)) (sym e)
      (subst (λ (x : ReplicaState). IsDoneAt (x, mails)) (sym (lost_counted command (flying (entered command r) (next r)) over)) (over_done mails sends))

  -- 5. it ends where the group is gone, and stops where this node is no member
  ended_done : (hint : Option ℕ) (answer : AnswerBody) (q : ReplicaState) (mails : List Mail) → IsDone q mails → IsDone (ended hint answer (q, mails)).0 (ended hint answer (q, mails)).1
  unfolding ended
  ended_done hint answer q mails d = record {
    group = d.group;
    me = d.me;
    next_is = d.next_is;
    acts = refl;
    backlog = refl;
    flights = refl;
    ready = refl;
    musts = λ slot le. refl;
    sends = λ name. all_dismissed_none name q.me (name_of q) hint answer q.backlog (answered_all q.me (name_of q) answer (under_way q) mails)
        ∙ (all_answered_none name q.me (name_of q) answer (under_way q) mails ∙ d.sends name);
  }

  gone_done : (gone : Option Route) (q : ReplicaState) (mails : List Mail) → q.group.core.gone ≡ gone → IsDoneAt (q, mails) → IsDoneAt (left_gone gone (q, mails))
  gone_done (Some into) q mails e d = (ended_done None (Says.Gone into) q mails d.0, λ stands member. (let f : Some into ≡ None = sym e ∙ (ap (λ (g : Group). g.core.gone) d.0.group ∙ stands) in absurd cc))
  gone_done None q mails e d = by (is_member (members q) q.me) refl
    where
      same : is_member (members q) q.me ≡ is_member made.core.members r.me
      same = ap (λ (g : Group). is_member g.core.members q.me) d.0.group ∙ ap (is_member made.core.members) d.0.me

      by : (b : Bool) → is_member (members q) q.me ≡ b → IsDoneAt (cond b (q, mails) (stopped (Some (least_of (members q))) (q, mails)))
      by true m = d
      by false m = (ended_done (Some (least_of (members q))) (Says.NotLeader (Some (least_of (members q)))) q mails d.0, λ stands member. (let f : false ≡ true = sym m ∙ (same ∙ member) in absurd cc))

  left_done : (q : ReplicaState) (mails : List Mail) → IsDoneAt (q, mails) → IsDoneAt (left (q, mails))
  unfolding left
  left_done q mails d = either_way IsDoneAt q.running (left_gone q.group.core.gone (q, mails)) (q, mails) (gone_done q.group.core.gone q mails refl d) d

  -- 6. one that does not run looks for a leader
  hinted_done : (hint : Option ℕ) (q : ReplicaState) (mails : List Mail) → IsDoneAt (q, mails) → IsDoneAt (record q { hint = hint }, mails)
  hinted_done hint q mails d = (record { group = d.0.group; me = d.0.me; next_is = d.0.next_is; acts = d.0.acts; backlog = d.0.backlog; flights = d.0.flights; ready = d.0.ready; musts = d.0.musts; sends = d.0.sends }, d.1)

  elected_done : (q : ReplicaState) (mails : List Mail) → IsDoneAt (q, mails) → IsDoneAt (elected (q, mails))
  unfolding elected
  elected_done q mails d = either_way IsDoneAt (eqb q.top.round (2 ^ 32 - 1)) (q, mails) _ d (
    record {
      group = d.0.group;
      me = d.0.me;
      next_is = d.0.next_is;
      acts = d.0.acts;
      backlog = d.0.backlog;
      flights = refl;
      ready = refl;
      musts = λ slot le. refl;
      sends = λ name. errands-all name q.me (open_nodes q.sets) (Prepare (name_of q) (record { round = q.top.round + 1; node = q.me }) (next q)) mails (λ to. refl) ∙ d.0.sends name;
    },
    λ stands member. refl,
  )

  one_done : IsDoneAt (executed_one true command (r, []))
  unfolding executed_one
  one_done =
      (let place5 : Place = landed true (next r) command place4 in
      let d5 = landed_done place4.0 place4.1 state4 sends4 in let place6 : Place = left place5 in let d6 = left_done place5.0 place5.1 d5 in looking_kept IsDoneAt (λ place d. elected_done place.0 place.1 d) (λ hint q mails d. hinted_done hint q mails d) place6 d6)

  pub runs-alone : RunsAlone command r (executed true command (r, [])).0
  unfolding executed
  runs-alone =
      (let after : Place = executed_one true command (r, []) in let d = one_done in
      let p = pump-stays after.0 after.1 None (λ slot le. d.0.musts slot (let n = d.0.next_is in omega (arith, le, n)))
      (ap (λ l. l ++ (works_in after.0.backlog ++ (works_flying after.0.leader.flights ++ works_ready after.0.ready))) d.0.acts
      ∙ (ap (λ l. l ++ (works_flying after.0.leader.flights ++ works_ready after.0.ready)) d.0.backlog ∙ (ap (λ l. works_flying l ++ works_ready after.0.ready) d.0.flights ∙ ap works_ready d.0.ready))) in
      subst (λ (x : Executed). RunsAlone command r (pumped x.0)) (sym (ready_none after after.0.ready d.0.ready)) (record {
        group = p.0.group ∙ d.0.group;
        me = p.0.me ∙ d.0.me;
        work = p.1;
        sends = λ name. p.0.errands name ∙ d.0.sends name;
        leads = λ stands member. p.0.running ∙ d.1 stands member;
      }))

-- A leader that executes an entry of an order, alone, has no work then, and sends the errands by which the transaction goes on, and no others.
pub entries-run-alone : EntriesRunAlone
entries-run-alone command work r lone fact = runs-alone command work r lone fact
