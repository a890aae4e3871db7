-- What a replica has in flight and ready stays from its next slot on by each row of its table.
use Rattle.std.proofs.Common.{◌≡◌, ℕ, ◌-◌, ◌≤◌, ◌&&◌, ◌||◌, not, nat_le, nat_lt, eqb, refl, Bool, true, false, true≢false, cond, List, [], ◌∷◌, ◌++◌, length, Option, Some, None, sym, ◌∙◌, ap, subst}
use Rattle.std.specs.Prelude.{is_some}
use Rattle.std.proofs.lemmas.Bool.{cond_both, eqb-false}
use Rattle.sc_base.specs.Definitions.{Drawer, next_name, same_ballot, is_member, is_majority}
use Rattle.sc_node_table.specs.Values.{Mail, Ballot, Draw, Command, GiveUp, Base, Lock, Free, Coordinating, Promised, Watching, OrderLine, OrderRefusal, MailBody, Prepare, Promise, Accept, Accepted, Nack, Learn, Ask, Install, Report, PrepareAnswer, AcceptAnswer, Counted, Chosen, NotYet, Flight}
use Rattle.sc_mail.specs.declared.bodies.AnswerBody.TheVariants as Says
use Rattle.sc_words.specs.declared.paxos.answers.PrepareAnswer.TheVariants as Prepared
use Rattle.sc_words.specs.declared.paxos.answers.AcceptAnswer.TheVariants as Asked
use Rattle.sc_words.specs.paxos.PaxosDefinitions.{prepared, accepted as accepted_by, AcceptorState, LeaderState, promise_counted, flight_at, without_flight_at, entry_at, vote_at, voters_after, kept_voters, with_voters}
use Rattle.sc_node_table.specs.NodeDefinitions.{with_act, has_act, stopped, saw, executed, has_room, named, jumped, ordered_command, untaken, ordered_row, wished_line, with_command, with_line, wishing, pumped, patience, one_tick_more, waited_in, reminded, ReplicaState, Place, Executed, childless, next, members, settled, is_idle, set_at, last_slot, forgotten, born_replica, installed_replica, learn_row, ask_row, looked_up, took_over, install_row, made_by, asked_again, last_entry_sent, tick_row, mailed, slots_ahead, at_slot, with_slot, hinted, promise_to, prepare_row, accepted_to, took, accept_row, leads, promise_row, readied, vote_tallied, voted, accepted_row, nack_row}
use Rattle.sc_law_walks.proofs.WalkLemmas.{promised_place, asked_place, either_way, leads_on, ended_off, Talk, grows}
use Rattle.sc_live_journals.specs.groups.GroupDefinitions.{FlyFrom, WaitFrom, HasFrom, IsSlotKept}
use Rattle.sc_live_journals.proofs.GroupsProofs.SlotLists.{fly_without, fly_polled, flies_from, wait_in, in_other}
use Rattle.sc_live_journals.proofs.RowsProofs.StillReplicas as beside
use Rattle.sc_live_journals.proofs.GroupsProofs.SlotParts.{K, KAfter, off_done, empty_done, pumps, ends, self_election, sees, sends, looks, executed_well}
use Rattle.sc_law_walks.proofs.WalkLemmas.{promise_flights}

no_room : (b c : Bool) (o : Option Command) → c ≡ false → cond (b && c) o None ≡ None
no_room true true o e = absurd (true≢false e)
no_room true false o e = refl
no_room false c o e = refl

module _ (me : ℕ) where
  -- ---- mail that neither asks an acceptor nor teaches a replica, and orders

  pumps_after : (r : ReplicaState) (mails : List Mail) (acts backlog : List Command) → K (r, mails) → K (pumped (record r { acts = acts; backlog = backlog }, mails))
  pumps_after r mails acts backlog k = pumps (record r { acts = acts; backlog = backlog }, mails) k

  any_talk : (r : ReplicaState) → Talk r.me (λ mails. K (r, mails))
  any_talk r = grows r.me (λ mails. K (r, mails)) (λ mails mail k. k)

  pub order_well : (drawer : Drawer) (line : OrderLine) (place : Place) → K place → K (ordered_row drawer line place)
  order_well drawer line place k = beside.order_keeps K pumps_after any_talk drawer line place k

  -- ---- promises and votes

  hinted_well : (ballot : Ballot) (r : ReplicaState) → IsSlotKept r → IsSlotKept (hinted ballot r)
  hinted_well ballot r k = either_way IsSlotKept r.running r (record r { hint = Some ballot.node }) k k

  promise_well : (from : ℕ) (ballot : Ballot) (p : PrepareAnswer Command × AcceptorState Command) (place : Place) → K place → K (promise_to from ballot p place)
  promise_well from ballot (Prepared.Promise reports, acceptor) (r, mails) k = hinted_well ballot (record r { acceptor = acceptor }) k
  promise_well from ballot (Prepared.Ignored was, acceptor) (r, mails) k = k

  prepare_well : (from : ℕ) (ballot : Ballot) (from_slot : ℕ) (place : Place) → K place → K (prepare_row from ballot from_slot place)
  unfolding prepare_row
  prepare_well from ballot from_slot place k =
      let seen : Place = saw ballot place in
      let q : K seen = sees ballot place k in
      promised_place K from ballot from_slot seen (sends from seen q) (promise_well from ballot (prepared ballot from_slot seen.0.acceptor) seen q)

  accepted_to_well : (from : ℕ) (ballot : Ballot) (slot : ℕ) (p : AcceptAnswer × AcceptorState Command) (place : Place) → K place → K (accepted_to from ballot slot p place)
  accepted_to_well from ballot slot (Asked.Accepted, acceptor) (r, mails) k = hinted_well ballot (record r { acceptor = acceptor }) k
  accepted_to_well from ballot slot (Asked.Ignored was, acceptor) (r, mails) k = k

  took_well : (from : ℕ) (report : Report Command) (place : Place) → K place → K (took from report place)
  unfolding took
  took_well from report (r, mails) k =
      either_way K (nat_le report.slot r.acceptor.floor) _ _ (sends from (r, mails) k) (accepted_to_well from report.ballot report.slot (accepted_by report r.acceptor) (r, mails) k)

  accept_well : (from : ℕ) (ballot : Ballot) (slot : ℕ) (command : Command) (place : Place) → K place → K (accept_row from ballot slot command place)
  unfolding accept_row
  accept_well from ballot slot command place k = took_well from (record { slot = slot; ballot = ballot; value = command }) (saw ballot place) (sees ballot place k)

  -- what a leader counts leaves all in flight at its slots
  with_leader : (r : ReplicaState) (l : LeaderState Command) → FlyFrom (next r) l.flights → r.running ≡ true → IsSlotKept r → IsSlotKept (record r { leader = l })
  with_leader r l fly on k = ((fly, k.0.1, λ off. absurd (true≢false (sym on ∙ off))), k.1)

  promise_row_well : (from : ℕ) (ballot : Ballot) (reports : List (Report Command)) (place : Place) → K place → K (promise_row from ballot reports place)
  unfolding promise_row
  promise_row_well from ballot reports (r, mails) k =
      let leader : LeaderState Command = (promise_counted from ballot reports r.leader).1 in
      cond_both (leads ballot r) (pumped (record r { leader = leader }, mails)) (r, mails) K
      (λ t. pumps (record r { leader = leader }, mails) (with_leader r leader (subst (FlyFrom (next r)) (sym (promise_flights from ballot reports r.leader)) k.0.0) (leads_on ballot r t) k)) (λ _. k)

  readied_well : (slot : ℕ) (command : Command) (place : Place) → next place.0 ≤ slot → place.0.running ≡ true → K place → KAfter (readied slot command place)
  unfolding readied
  readied_well slot command (r, mails) from on k = by (eqb slot (next r)) (has_room r) refl refl
    where
      has : HasFrom (next r) (record r { ready = with_slot r.ready slot command })
      has = (k.0.0, wait_in (next r) slot command r.ready from k.0.1, λ off. absurd (true≢false (sym on ∙ off)))

      by : (b c : Bool) → eqb slot (next r) ≡ b → has_room r ≡ c
          → KAfter (cond {A = Executed} (b && c) (executed true command (record r { ready = with_slot r.ready slot command }, mails)) (childless (record r { ready = with_slot r.ready slot command }, mails)))
      by true true e f = executed_well true command (record r { ready = with_slot r.ready slot command }, mails) has
      by true false e f = (has, no_room r.running (has_room r) (at_slot (with_slot r.ready slot command) (next r)) f)
      by false c e f = (has, ap (λ o. cond (r.running && has_room r) o None) (in_other slot (next r) command r.ready (eqb-false slot (next r) e)) ∙ k.1)

  tallied_well : (slot : ℕ) (p : Counted Command × LeaderState Command) (place : Place) → next place.0 ≤ slot → FlyFrom (next place.0) p.1.flights → place.0.running ≡ true → K place → KAfter (vote_tallied slot p place)
  tallied_well slot (Chosen command, leader) (r, mails) from fly on k = readied_well slot command (record r { leader = leader }, mails) from on (with_leader r leader fly on k)
  tallied_well slot (NotYet count, leader) (r, mails) from fly on k = with_leader r leader fly on k

  -- a vote counts for what is in flight
  vote_at_well : (from slot : ℕ) (set : List ℕ) (o : Option (Flight Command)) (place : Place) → flight_at slot place.0.leader.flights ≡ o → place.0.running ≡ true → K place → KAfter (vote_tallied slot (vote_at from slot set o place.0.leader) place)
  vote_at_well from slot set None (r, mails) e on k = k
  vote_at_well from slot set (Some flight) (r, mails) e on k =
      either_way (λ (p : Counted Command × LeaderState Command). KAfter (vote_tallied slot p (r, mails))) (is_majority set (kept_voters (voters_after set from flight.voters))) _ _
      (tallied_well slot (Chosen flight.value, without_flight_at slot r.leader) (r, mails) (flies_from (next r) slot r.leader.flights flight k.0.0.0 e) (fly_without (next r) slot r.leader.flights k.0.0) on k)
      (with_leader r (record r.leader { flights = with_voters slot (voters_after set from flight.voters) r.leader.flights }) (fly_polled (next r) slot (voters_after set from flight.voters) r.leader.flights k.0.0) on k)

  voted_well : (from : ℕ) (ballot : Ballot) (slot : ℕ) (set : Option (List ℕ)) (place : Place) → place.0.running ≡ true → K place → KAfter (voted from ballot slot set place)
  voted_well from ballot slot None place on k = k
  voted_well from ballot slot (Some set) (r, mails) on k =
      either_way (λ (p : Counted Command × LeaderState Command). KAfter (vote_tallied slot p (r, mails))) (same_ballot ballot r.leader.ballot) _ _
      (vote_at_well from slot set (flight_at slot r.leader.flights) (r, mails) refl on k) k

  accepted_well : (from : ℕ) (ballot : Ballot) (slot : ℕ) (place : Place) → K place → KAfter (accepted_row from ballot slot place)
  unfolding accepted_row
  accepted_well from ballot slot (r, mails) k = cond_both (leads ballot r) (voted from ballot slot (set_at slot r) (r, mails)) (childless (r, mails)) KAfter (λ t. voted_well from ballot slot (set_at slot r) (r, mails) (leads_on ballot r t) k) (λ _. k)

  nack_well : (ballot : Ballot) (place : Place) → K place → K (nack_row ballot place)
  unfolding nack_row
  nack_well ballot place k = sees ballot place k

  -- ---- Learn, Ask and Install

  learn_well : (from slot : ℕ) (command : Command) (place : Place) → K place → KAfter (learn_row from slot command place)
  unfolding learn_row
  learn_well from slot command (r, mails) k =
      either_way KAfter (nat_lt last_slot slot) _ _ k (either_way KAfter (eqb slot (next r)) _ _ (executed_well false command (r, mails) k.0) (either_way KAfter (nat_lt (next r) slot) _ _ k k))

  ask_well : (from slot : ℕ) (place : Place) → K place → K (ask_row from slot place)
  ask_well from slot (r, mails) k = asked_place K from slot (r, mails) k (sends from (r, mails) k) k

  looked_up_well : (from : ℕ) (place : Place) → K place → K (looked_up from place)
  unfolding looked_up
  looked_up_well from (r, mails) k = either_way K (is_member (members r) from) _ _ k (looks (r, mails) k)

  -- one that does not run has nothing in flight or ready, wherever it is
  still_kept : (n : ℕ) (r : ReplicaState) → r.leader.flights ≡ [] → r.ready ≡ [] → HasFrom n r
  still_kept n r flights ready = (subst (FlyFrom n) (sym flights) (tt, tt), subst (WaitFrom n) (sym ready) (tt, tt), λ off. (flights, ready))

  jumped_rest : (slot : ℕ) (base : Base) (sets : List (List ℕ)) (r : ReplicaState) → ((jumped slot base sets r).running ≡ r.running) × ((jumped slot base sets r).leader ≡ r.leader) × ((jumped slot base sets r).ready ≡ r.ready)
  unfolding jumped forgotten
  jumped_rest slot base sets r = (refl, refl, refl)

  -- the state of a later slot
  jumped_well : (slot : ℕ) (base : Base) (sets : List (List ℕ)) (r : ReplicaState) → r.running ≡ false → IsSlotKept r → IsSlotKept (jumped slot base sets r)
  jumped_well slot base sets r off k =
      let same = jumped_rest slot base sets r in
      let none = k.0.2 off in
      (still_kept (next (jumped slot base sets r)) (jumped slot base sets r) (ap (λ l. l.flights) same.1 ∙ none.0) (same.2 ∙ none.1), off_done (jumped slot base sets r) (same.0 ∙ off))

  over_well : (from slot : ℕ) (base : Base) (sets : List (List ℕ)) (place : Place) → K place → K (took_over from slot base sets place)
  unfolding took_over
  over_well from slot base sets (r, mails) k =
      let place1 : Place = cond r.running (stopped (Some from) (r, mails)) (r, mails) in
      let k1 : K place1 × (place1.0.running ≡ false) =
      cond_both r.running (stopped (Some from) (r, mails)) (r, mails) (λ (p : Place). K p × (p.0.running ≡ false))
      (λ _. (ends (Some from) (Says.NotLeader (Some from)) (r, mails) k, ended_off (Some from) (Says.NotLeader (Some from)) r mails)) (λ off. (k, off)) in
      looked_up_well from (jumped slot base sets place1.0, place1.1) (jumped_well slot base sets place1.0 k1.1 k1.0)

  install_well : (from slot : ℕ) (base : Base) (sets : List (List ℕ)) (place : Place) → K place → K (install_row from slot base sets place)
  unfolding install_row
  install_well from slot base sets (r, mails) k = either_way K (not (eqb (length sets) (length r.sets)) || (nat_lt last_slot slot || nat_lt slot (next r))) (r, mails) (took_over from slot base sets (r, mails)) k (over_well from slot base sets (r, mails) k)

  -- ---- a tick

  waited_well : (lock : Lock) (r : ReplicaState) → IsSlotKept r → IsSlotKept (waited_in lock r)
  waited_well Free r k = k
  waited_well (Promised tx offer) r k = k
  waited_well (Watching tx watch) r k = k
  waited_well (Coordinating tx body order heard) r k =
      let more : ReplicaState = record r { waits = one_tick_more r.waits } in
      either_way (λ (x : ReplicaState). IsSlotKept x) (nat_le patience more.waits) (with_act (GiveUp tx) more) more
      (either_way (λ (x : ReplicaState). IsSlotKept x) (has_act (GiveUp tx) more) more (record more { acts = more.acts ++ GiveUp tx ∷ [] }) k k) k

  reminded_well : (place : Place) → K place → K (reminded place)
  unfolding reminded
  reminded_well (r, mails) k = waited_well r.group.core.lock r k

  command_well : (o : Option OrderRefusal) (command : Command) (r : ReplicaState) → IsSlotKept r → IsSlotKept (with_command o command r)
  command_well (Some why) command r k = k
  command_well None command r k = k

  line_well : (drawer : Drawer) (o : Option OrderLine) (r : ReplicaState) → IsSlotKept r → IsSlotKept (with_line drawer o r)
  line_well drawer None r k = k
  line_well drawer (Some line) r k = command_well (untaken drawer line r) (ordered_command (next_name drawer) line.number line.order) r k

  wishing_well : (on : Bool) (drawer : Drawer) (place : Place) → K place → K (wishing on drawer place)
  unfolding wishing
  wishing_well on drawer (r, mails) k = line_well drawer (wished_line on r) r k

  reminding_well : (on : Bool) (drawer : Drawer) (place : Place) → K place → K (pumped (wishing on drawer (reminded place)))
  reminding_well on drawer place k = pumps (wishing on drawer (reminded place)) (wishing_well on drawer (reminded place) (reminded_well place k))

  pub tick_well : (on : Bool) (drawer : Drawer) (place : Place) → K place → K (tick_row on drawer place)
  unfolding tick_row
  tick_well on drawer (r, mails) k =
      either_way K (is_some r.group.core.gone || not (is_member (members r) r.me)) _ _ k
      (either_way K (not (settled r)) _ _ (self_election (r, mails) k)
      (either_way K (is_idle r) _ _ (reminding_well on drawer (r, last_entry_sent (entry_at (next r - 1) r.log) r mails) k) (reminding_well on drawer (r, asked_again r (next r) r.sets mails) k)))

  -- ---- all mail

  pub mailed_well : (from : ℕ) (body : MailBody) (place : Place) → K place → KAfter (mailed from body place)
  unfolding mailed
  mailed_well from (Prepare group ballot from_slot) place k = prepare_well from ballot from_slot place k
  mailed_well from (Promise group ballot reports) place k = promise_row_well from ballot reports place k
  mailed_well from (Accept group ballot slot command) place k = accept_well from ballot slot command place k
  mailed_well from (Accepted group ballot slot) place k = accepted_well from ballot slot place k
  mailed_well from (Nack group ballot) place k = nack_well ballot place k
  mailed_well from (Learn group slot command) place k = learn_well from slot command place k
  mailed_well from (Ask group from_slot) place k = ask_well from from_slot place k
  mailed_well from (Install group slot base sets) place k = install_well from slot base sets place k
  mailed_well from body place k = beside.beside_keeps K pumps_after any_talk from body place tt k

  -- ---- births, and a replica that is made of a state

  pub born_well : (base : Base) → IsSlotKept (born_replica slots_ahead me base)
  born_well base = (((tt, tt), (tt, tt), λ off. (refl, refl)), empty_done (born_replica slots_ahead me base) refl)

  installed_well : (slot : ℕ) (base : Base) (sets : List (List ℕ)) → IsSlotKept (installed_replica me slot base sets)
  unfolding forgotten
  installed_well slot base sets = (((tt, tt), (tt, tt), λ off. (refl, refl)), refl)

  pub made_well : (from : ℕ) (group : Draw) (slot : ℕ) (base : Base) (sets : List (List ℕ)) → K (made_by me from group slot base sets)
  unfolding made_by
  made_well from group slot base sets = looked_up_well from (installed_replica me slot (named group base) sets, []) (installed_well slot (named group base) sets)
