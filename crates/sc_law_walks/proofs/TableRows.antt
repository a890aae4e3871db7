-- What holds of any replica with its mails is kept by each row of the replica's table.
use Rattle.std.proofs.Common.{◌≡◌, ℕ, zero, suc, ◌+◌, ◌-◌, ◌≤◌, ◌&&◌, ◌||◌, not, nat_le, nat_lt, eqb, refl, Bool, true, false, true≢false, cond, List, [], ◌∷◌, ◌++◌, length, Option, Some, None, sym, ◌∙◌, subst, arith}
use Rattle.std.specs.Prelude.{is_some}
use Rattle.sc_base.specs.Definitions.{same_ballot, Drawer, next_name, is_member}
use Rattle.std.proofs.lemmas.Bool.{cond_both, and_parts, eqb-true, eq-eqb, ltb-false, ltb-true}
use Rattle.sc_node_table.specs.Values.{Ballot, Draw, Op, Offer, Watch, Command, Call, Prepared as PreparedAct, RecordVote, Finish, Watched, RecordWatch, Base, Core, Route, Order, OrderLine, OrderRefusal, Outcome, Past, Vote, AnswerBody, Mail, MailBody, Request, Answer, Prepare, Promise, Accept, Accepted, Nack, Learn, Ask, Install, TxPrepare, TxVote, TxOutcome, TxElsewhere, TxWatch, TxWatched, Told, Report, PrepareAnswer, AcceptAnswer, Counted, Chosen, NotYet}
use Rattle.sc_group_table.specs.machine.MachineDefinitions.{base_of}
use Rattle.sc_words.specs.declared.commands.orders.Order.TheVariants as An
use Rattle.sc_words.specs.declared.commands.orders.OrderRefusal.TheVariants.{NotLeader}
use Rattle.sc_words.specs.declared.commands.votes.Past.TheVariants as Cast
use Rattle.sc_words.specs.declared.commands.votes.Vote.TheVariants as Vows
use Rattle.sc_mail.specs.declared.bodies.AnswerBody.TheVariants as Says
use Rattle.sc_words.specs.declared.paxos.answers.PrepareAnswer.TheVariants as Prepared
use Rattle.sc_words.specs.declared.paxos.answers.AcceptAnswer.TheVariants as Asked
use Rattle.sc_words.specs.paxos.PaxosDefinitions.{IsAtLeast, prepared, accepted as accepted_by, AcceptorState, reports_from, may_promise, may_accept, after_promise, after_accept, LeaderState, promise_counted, entry_at, counted}
use Rattle.sc_node_table.specs.NodeDefinitions.{act_queued, ended, stopped, saw, looked, executed, has_room, named, jumped, install_to, sent, ordered_command, untaken, queued_or_refused, ordered_row, pumped, queued_number, without_request, ReplicaState, Place, childless, name_of, next, members, settled, set_at, last_slot, forgotten, may_offer, first_set, installed_replica, refused_at, queued, requested, request_row, learn_row, taught, most_taught, ask_row, looked_up, took_over, install_row, mailed, request_refusal, made_by, at_slot, with_slot, asked_next, noted_outcome, standing_vote, sent_elsewhere, offered_by, offer_row, watched_by, watch_row, awaits_vote, awaits_watch, vote_met, vote_row, watch_met, watched_row, elsewhere_row, is_bound, outcome_row, hinted, promise_to, promised, prepare_row, accepted_to, took, accept_row, leads, promise_row, readied, vote_tallied, voted, accepted_row, nack_row}
use Rattle.sc_law_walks.proofs.Places.{asked_place}
use Rattle.sc_law_walks.proofs.Ways.{either_way}
use Rattle.sc_law_walks.specs.WalkDefinitions.{IsFiledOnMail, IsOrder}
use Rattle.sc_law_walks.proofs.TableParts.{Before, After, AfterAll, seen_top, seen_acceptor, pumps, acts_pump, sees_ballot, looks, execution}
use Rattle.sc_law_walks.proofs.TableWalks.{TableWalk, AsFound, IsBroughtRequest, IsBroughtVote}

-- an order is that of a command
pub order_asked : (name : Draw) (number : ℕ) (order : Order) → IsOrder (ordered_command name number order)
order_asked name number (An.Join node group) = tt
order_asked name number _ = tt

-- an order is taken by one that runs
told_runs : (gone running offer : Bool) (why : OrderRefusal) (other : Option OrderRefusal) → cond (gone || not (running && offer)) (Some why) other ≡ None → running ≡ true
told_runs gone true offer why other e = refl
told_runs true false offer why other e = cc
told_runs false false offer why other e = cc

-- what is put at a slot is there
first_there : (slot : ℕ) (command : Command) (es : List (ℕ × Command)) → at_slot ((slot, command) ∷ es) slot ≡ Some command
first_there slot command es = cond_both (eqb slot slot) (Some command) (at_slot es slot) (λ (o : Option Command). o ≡ Some command) (λ _. refl) (λ f. absurd (true≢false (sym (eq-eqb slot slot refl) ∙ f)))

pub put_there : (es : List (ℕ × Command)) (slot : ℕ) (command : Command) → at_slot (with_slot es slot command) slot ≡ Some command
put_there [] slot command = first_there slot command []
put_there (e ∷ es) slot command =
    cond_both (eqb e.0 slot) _ _ (λ (xs : List (ℕ × Command)). at_slot xs slot ≡ Some command) (λ _. first_there slot command es)
    (λ f. either_way (λ (xs : List (ℕ × Command)). at_slot xs slot ≡ Some command) (nat_lt slot e.0) _ _ (first_there slot command (e ∷ es))
    (cond_both (eqb e.0 slot) (Some e.1) (at_slot (with_slot es slot command) slot) (λ (o : Option Command). o ≡ Some command) (λ t. absurd (true≢false (sym t ∙ f))) (λ _. put_there es slot command)))

-- what is not refused is taken by one that runs
pub taken_runs : (gone : Option Route) (core : Core) (running : Bool) (hint : Option ℕ) (op : Op) → request_refusal gone core running hint op ≡ None → running ≡ true
taken_runs (Some into) core running hint op e = cc
taken_runs None core true hint op e = refl
taken_runs None core false hint op e = cc

pub leads_on : (ballot : Ballot) (r : ReplicaState) → leads ballot r ≡ true → r.running ≡ true
leads_on ballot r t = (and_parts r.running (same_ballot ballot r.leader.ballot) t).0

-- ---- one that stops for a state that it takes over

pub ended_off : (hint : Option ℕ) (answer : AnswerBody) (r : ReplicaState) (mails : List Mail) → (ended hint answer (r, mails)).0.running ≡ false
unfolding ended
ended_off hint answer r mails = refl

pub ended_next : (hint : Option ℕ) (answer : AnswerBody) (r : ReplicaState) (mails : List Mail) → next (ended hint answer (r, mails)).0 ≡ next r
unfolding ended
ended_next hint answer r mails = refl

ended_sets : (hint : Option ℕ) (answer : AnswerBody) (r : ReplicaState) (mails : List Mail) → (ended hint answer (r, mails)).0.sets ≡ r.sets
unfolding ended
ended_sets hint answer r mails = refl

pub jumped_runs : (slot : ℕ) (base : Base) (sets : List (List ℕ)) (r : ReplicaState) → (jumped slot base sets r).running ≡ r.running
unfolding jumped forgotten
jumped_runs slot base sets r = refl

installed_off : (me slot : ℕ) (base : Base) (sets : List (List ℕ)) → (installed_replica me slot base sets).running ≡ false
unfolding forgotten
installed_off me slot base sets = refl

module _ (w : TableWalk) where
  abbrev Hears : ℕ → MailBody → Type 0
  Hears from body = w.facts.Hears from body

  -- ---- Request

  queues : (o : Option ℕ) (client seq : ℕ) (op : Op) (place : Place) → queued_number place.0.backlog client ≡ o → IsBroughtRequest w.facts client seq op place.0 → Before w place → After w (queued o client seq op place)
  unfolding queued
  queues None client seq op (r, mails) e on k = pumps w (record r { backlog = r.backlog ++ Call client seq op ∷ [] }, mails) (w.states.requested client seq op r mails on e (w.states.late (r, mails) k))
  queues (Some other) client seq op (r, mails) e on k =
      cond_both (nat_le seq other) (r, mails) (pumped (record r { backlog = without_request r.backlog client ++ Call client seq op ∷ [] }, mails)) (After w) (λ _. w.states.late (r, mails) k)
      (λ f. pumps w (record r { backlog = without_request r.backlog client ++ Call client seq op ∷ [] }, mails) (w.states.requested_again client seq other op r mails on e f (w.states.late (r, mails) k)))

  requests_by : (o : Option AnswerBody) (from : ℕ) (group : Draw) (client seq : ℕ) (op : Op) (place : Place) → refused_at place.0.group.core.gone op place.0 ≡ o → Hears from (Request group client seq op) → Before w place → After w (requested o client seq op place)
  unfolding requested
  requests_by (Some answer) from group client seq op (r, mails) e h k = w.states.late (r, _) (w.says.refuses from group client seq op answer r mails h e k)
  requests_by None from group client seq op (r, mails) e h k = queues (queued_number r.backlog client) client seq op (r, mails) refl (record { runs = taken_runs r.group.core.gone r.group.core r.running r.hint op e; from = from; group = group; brought = h }) k

  requests : (from : ℕ) (group : Draw) (client seq : ℕ) (op : Op) (place : Place) → Hears from (Request group client seq op) → Before w place → After w (request_row client seq op place)
  unfolding request_row
  requests from group client seq op (r, mails) h k = requests_by (refused_at r.group.core.gone op r) from group client seq op (r, mails) refl h k

  -- ---- promises and votes

  hints : (ballot : Ballot) (r : ReplicaState) (mails : List Mail) → Before w (r, mails) → Before w (hinted ballot r, mails)
  hints ballot r mails k = cond_both r.running r (record r { hint = Some ballot.node }) (λ (x : ReplicaState). Before w (x, mails)) (λ _. k) (λ off. w.states.hinted (Some ballot.node) r mails off k)

  promises_to : (from : ℕ) (group : Draw) (ballot : Ballot) (from_slot : ℕ) (place : Place) → Hears from (Prepare group ballot from_slot) → AsFound w.facts place.0 → IsAtLeast place.0.top ballot → Before w place → Before w (promise_to from ballot (prepared ballot from_slot place.0.acceptor) place)
  promises_to from group ballot from_slot (r, mails) h found top k =
      cond_both (may_promise r.acceptor ballot) (Prepared.Promise (reports_from from_slot r.acceptor.accepted), after_promise ballot r.acceptor) (Prepared.Ignored r.acceptor.promised, r.acceptor)
      (λ (p : PrepareAnswer Command × AcceptorState Command). Before w (promise_to from ballot p (r, mails)))
      (λ t. hints ballot (record r { acceptor = after_promise ballot r.acceptor }) (sent r.me from (Promise (name_of r) ballot (reports_from from_slot r.acceptor.accepted)) mails) (w.states.promised from group ballot from_slot r mails h top t k))
      (λ no. w.says.prepare_nacked from group ballot from_slot r mails h found no k)

  promises : (from : ℕ) (group : Draw) (ballot : Ballot) (from_slot : ℕ) (place : Place) → Hears from (Prepare group ballot from_slot) → AsFound w.facts place.0 → IsAtLeast place.0.top ballot → Before w place → Before w (promised from ballot from_slot place)
  unfolding promised install_to
  promises from group ballot from_slot (r, mails) h found top k =
      cond_both (nat_le from_slot r.acceptor.floor) (install_to from (r, mails)) (promise_to from ballot (prepared ballot from_slot r.acceptor) (r, mails)) (Before w)
      (λ low. w.says.prepare_behind from group ballot from_slot r mails h found low k) (λ _. promises_to from group ballot from_slot (r, mails) h found top k)

  -- the acceptor of the replica that the row found
  seen_found : (ballot : Ballot) (place : Place) → w.facts.First place.0 → AsFound w.facts (saw ballot place).0
  seen_found ballot place first = (place.0, first, seen_acceptor ballot place)

  prepares : (from : ℕ) (group : Draw) (ballot : Ballot) (from_slot : ℕ) (place : Place) → Hears from (Prepare group ballot from_slot) → w.facts.First place.0 → Before w place → Before w (prepare_row from ballot from_slot place)
  unfolding prepare_row
  prepares from group ballot from_slot place h first k =
      promises from group ballot from_slot (saw ballot place) h (seen_found ballot place first) (seen_top ballot place) (sees_ballot w ballot place (w.hears.prepare_round from group ballot from_slot h) k)

  accepts_to : (from : ℕ) (group : Draw) (report : Report Command) (place : Place) → Hears from (Accept group report.ballot report.slot report.value) → AsFound w.facts place.0 → IsAtLeast place.0.top report.ballot → Before w place → Before w (accepted_to from report.ballot report.slot (accepted_by report place.0.acceptor) place)
  accepts_to from group report (r, mails) h found top k =
      cond_both (may_accept r.acceptor report.ballot) (Asked.Accepted, after_accept report r.acceptor) (Asked.Ignored r.acceptor.promised, r.acceptor)
      (λ (p : AcceptAnswer × AcceptorState Command). Before w (accepted_to from report.ballot report.slot p (r, mails)))
      (λ t. hints report.ballot (record r { acceptor = after_accept report r.acceptor }) (sent r.me from (Accepted (name_of r) report.ballot report.slot) mails) (w.states.accepted from group report r mails h top t k))
      (λ no. w.says.accept_nacked from group report r mails h found no k)

  takes : (from : ℕ) (group : Draw) (report : Report Command) (place : Place) → Hears from (Accept group report.ballot report.slot report.value) → AsFound w.facts place.0 → IsAtLeast place.0.top report.ballot → Before w place → Before w (took from report place)
  unfolding took install_to
  takes from group report (r, mails) h found top k =
      cond_both (nat_le report.slot r.acceptor.floor) (install_to from (r, mails)) (accepted_to from report.ballot report.slot (accepted_by report r.acceptor) (r, mails)) (Before w)
      (λ low. w.says.accept_behind from group report r mails h found low k) (λ _. accepts_to from group report (r, mails) h found top k)

  accepts : (from : ℕ) (group : Draw) (ballot : Ballot) (slot : ℕ) (command : Command) (place : Place) → Hears from (Accept group ballot slot command) → w.facts.First place.0 → Before w place → Before w (accept_row from ballot slot command place)
  unfolding accept_row
  accepts from group ballot slot command place h first k =
      takes from group (record { slot = slot; ballot = ballot; value = command }) (saw ballot place) h (seen_found ballot place first) (seen_top ballot place) (sees_ballot w ballot place (w.hears.accept_round from group ballot slot command h) k)

  polls_pump : (from : ℕ) (group : Draw) (ballot : Ballot) (reports : List (Report Command)) (place : Place) → Hears from (Promise group ballot reports) → Before w place → After w (promise_row from ballot reports place)
  unfolding promise_row
  polls_pump from group ballot reports (r, mails) h k =
      let after : Place = (record r { leader = (promise_counted from ballot reports r.leader).1 }, mails) in
      cond_both (leads ballot r) (pumped after) (r, mails) (After w)
      (λ t. pumps w after (w.states.late after (w.states.polled from group ballot reports r mails (leads_on ballot r t) h k))) (λ _. w.states.late (r, mails) k)

  readies : (slot : ℕ) (command : Command) (place : Place) → place.0.running ≡ true → w.facts.Entry slot command → Before w (record place.0 { ready = with_slot place.0.ready slot command }, place.1) → AfterAll w (readied slot command place)
  unfolding readied
  readies slot command (r, mails) on low k =
      let after : ReplicaState = record r { ready = with_slot r.ready slot command } in
      cond_both (eqb slot (next r) && has_room r) (executed true command (after, mails)) (childless (after, mails)) (AfterAll w)
      (λ t. (let same = eqb-true slot (next r) (and_parts (eqb slot (next r)) (has_room r) t).0 in
      execution w true command (after, mails) (on, subst (λ s. at_slot (with_slot r.ready slot command) s ≡ Some command) same (put_there r.ready slot command), subst (λ s. w.facts.Entry s command) same low) k)) (λ _. (w.states.late (after, mails) k, tt))

  tallies : (slot : ℕ) (p : Counted Command × LeaderState Command) (place : Place) → place.0.running ≡ true → ((command : Command) → p.0 ≡ Chosen command → w.facts.Entry slot command × Before w (record place.0 { leader = p.1; ready = with_slot place.0.ready slot command }, place.1))
      → ((count : ℕ) → p.0 ≡ NotYet count → Before w (record place.0 { leader = p.1 }, place.1)) → AfterAll w (vote_tallied slot p place)
  tallies slot (Chosen command, leader) (r, mails) on decides counts = (let so = decides command refl in readies slot command (record r { leader = leader }, mails) on so.0 so.1)
  tallies slot (NotYet count, leader) (r, mails) on decides counts = (w.states.late (record r { leader = leader }, mails) (counts count refl), tt)

  votes_by : (from : ℕ) (group : Draw) (ballot : Ballot) (slot : ℕ) (o : Option (List ℕ)) (place : Place) → set_at slot place.0 ≡ o → place.0.running ≡ true → Hears from (Accepted group ballot slot) → w.facts.First place.0 → Before w place → AfterAll w (voted from ballot slot o place)
  votes_by from group ballot slot None place e on h first k = (w.states.late place k, tt)
  votes_by from group ballot slot (Some set) (r, mails) e on h first k =
      let vote : IsBroughtVote w.facts from ballot slot set r = record { first = first; runs = on; group = group; brought = h; members_are = e } in
      tallies slot (counted from ballot slot set r.leader) (r, mails) on (λ command e_. w.states.chosen from group ballot slot set command r mails vote e_ h k) (λ count e_. w.states.counts from ballot slot set count r mails vote e_ k)

  votes_count : (from : ℕ) (group : Draw) (ballot : Ballot) (slot : ℕ) (place : Place) → Hears from (Accepted group ballot slot) → w.facts.First place.0 → Before w place → AfterAll w (accepted_row from ballot slot place)
  unfolding accepted_row
  votes_count from group ballot slot (r, mails) h first k =
      cond_both (leads ballot r) (voted from ballot slot (set_at slot r) (r, mails)) (childless (r, mails)) (AfterAll w) (λ t. votes_by from group ballot slot (set_at slot r) (r, mails) refl (leads_on ballot r t) h first k) (λ _. (w.states.late (r, mails) k, tt))

  nacks : (from : ℕ) (group : Draw) (ballot : Ballot) (place : Place) → Hears from (Nack group ballot) → Before w place → Before w (nack_row ballot place)
  unfolding nack_row
  nacks from group ballot place h k = sees_ballot w ballot place (w.hears.nack_round from group ballot h) k

  -- ---- Learn, Ask and Install

  learns : (from : ℕ) (group : Draw) (slot : ℕ) (command : Command) (place : Place) → Hears from (Learn group slot command) → w.facts.First place.0 → Before w place → AfterAll w (learn_row from slot command place)
  unfolding learn_row
  learns from group slot command (r, mails) h first k =
      let l : AfterAll w (childless (r, mails)) = (w.states.late (r, mails) k, tt) in
      either_way (AfterAll w) (nat_lt last_slot slot) _ _ l
      (cond_both (eqb slot (next r)) (executed false command (r, mails)) _ (AfterAll w)
      (λ t. execution w false command (r, mails) (from, group, subst (λ s. Hears from (Learn group s command)) (eqb-true slot (next r) t) h, first) k)
      (λ _. cond_both (nat_lt (next r) slot) (childless (r, sent r.me from (Ask (name_of r) (next r)) mails)) (childless (r, mails)) (AfterAll w)
      (λ t. (w.states.late (r, sent r.me from (Ask (name_of r) (next r)) mails) (w.says.wants from group slot command r mails h (ltb-true (next r) slot t) k), tt)) (λ _. l)))

  module _ (from : ℕ) (group : Draw) (asked : ℕ) (h : Hears from (Ask group asked)) where
    teaches_by : (count : ℕ) (r : ReplicaState) (slot : ℕ) (mails : List Mail) (o : Option Command) → entry_at slot r.log ≡ o → Before w (r, mails) → ((more : List Mail) → Before w (r, more) → Before w (r, taught count r from (slot + 1) more))
        → Before w (r, elim o [ None ↦ mails | Some command ↦ taught count r from (slot + 1) (sent r.me from (Learn (name_of r) slot command) mails) ])
    teaches_by count r slot mails None e m more = m
    teaches_by count r slot mails (Some command) e m more = more (sent r.me from (Learn (name_of r) slot command) mails) (w.says.recalls from group asked slot command r mails h e m)

    teaches : (count : ℕ) (r : ReplicaState) (slot : ℕ) (mails : List Mail) → Before w (r, mails) → Before w (r, taught count r from slot mails)
    unfolding taught
    teaches zero r slot mails m = m
    teaches (suc count) r slot mails m = teaches_by count r slot mails (entry_at slot r.log) refl m (λ more n. teaches count r (slot + 1) more n)

  state_sent : (node : ℕ) (r : ReplicaState) (mails : List Mail) → Before w (r, sent r.me node (Install (name_of r) (next r - 1) (base_of r.group) r.sets) mails) → Before w (install_to node (r, mails))
  unfolding install_to
  state_sent node r mails k = k

  answers_ask : (from : ℕ) (group : Draw) (slot : ℕ) (place : Place) → Hears from (Ask group slot) → Before w place → Before w (ask_row from slot place)
  answers_ask from group slot (r, mails) h k = asked_place (Before w) from slot (r, mails) k (state_sent from r mails (w.says.ask_behind from group slot r mails h k)) (teaches from group slot h most_taught r slot mails k)

  pub looks_up : (from : ℕ) (place : Place) → place.0.running ≡ false → Before w place → After w (looked_up from place)
  unfolding looked_up
  looks_up from (r, mails) off k = either_way (After w) (is_member (members r) from) (record r { hint = Some from }, mails) (looked (r, mails)) (w.states.late (record r { hint = Some from }, mails) (w.states.hinted (Some from) r mails off k)) (looks w (r, mails) k)

  takes_over : (from : ℕ) (group : Draw) (slot : ℕ) (base : Base) (sets : List (List ℕ)) (place : Place) → length sets ≡ length place.0.sets → Hears from (Install group slot base sets) → next place.0 ≤ slot → Before w place → After w (took_over from slot base sets place)
  unfolding took_over
  takes_over from group slot base sets (r, mails) many h later k =
      let place1 : Place = cond r.running (stopped (Some from) (r, mails)) (r, mails) in
      let k1 : Before w place1 × (next place1.0 ≤ slot) × (place1.0.running ≡ false) × (length sets ≡ length place1.0.sets) =
      cond_both r.running (stopped (Some from) (r, mails)) (r, mails) (λ (p : Place). Before w p × (next p.0 ≤ slot) × (p.0.running ≡ false) × (length sets ≡ length p.0.sets))
      (λ on. (
        w.states.stops (Some from) r mails on k,
        (let same = ended_next (Some from) (Says.NotLeader (Some from)) r mails in omega (arith, same, later)),
        ended_off (Some from) (Says.NotLeader (Some from)) r mails,
        subst (λ (ss : List (List ℕ)). length sets ≡ length ss) (sym (ended_sets (Some from) (Says.NotLeader (Some from)) r mails)) many,
      ))
      (λ off. (k, later, off, many)) in
      looks_up from (jumped slot base sets place1.0, place1.1) (jumped_runs slot base sets place1.0 ∙ k1.2) (w.states.jumped from group slot base sets place1.0 place1.1 h k1.3 k1.1 k1.2 k1.0)

  -- a state of a later slot, with the members of as many slots as are open
  module _ (from : ℕ) (group : Draw) (slot : ℕ) (base : Base) (sets : List (List ℕ)) where
    installs_by : (b c d : Bool) (place : Place) → eqb (length sets) (length place.0.sets) ≡ b → nat_lt slot (next place.0) ≡ c → Hears from (Install group slot base sets) → Before w place
        → After w (cond {A = Place} (not b || (d || c)) place (took_over from slot base sets place))
    installs_by false c d place e f h k = w.states.late place k
    installs_by true c true place e f h k = w.states.late place k
    installs_by true true false place e f h k = w.states.late place k
    installs_by true false false place e f h k =
        let later = ltb-false slot (next place.0) f in
        takes_over from group slot base sets place (eqb-true (length sets) (length place.0.sets) e) h (omega (arith, later)) k

  installs : (from : ℕ) (group : Draw) (slot : ℕ) (base : Base) (sets : List (List ℕ)) (place : Place) → Hears from (Install group slot base sets) → Before w place → After w (install_row from slot base sets place)
  unfolding install_row
  installs from group slot base sets (r, mails) h k = installs_by from group slot base sets (eqb (length sets) (length r.sets)) (nat_lt slot (next r)) (nat_lt last_slot slot) (r, mails) refl refl h k

  -- ---- the parties of a transaction

  offers_by : (o : Option Past) (from : ℕ) (tx : Draw) (offer : Offer) (place : Place) → standing_vote place.0.group.core tx ≡ o → Hears from (TxPrepare tx offer) → Before w place → After w (offered_by o from tx offer place)
  offers_by (Some vote) from tx offer (r, mails) e h k = w.states.late (r, _) (w.says.votes from tx offer vote r mails h e k)
  offers_by None from tx offer (r, mails) e h k =
      cond_both r.running (act_queued (PreparedAct tx offer) (r, mails)) (sent_elsewhere from tx offer.coord (r, mails)) (After w)
      (λ t. acts_pump w (PreparedAct tx offer) (r, mails) tt t (w.hears.offer_filed from tx offer h) k) (λ _. w.states.late (r, _) (w.says.offer_sent_on from tx offer r mails h k))

  offers : (from : ℕ) (tx : Draw) (offer : Offer) (place : Place) → Hears from (TxPrepare tx offer) → Before w place → After w (offer_row from tx offer place)
  unfolding offer_row
  offers from tx offer (r, mails) h k = offers_by (standing_vote r.group.core tx) from tx offer (r, mails) refl h k

  watches_by : (o : Option Past) (from : ℕ) (tx : Draw) (watch : Watch) (place : Place) → standing_vote place.0.group.core tx ≡ o → Hears from (TxWatch tx watch) → Before w place → After w (watched_by o from tx watch place)
  watches_by (Some vote) from tx watch (r, mails) e h k = w.states.late (r, _) (w.says.sees from tx watch vote r mails h e k)
  watches_by None from tx watch (r, mails) e h k =
      cond_both r.running (act_queued (Watched tx watch) (r, mails)) (sent_elsewhere from tx watch.coord (r, mails)) (After w)
      (λ t. acts_pump w (Watched tx watch) (r, mails) tt t (w.hears.watch_filed from tx watch h) k) (λ _. w.states.late (r, _) (w.says.watch_sent_on from tx watch r mails h k))

  watches : (from : ℕ) (tx : Draw) (watch : Watch) (place : Place) → Hears from (TxWatch tx watch) → Before w place → After w (watch_row from tx watch place)
  unfolding watch_row
  watches from tx watch (r, mails) h k = watches_by (standing_vote r.group.core tx) from tx watch (r, mails) refl h k

  -- a command of a transaction is filed by one that runs
  files : (act : Command) (wanted : Bool) (place : Place) → IsFiledOnMail act → w.facts.Files act → Before w place → After w (cond (place.0.running && wanted) (act_queued act place) place)
  files act wanted place filed brought k = cond_both (place.0.running && wanted) (act_queued act place) place (After w) (λ t. acts_pump w act place filed (and_parts place.0.running wanted t).0 brought k) (λ _. w.states.late place k)

  votes_met : (vote : Vote) (o : Option Outcome) (from : ℕ) (tx coord part : Draw) (place : Place) → noted_outcome place.0.group.core tx ≡ o → Hears from (TxVote tx coord part vote) → Before w place → After w (vote_met vote o from tx part place)
  votes_met (Vows.Yes frozen) (Some outcome) from tx coord part (r, mails) e h k = w.states.late (r, _) (w.says.vote_ends from tx coord part (Vows.Yes frozen) outcome r mails h e k)
  votes_met (Vows.Yes frozen) None from tx coord part (r, mails) e h k = files (RecordVote tx (Vows.Yes frozen) from) (awaits_vote r.group.core.lock tx) (r, mails) tt (w.hears.vote_filed from tx coord part (Vows.Yes frozen) h) k
  votes_met (Vows.No why) outcome from tx coord part (r, mails) e h k = files (RecordVote tx (Vows.No why) from) (awaits_vote r.group.core.lock tx) (r, mails) tt (w.hears.vote_filed from tx coord part (Vows.No why) h) k

  votes : (from : ℕ) (tx coord part : Draw) (vote : Vote) (place : Place) → Hears from (TxVote tx coord part vote) → Before w place → After w (vote_row from tx part vote place)
  unfolding vote_row
  votes from tx coord part vote (r, mails) h k = votes_met vote (noted_outcome r.group.core tx) from tx coord part (r, mails) refl h k

  watchers_met : (vote : Past) (o : Option Outcome) (from : ℕ) (tx coord part : Draw) (place : Place) → noted_outcome place.0.group.core tx ≡ o → Hears from (TxWatched tx coord part vote) → Before w place → After w (watch_met vote o from tx part place)
  watchers_met Cast.Yes (Some outcome) from tx coord part (r, mails) e h k = w.states.late (r, _) (w.says.watch_ends from tx coord part Cast.Yes outcome r mails h e k)
  watchers_met Cast.Yes None from tx coord part (r, mails) e h k = files (RecordWatch tx Cast.Yes from) (awaits_watch r.group.core.lock tx) (r, mails) tt (w.hears.watched_filed from tx coord part Cast.Yes h) k
  watchers_met (Cast.No why) outcome from tx coord part (r, mails) e h k = files (RecordWatch tx (Cast.No why) from) (awaits_watch r.group.core.lock tx) (r, mails) tt (w.hears.watched_filed from tx coord part (Cast.No why) h) k
  watchers_met Cast.Ended outcome from tx coord part (r, mails) e h k = files (RecordWatch tx Cast.Ended from) (awaits_watch r.group.core.lock tx) (r, mails) tt (w.hears.watched_filed from tx coord part Cast.Ended h) k

  watchers : (from : ℕ) (tx coord part : Draw) (vote : Past) (place : Place) → Hears from (TxWatched tx coord part vote) → Before w place → After w (watched_row from tx part vote place)
  unfolding watched_row
  watchers from tx coord part vote (r, mails) h k = watchers_met vote (noted_outcome r.group.core tx) from tx coord part (r, mails) refl h k

  asks_elsewhere : (from : ℕ) (tx coord : Draw) (hint : Option ℕ) (place : Place) → Hears from (TxElsewhere tx coord hint) → Before w place → After w (elsewhere_row from tx hint place)
  unfolding elsewhere_row
  asks_elsewhere from tx coord hint (r, mails) h k =
      either_way (After w) (settled r) (r, asked_next r.group.core.lock r.me r.group.core from tx hint mails) (r, mails) (w.states.late (r, _) (w.says.asks_next from tx coord hint r mails h k)) (w.states.late (r, mails) k)

  outcomes : (from : ℕ) (tx part : Draw) (outcome : Outcome) (place : Place) → Hears from (TxOutcome tx part outcome) → Before w place → After w (outcome_row tx outcome place)
  unfolding outcome_row
  outcomes from tx part outcome (r, mails) h k = files (Finish tx outcome) (is_bound r.group.core.lock tx) (r, mails) tt (w.hears.outcome_filed from tx part outcome h) k

  -- ---- orders

  takes_order : (o : Option OrderRefusal) (drawer : Drawer) (line : OrderLine) (command : Command) (place : Place) → w.facts.Given drawer line → untaken drawer line place.0 ≡ o → IsOrder command → (o ≡ None → (place.0.running ≡ true) × w.facts.Orders command) → Before w place → After w (queued_or_refused o line.number command place)
  takes_order (Some why) drawer line command (r, mails) given e asked on k = w.states.late (r, _) (w.says.tells drawer line why r mails given e k)
  takes_order None drawer line command (r, mails) given e asked on k = pumps w (record r { backlog = r.backlog ++ command ∷ [] }, mails) (w.states.ordered command r mails (on refl).0 asked (on refl).1 (w.states.late (r, mails) k))

  pub orders : (drawer : Drawer) (line : OrderLine) (place : Place) → w.facts.Given drawer line → (untaken drawer line place.0 ≡ None → w.facts.Orders (ordered_command (next_name drawer) line.number line.order)) → Before w place → After w (ordered_row drawer line place)
  unfolding ordered_row
  orders drawer line (r, mails) given may k =
      takes_order (untaken drawer line r) drawer line (ordered_command (next_name drawer) line.number line.order) (r, mails) given refl (order_asked (next_name drawer) line.number line.order)
      (λ e. (told_runs (is_some r.group.core.gone) r.running (may_offer r (first_set r.sets)) (NotLeader r.hint) _ e, may e)) k

  -- ---- all mail

  pub takes_mail : (from : ℕ) (body : MailBody) (place : Place) → Hears from body → w.facts.First place.0 → Before w place → AfterAll w (mailed from body place)
  unfolding mailed
  takes_mail from (Request group client seq op) place h first k = (requests from group client seq op place h k, tt)
  takes_mail from (Prepare group ballot from_slot) place h first k = (w.states.late (prepare_row from ballot from_slot place) (prepares from group ballot from_slot place h first k), tt)
  takes_mail from (Promise group ballot reports) place h first k = (polls_pump from group ballot reports place h k, tt)
  takes_mail from (Accept group ballot slot command) place h first k = (w.states.late (accept_row from ballot slot command place) (accepts from group ballot slot command place h first k), tt)
  takes_mail from (Accepted group ballot slot) place h first k = votes_count from group ballot slot place h first k
  takes_mail from (Nack group ballot) place h first k = (w.states.late (nack_row ballot place) (nacks from group ballot place h k), tt)
  takes_mail from (Learn group slot command) place h first k = learns from group slot command place h first k
  takes_mail from (Ask group from_slot) place h first k = (w.states.late (ask_row from from_slot place) (answers_ask from group from_slot place h k), tt)
  takes_mail from (Install group slot base sets) place h first k = (installs from group slot base sets place h k, tt)
  takes_mail from (Answer group seq answer) place h first k = (w.states.late place k, tt)
  takes_mail from (TxPrepare tx offer) place h first k = (offers from tx offer place h k, tt)
  takes_mail from (TxVote tx coord part vote) place h first k = (votes from tx coord part vote place h k, tt)
  takes_mail from (TxOutcome tx part outcome) place h first k = (outcomes from tx part outcome place h k, tt)
  takes_mail from (TxElsewhere tx coord hint) place h first k = (asks_elsewhere from tx coord hint place h k, tt)
  takes_mail from (TxWatch tx watch) place h first k = (watches from tx watch place h k, tt)
  takes_mail from (TxWatched tx coord part vote) place h first k = (watchers from tx coord part vote place h k, tt)
  takes_mail from (Told order result) place h first k = (w.states.late place k, tt)

  -- a replica that is made of a state
  pub makes : (me from : ℕ) (group : Draw) (slot : ℕ) (base : Base) (sets : List (List ℕ)) → Before w (installed_replica me slot (named group base) sets, []) → After w (made_by me from group slot base sets)
  unfolding made_by
  makes me from group slot base sets k = looks_up from (installed_replica me slot (named group base) sets, []) (installed_off me slot (named group base) sets) k
