-- An invariant of a replica of a group that is not reshaped is kept by each row of the replica's table.
use Rattle.std.proofs.Common.{◌≡◌, ℕ, zero, suc, ◌+◌, ◌≤◌, ◌&&◌, ◌||◌, not, nat_le, nat_lt, eqb, refl, Bool, true, false, true≢false, cond, List, [], ◌∷◌, ◌++◌, length, Option, Some, None, sym, ◌∙◌, ap, subst, arith}
use Rattle.sc_base.specs.Definitions.{is_member}
use Rattle.std.proofs.lemmas.Bool.{cond_both, and_parts, eqb-true, ltb-false, ltb-true}
use Rattle.sc_node_table.specs.Values.{Ballot, Draw, Op, Command, Call, Base, Core, AnswerBody, Mail, MailBody, Request, Answer, Prepare, Promise, Accept, Accepted, Nack, Learn, Ask, Install, Report, PrepareAnswer, AcceptAnswer, Counted, Chosen, NotYet}
use Rattle.sc_mail.specs.declared.bodies.AnswerBody.TheVariants as Says
use Rattle.sc_words.specs.declared.paxos.answers.PrepareAnswer.TheVariants as Prepared
use Rattle.sc_words.specs.declared.paxos.answers.AcceptAnswer.TheVariants as Asked
use Rattle.sc_words.specs.paxos.PaxosDefinitions.{IsAtLeast, below, prepared, accepted as accepted_by, AcceptorState, reports_from, may_promise, may_accept, after_promise, after_accept, LeaderState, promise_counted, entry_at, counted}
use Rattle.sc_node_table.specs.NodeDefinitions.{ended, stopped, saw, executed, has_room, jumped, install_to, sent, pumped, queued_number, without_request, ReplicaState, Place, Executed, childless, name_of, next, members, set_at, last_slot, forgotten, refused_at, queued, requested, request_row, learn_row, taught, most_taught, ask_row, looked_up, looked, took_over, install_row, mailed, at_slot, with_slot, promise_to, promised, prepare_row, accepted_to, took, accept_row, leads, promise_row, readied, vote_tallied, voted, accepted_row, nack_row}
use Rattle.sc_law_walks.proofs.Places.{asked_place}
use Rattle.sc_law_walks.proofs.WalkLemmas.{either_way, seen_top, put_there, leads_on, ended_off, ended_next}
use Rattle.sc_law_walks.specs.WalkDefinitions.{GoesOn}
use Rattle.sc_live_healed.proofs.FixedWalks.{FixedWalk, IsMember}
use Rattle.sc_live_healed.proofs.FixedParts.{counted_fixed}
use Rattle.sc_live_healed.proofs.FixedPumps.{pumps, execution}
use Rattle.sc_live_healed.specs.HealedDefinitions.{IsFixedCommand}

-- a ballot that is seen stops nobody any more
pub seen_on : (ballot : Ballot) (place : Place) → GoesOn ballot (saw ballot place).0
unfolding saw ended
seen_on ballot (r, mails) =
    let seen : ReplicaState = cond (below r.top ballot) (record r { top = ballot }) r in
    let same : (seen.running && below seen.leader.ballot ballot) ≡ (r.running && below r.leader.ballot ballot) = either_way (λ (x : ReplicaState). (x.running && below x.leader.ballot ballot) ≡ (r.running && below r.leader.ballot ballot)) (below r.top ballot) (record r { top = ballot }) r refl refl in
    cond_both (r.running && below r.leader.ballot ballot) (stopped (Some ballot.node) (seen, mails)) (seen, mails) (λ (p : Place). GoesOn ballot p.0) (λ _. refl) (λ f. same ∙ f)

-- the members of a state that is taken over
jumped_members : (slot : ℕ) (base : Base) (sets : List (List ℕ)) (r : ReplicaState) → members (jumped slot base sets r) ≡ base.core.members
unfolding jumped forgotten
jumped_members slot base sets r = refl

module _ (base : Base) (me : ℕ) (w : FixedWalk base me) where
  abbrev P : Place → Type 0
  P place = w.P place

  -- what a row leaves: no child is made
  abbrev pub After : Executed → Type 0
  After step = P step.0 × (step.1 ≡ [])

  abbrev Hears : ℕ → MailBody → Type 0
  Hears from body = w.Hears from body

  -- ---- Request

  queues : (o : Option ℕ) (from : ℕ) (group : Draw) (client seq : ℕ) (op : Op) (place : Place) → queued_number place.0.backlog client ≡ o → Hears from (Request group client seq op) → refused_at place.0.group.core.gone op place.0 ≡ None → P place → P (queued o client seq op place)
  unfolding queued
  queues None from group client seq op (r, mails) e h on k = pumps base me w (record r { backlog = r.backlog ++ Call client seq op ∷ [] }, mails) (w.requested from group client seq op r mails h on e k)
  queues (Some other) from group client seq op (r, mails) e h on k =
      cond_both (nat_le seq other) (r, mails) (pumped (record r { backlog = without_request r.backlog client ++ Call client seq op ∷ [] }, mails)) P (λ _. k)
      (λ f. pumps base me w (record r { backlog = without_request r.backlog client ++ Call client seq op ∷ [] }, mails) (w.requested_again from group client seq other op r mails h on e f k))

  requests_by : (o : Option AnswerBody) (from : ℕ) (group : Draw) (client seq : ℕ) (op : Op) (place : Place) → refused_at place.0.group.core.gone op place.0 ≡ o → Hears from (Request group client seq op) → P place → P (requested o client seq op place)
  unfolding requested
  requests_by (Some answer) from group client seq op (r, mails) e h k = w.refuses from group client seq op answer r mails h e k
  requests_by None from group client seq op (r, mails) e h k = queues (queued_number r.backlog client) from group client seq op (r, mails) refl h e k

  requests : (from : ℕ) (group : Draw) (client seq : ℕ) (op : Op) (place : Place) → Hears from (Request group client seq op) → P place → P (request_row client seq op place)
  unfolding request_row
  requests from group client seq op (r, mails) h k = requests_by (refused_at r.group.core.gone op r) from group client seq op (r, mails) refl h k

  -- ---- promises and votes

  pub sees_ballot : (ballot : Ballot) (place : Place) → w.Sees ballot → P place → P (saw ballot place)
  unfolding saw
  sees_ballot ballot (r, mails) good k =
      let seen : ReplicaState = cond (below r.top ballot) (record r { top = ballot }) r in
      cond_both (r.running && below r.leader.ballot ballot) (stopped (Some ballot.node) (seen, mails)) (seen, mails) P
      (λ t. (let on = and_parts r.running (below r.leader.ballot ballot) t in w.overtaken ballot r mails good on.0 on.1 k))
      (λ f. cond_both (below r.top ballot) (record r { top = ballot }) r (λ (x : ReplicaState). P (x, mails)) (λ t. w.seen ballot r mails good t f k) (λ _. k))

  state_sent : (node : ℕ) (place : Place) → IsMember base node → P place → P (install_to node place)
  unfolding install_to
  state_sent node (r, mails) m k = w.installs node r mails m k

  promises_to : (from : ℕ) (group : Draw) (ballot : Ballot) (from_slot : ℕ) (place : Place) → Hears from (Prepare group ballot from_slot) → IsMember base from → IsAtLeast place.0.top ballot → GoesOn ballot place.0 → P place → P (promise_to from ballot (prepared ballot from_slot place.0.acceptor) place)
  promises_to from group ballot from_slot (r, mails) h m top on k =
      cond_both (may_promise r.acceptor ballot) (Prepared.Promise (reports_from from_slot r.acceptor.accepted), after_promise ballot r.acceptor) (Prepared.Ignored r.acceptor.promised, r.acceptor)
      (λ (p : PrepareAnswer Command × AcceptorState Command). P (promise_to from ballot p (r, mails)))
      (λ t. w.promised from group ballot from_slot r mails h top on t k) (λ no. w.nacks from r mails m k)

  promises : (from : ℕ) (group : Draw) (ballot : Ballot) (from_slot : ℕ) (place : Place) → Hears from (Prepare group ballot from_slot) → IsMember base from → IsAtLeast place.0.top ballot → GoesOn ballot place.0 → P place → P (promised from ballot from_slot place)
  unfolding promised
  promises from group ballot from_slot (r, mails) h m top on k =
      cond_both (nat_le from_slot r.acceptor.floor) (install_to from (r, mails)) (promise_to from ballot (prepared ballot from_slot r.acceptor) (r, mails)) P
      (λ low. state_sent from (r, mails) m k) (λ _. promises_to from group ballot from_slot (r, mails) h m top on k)

  prepares : (from : ℕ) (group : Draw) (ballot : Ballot) (from_slot : ℕ) (place : Place) → Hears from (Prepare group ballot from_slot) → P place → P (prepare_row from ballot from_slot place)
  unfolding prepare_row
  prepares from group ballot from_slot place h k =
      promises from group ballot from_slot (saw ballot place) h (w.heard from (Prepare group ballot from_slot) h).1.0 (seen_top ballot place) (seen_on ballot place) (sees_ballot ballot place (w.prepare_seen from group ballot from_slot h) k)

  accepts_to : (from : ℕ) (group : Draw) (report : Report Command) (place : Place) → Hears from (Accept group report.ballot report.slot report.value) → IsMember base from → IsAtLeast place.0.top report.ballot → GoesOn report.ballot place.0 → P place → P (accepted_to from report.ballot report.slot (accepted_by report place.0.acceptor) place)
  accepts_to from group report (r, mails) h m top on k =
      cond_both (may_accept r.acceptor report.ballot) (Asked.Accepted, after_accept report r.acceptor) (Asked.Ignored r.acceptor.promised, r.acceptor)
      (λ (p : AcceptAnswer × AcceptorState Command). P (accepted_to from report.ballot report.slot p (r, mails)))
      (λ t. w.accepted from group report r mails h top on t k) (λ no. w.nacks from r mails m k)

  takes : (from : ℕ) (group : Draw) (report : Report Command) (place : Place) → Hears from (Accept group report.ballot report.slot report.value) → IsMember base from → IsAtLeast place.0.top report.ballot → GoesOn report.ballot place.0 → P place → P (took from report place)
  unfolding took
  takes from group report (r, mails) h m top on k =
      cond_both (nat_le report.slot r.acceptor.floor) (install_to from (r, mails)) (accepted_to from report.ballot report.slot (accepted_by report r.acceptor) (r, mails)) P
      (λ low. state_sent from (r, mails) m k) (λ _. accepts_to from group report (r, mails) h m top on k)

  accepts : (from : ℕ) (group : Draw) (ballot : Ballot) (slot : ℕ) (command : Command) (place : Place) → Hears from (Accept group ballot slot command) → P place → P (accept_row from ballot slot command place)
  unfolding accept_row
  accepts from group ballot slot command place h k =
      takes from group (record { slot = slot; ballot = ballot; value = command }) (saw ballot place) h (w.heard from (Accept group ballot slot command) h).1.0 (seen_top ballot place) (seen_on ballot place) (sees_ballot ballot place (w.accept_seen from group ballot slot command h) k)

  polls_pump : (from : ℕ) (group : Draw) (ballot : Ballot) (reports : List (Report Command)) (place : Place) → Hears from (Promise group ballot reports) → P place → P (promise_row from ballot reports place)
  unfolding promise_row
  polls_pump from group ballot reports (r, mails) h k =
      let after : Place = (record r { leader = (promise_counted from ballot reports r.leader).1 }, mails) in
      cond_both (leads ballot r) (pumped after) (r, mails) P (λ t. pumps base me w after (w.polled from group ballot reports r mails (leads_on ballot r t) h k)) (λ _. k)

  readies : (slot : ℕ) (command : Command) (place : Place) → place.0.running ≡ true → IsFixedCommand base command → P (record place.0 { ready = with_slot place.0.ready slot command }, place.1) → After (readied slot command place)
  unfolding readied
  readies slot command (r, mails) on f k =
      let after : ReplicaState = record r { ready = with_slot r.ready slot command } in
      cond_both (eqb slot (next r) && has_room r) (executed true command (after, mails)) (childless (after, mails)) After
      (λ t. (let same = eqb-true slot (next r) (and_parts (eqb slot (next r)) (has_room r) t).0 in
      execution base me w true command (after, mails) f (w.counted_entry command after mails on (subst (λ s. at_slot (with_slot r.ready slot command) s ≡ Some command) same (put_there r.ready slot command)) k))) (λ _. (k, refl))

  tallies : (slot : ℕ) (p : Counted Command × LeaderState Command) (place : Place) → place.0.running ≡ true → ((command : Command) → p.0 ≡ Chosen command → IsFixedCommand base command × P (record place.0 { leader = p.1; ready = with_slot place.0.ready slot command }, place.1))
      → ((count : ℕ) → p.0 ≡ NotYet count → P (record place.0 { leader = p.1 }, place.1)) → After (vote_tallied slot p place)
  tallies slot (Chosen command, leader) (r, mails) on decides counts = (let so = decides command refl in readies slot command (record r { leader = leader }, mails) on so.0 so.1)
  tallies slot (NotYet count, leader) (r, mails) on decides counts = (counts count refl, refl)

  votes_by : (from : ℕ) (group : Draw) (ballot : Ballot) (slot : ℕ) (set : Option (List ℕ)) (place : Place) → place.0.running ≡ true → Hears from (Accepted group ballot slot) → P place → After (voted from ballot slot set place)
  votes_by from group ballot slot None place on h k = (k, refl)
  votes_by from group ballot slot (Some set) (r, mails) on h k =
      tallies slot (counted from ballot slot set r.leader) (r, mails) on (λ command e. ((counted_fixed base from ballot slot set r.leader (w.frame (r, mails) k).fixed.flights).chosen command e, w.chosen from group ballot slot set command r mails on h e k)) (λ count e. w.counts from group ballot slot set count r mails on h e k)

  votes_count : (from : ℕ) (group : Draw) (ballot : Ballot) (slot : ℕ) (place : Place) → Hears from (Accepted group ballot slot) → P place → After (accepted_row from ballot slot place)
  unfolding accepted_row
  votes_count from group ballot slot (r, mails) h k =
      cond_both (leads ballot r) (voted from ballot slot (set_at slot r) (r, mails)) (childless (r, mails)) After (λ t. votes_by from group ballot slot (set_at slot r) (r, mails) (leads_on ballot r t) h k) (λ _. (k, refl))

  nacks : (from : ℕ) (group : Draw) (ballot : Ballot) (place : Place) → Hears from (Nack group ballot) → P place → P (nack_row ballot place)
  unfolding nack_row
  nacks from group ballot place h k = sees_ballot ballot place (w.nack_seen from group ballot h) k

  -- ---- Learn, Ask and Install

  learns : (from : ℕ) (group : Draw) (slot : ℕ) (command : Command) (place : Place) → Hears from (Learn group slot command) → w.First place.0 → P place → After (learn_row from slot command place)
  unfolding learn_row
  learns from group slot command (r, mails) h first k =
      either_way After (nat_lt last_slot slot) (childless (r, mails)) _ (k, refl)
      (cond_both (eqb slot (next r)) (executed false command (r, mails)) _ After
      (λ t. execution base me w false command (r, mails) (w.heard from (Learn group slot command) h).2 (w.learnt_entry from group command r mails (subst (λ s. Hears from (Learn group s command)) (eqb-true slot (next r) t) h) first k))
      (λ _. cond_both (nat_lt (next r) slot) (childless (r, sent r.me from (Ask (name_of r) (next r)) mails)) (childless (r, mails)) After
      (λ t. (w.wants from slot group command r mails h (w.heard from (Learn group slot command) h).1.0 (ltb-true (next r) slot t) k, refl)) (λ _. (k, refl))))

  module _ (from from_slot : ℕ) (group : Draw) (h : Hears from (Ask group from_slot)) (m : IsMember base from) where
    teaches_by : (count : ℕ) (r : ReplicaState) (slot : ℕ) (mails : List Mail) (o : Option Command) → entry_at slot r.log ≡ o → P (r, mails) → ((more : List Mail) → P (r, more) → P (r, taught count r from (slot + 1) more))
        → P (r, elim o [ None ↦ mails | Some command ↦ taught count r from (slot + 1) (sent r.me from (Learn (name_of r) slot command) mails) ])
    teaches_by count r slot mails None e k more = k
    teaches_by count r slot mails (Some command) e k more = more (sent r.me from (Learn (name_of r) slot command) mails) (w.recalls from from_slot slot group command r mails h m e k)

    teaches : (count : ℕ) (r : ReplicaState) (slot : ℕ) (mails : List Mail) → P (r, mails) → P (r, taught count r from slot mails)
    unfolding taught
    teaches zero r slot mails k = k
    teaches (suc count) r slot mails k = teaches_by count r slot mails (entry_at slot r.log) refl k (λ more n. teaches count r (slot + 1) more n)

  answers_ask : (from : ℕ) (group : Draw) (slot : ℕ) (place : Place) → Hears from (Ask group slot) → P place → P (ask_row from slot place)
  answers_ask from group slot (r, mails) h k =
      let m = (w.heard from (Ask group slot) h).1.0 in
      asked_place P from slot (r, mails) k (state_sent from (r, mails) m k) (teaches from slot group h m most_taught r slot mails k)

  -- the sender is a member, so it is taken for the leader
  follows : (from slot : ℕ) (sent : Base) (sets : List (List ℕ)) (r : ReplicaState) (mails : List Mail) → sent.core ≡ base.core → IsMember base from → P (record (jumped slot sent sets r) { hint = Some from }, mails) → P (looked_up from (jumped slot sent sets r, mails))
  unfolding looked_up
  follows from slot sent sets r mails same m k =
      let there : is_member (members (jumped slot sent sets r)) from ≡ true = ap (λ (nodes : List ℕ). is_member nodes from) (jumped_members slot sent sets r ∙ ap (λ (core : Core). core.members) same) ∙ m in
      cond_both (is_member (members (jumped slot sent sets r)) from) (record (jumped slot sent sets r) { hint = Some from }, mails) (looked (jumped slot sent sets r, mails)) P (λ _. k) (λ f. absurd (true≢false (sym there ∙ f)))

  takes_over : (from : ℕ) (group : Draw) (slot : ℕ) (sent : Base) (sets : List (List ℕ)) (place : Place) → Hears from (Install group slot sent sets) → next place.0 ≤ slot → P place → P (took_over from slot sent sets place)
  unfolding took_over
  takes_over from group slot sent sets (r, mails) h later k =
      let f = w.heard from (Install group slot sent sets) h in
      let place1 : Place = cond r.running (stopped (Some from) (r, mails)) (r, mails) in
      let k1 : P place1 × (next place1.0 ≤ slot) × (place1.0.running ≡ false) =
      cond_both r.running (stopped (Some from) (r, mails)) (r, mails) (λ (p : Place). P p × (next p.0 ≤ slot) × (p.0.running ≡ false))
      (λ on. (w.stops from r mails f.1.0 on k, (let same = ended_next (Some from) (Says.NotLeader (Some from)) r mails in omega (arith, same, later)), ended_off (Some from) (Says.NotLeader (Some from)) r mails))
      (λ off. (k, later, off)) in
      follows from slot sent sets place1.0 place1.1 f.2 f.1.0 (w.jumps from group slot sent sets place1.0 place1.1 h k1.1 k1.2 k1.0)

  -- a state of a later slot
  module _ (from : ℕ) (group : Draw) (slot : ℕ) (sent : Base) (sets : List (List ℕ)) where
    installs_by : (b c d : Bool) (place : Place) → nat_lt slot (next place.0) ≡ c → Hears from (Install group slot sent sets) → P place → P (cond {A = Place} (b || (d || c)) place (took_over from slot sent sets place))
    installs_by true c d place f h k = k
    installs_by false c true place f h k = k
    installs_by false true false place f h k = k
    installs_by false false false place f h k = (let later = ltb-false slot (next place.0) f in takes_over from group slot sent sets place h (omega (arith, later)) k)

  installs : (from : ℕ) (group : Draw) (slot : ℕ) (sent : Base) (sets : List (List ℕ)) (place : Place) → Hears from (Install group slot sent sets) → P place → P (install_row from slot sent sets place)
  unfolding install_row
  installs from group slot sent sets (r, mails) h k = installs_by from group slot sent sets (not (eqb (length sets) (length r.sets))) (nat_lt slot (next r)) (nat_lt last_slot slot) (r, mails) refl h k

  -- ---- all mail: none of orders or transactions is heard

  pub takes_mail : (from : ℕ) (body : MailBody) (place : Place) → Hears from body → w.First place.0 → P place → After (mailed from body place)
  unfolding mailed
  takes_mail from (Request group client seq op) place h first k = (requests from group client seq op place h k, refl)
  takes_mail from (Prepare group ballot from_slot) place h first k = (prepares from group ballot from_slot place h k, refl)
  takes_mail from (Promise group ballot reports) place h first k = (polls_pump from group ballot reports place h k, refl)
  takes_mail from (Accept group ballot slot command) place h first k = (accepts from group ballot slot command place h k, refl)
  takes_mail from (Accepted group ballot slot) place h first k = votes_count from group ballot slot place h k
  takes_mail from (Nack group ballot) place h first k = (nacks from group ballot place h k, refl)
  takes_mail from (Learn group slot command) place h first k = learns from group slot command place h first k
  takes_mail from (Ask group from_slot) place h first k = (answers_ask from group from_slot place h k, refl)
  takes_mail from (Install group slot sent sets) place h first k = (installs from group slot sent sets place h k, refl)
  takes_mail from (Answer group seq answer) place h first k = (k, refl)
  takes_mail from body place h first k = absurd (w.heard from body h)
