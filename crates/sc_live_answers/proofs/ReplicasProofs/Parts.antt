-- What of a replica's table leaves its group and its log, and so is no entry.
use Rattle.std.proofs.Common.{ℕ, ◌&&◌, nat_le, Bool, false, cond, List, [], Option, Some}
use Rattle.sc_node_table.specs.Values.{Ballot, Command, AnswerBody, PrepareAnswer, AcceptAnswer, Report, Nack, Accepted, Promise, Mail}
use Rattle.sc_mail.specs.declared.bodies.AnswerBody.TheVariants as Answers
use Rattle.sc_words.specs.declared.paxos.answers.PrepareAnswer.TheVariants as Prepared
use Rattle.sc_words.specs.declared.paxos.answers.AcceptAnswer.TheVariants as Asked
use Rattle.sc_words.specs.paxos.PaxosDefinitions.{AcceptorState, accepted as accepted_by, below, LeaderState, promise_counted, prepared}
use Rattle.sc_node_table.specs.NodeDefinitions.{ended, stopped, saw, install_to, offered, pumped, ReplicaState, Place, ask_row, hinted, promise_to, promised, prepare_row, accepted_to, took, accept_row, leads, promise_row, nack_row, name_of, sent}
use Rattle.sc_law_walks.proofs.WalkLemmas.{asked_place, pumped_freely, either_way}

-- the answers of an acceptor: to a Prepare a promise or a refusal, to an Accept a vote or a refusal
module _ (F : Place → Type 0) (from : ℕ) (ballot : Ballot) (r : ReplicaState) (mails : List Mail) where
  pub promise_answers : (answer : PrepareAnswer Command × AcceptorState Command) → ((reports : List (Report Command)) → F (hinted ballot (record r { acceptor = answer.1 }), sent r.me from (Promise (name_of r) ballot reports) mails))
      → ((was : Ballot) → F (record r { acceptor = answer.1 }, sent r.me from (Nack (name_of r) was) mails)) → F (promise_to from ballot answer (r, mails))
  promise_answers (Prepared.Promise reports, acceptor) promises refuses = promises reports
  promise_answers (Prepared.Ignored was, acceptor) promises refuses = refuses was

  pub accept_answers : (slot : ℕ) (answer : AcceptAnswer × AcceptorState Command) → F (hinted ballot (record r { acceptor = answer.1 }), sent r.me from (Accepted (name_of r) ballot slot) mails)
      → ((was : Ballot) → F (record r { acceptor = answer.1 }, sent r.me from (Nack (name_of r) was) mails)) → F (accepted_to from ballot slot answer (r, mails))
  accept_answers slot (Asked.Accepted, acceptor) votes refuses = votes
  accept_answers slot (Asked.Ignored was, acceptor) votes refuses = refuses was

-- P speaks of a replica's group, its log and its number alone
module _ (P : ReplicaState → Type 0) (any : (r : ReplicaState) (acceptor : AcceptorState Command) (hint : Option ℕ) (top : Ballot) (running : Bool) (leader : LeaderState Command) (ready : List (ℕ × Command)) (acts backlog : List Command) (waits : ℕ)
    → P r → P (record r { acceptor = acceptor; hint = hint; top = top; running = running; leader = leader; ready = ready; acts = acts; backlog = backlog; waits = waits })) where
  abbrev pub F : Place → Type 0
  F place = P place.0

  -- ---- leaders

  ends : (hint : Option ℕ) (answer : AnswerBody) (place : Place) → F place → F (ended hint answer place)
  unfolding ended
  ends hint answer (r, mails) p = any r r.acceptor hint r.top false _ [] [] [] r.waits p

  stops : (hint : Option ℕ) (place : Place) → F place → F (stopped hint place)
  stops hint place p = ends hint (Answers.NotLeader hint) place p

  sees : (ballot : Ballot) (place : Place) → F place → F (saw ballot place)
  unfolding saw
  sees ballot (r, mails) p =
      let seen : ReplicaState = cond (below r.top ballot) (record r { top = ballot }) r in
      let k : P seen = either_way P (below r.top ballot) (record r { top = ballot }) r (any r r.acceptor r.hint ballot r.running r.leader r.ready r.acts r.backlog r.waits p) p in
      either_way F (r.running && below r.leader.ballot ballot) (stopped (Some ballot.node) (seen, mails)) (seen, mails) (stops (Some ballot.node) (seen, mails) k) k

  state_sent : (node : ℕ) (place : Place) → F place → F (install_to node place)
  unfolding install_to
  state_sent node (r, mails) p = p

  -- ---- the pump

  slot_offered : (slot : ℕ) (set : List ℕ) (command : Command) (place : Place) → F place → F (offered slot set command place)
  unfolding offered
  slot_offered slot set command (r, mails) p = any r r.acceptor r.hint r.top r.running _ r.ready r.acts r.backlog r.waits p

  pub pumps : (place : Place) → F place → F (pumped place)
  pumps place p = pumped_freely F (λ r mails more acts backlog q. any r r.acceptor r.hint r.top r.running r.leader r.ready acts backlog r.waits q) slot_offered place p

  -- ---- rows that execute nothing

  with_hint : (r : ReplicaState) (hint : Option ℕ) → P r → P (record r { hint = hint })
  with_hint r hint p = any r r.acceptor hint r.top r.running r.leader r.ready r.acts r.backlog r.waits p

  hints : (ballot : Ballot) (r : ReplicaState) → P r → P (hinted ballot r)
  hints ballot r p = either_way P r.running r (record r { hint = Some ballot.node }) p (with_hint r (Some ballot.node) p)

  with_acceptor : (r : ReplicaState) (acceptor : AcceptorState Command) → P r → P (record r { acceptor = acceptor })
  with_acceptor r acceptor p = any r acceptor r.hint r.top r.running r.leader r.ready r.acts r.backlog r.waits p

  promises : (from : ℕ) (ballot : Ballot) (from_slot : ℕ) (place : Place) → F place → F (promised from ballot from_slot place)
  unfolding promised
  promises from ballot from_slot (r, mails) p =
      either_way F (nat_le from_slot r.acceptor.floor) _ _ (state_sent from (r, mails) p) (promise_answers F from ballot r mails (prepared ballot from_slot r.acceptor)
      (λ reports. hints ballot (record r { acceptor = (prepared ballot from_slot r.acceptor).1 }) (with_acceptor r (prepared ballot from_slot r.acceptor).1 p)) (λ was. with_acceptor r (prepared ballot from_slot r.acceptor).1 p))

  pub prepare_rests : (from : ℕ) (ballot : Ballot) (from_slot : ℕ) (place : Place) → F place → F (prepare_row from ballot from_slot place)
  unfolding prepare_row
  prepare_rests from ballot from_slot place p = promises from ballot from_slot (saw ballot place) (sees ballot place p)

  takes_report : (from : ℕ) (report : Report Command) (place : Place) → F place → F (took from report place)
  unfolding took
  takes_report from report (r, mails) p =
      either_way F (nat_le report.slot r.acceptor.floor) _ _ (state_sent from (r, mails) p) (accept_answers F from report.ballot r mails report.slot (accepted_by report r.acceptor)
      (hints report.ballot (record r { acceptor = (accepted_by report r.acceptor).1 }) (with_acceptor r (accepted_by report r.acceptor).1 p)) (λ was. with_acceptor r (accepted_by report r.acceptor).1 p))

  pub accept_rests : (from : ℕ) (ballot : Ballot) (slot : ℕ) (command : Command) (place : Place) → F place → F (accept_row from ballot slot command place)
  unfolding accept_row
  accept_rests from ballot slot command place p = takes_report from (record { slot = slot; ballot = ballot; value = command }) (saw ballot place) (sees ballot place p)

  pub promise_rests : (from : ℕ) (ballot : Ballot) (reports : List (Report Command)) (place : Place) → F place → F (promise_row from ballot reports place)
  unfolding promise_row
  promise_rests from ballot reports (r, mails) p =
      either_way F (leads ballot r) (pumped (record r { leader = (promise_counted from ballot reports r.leader).1 }, mails)) (r, mails)
      (pumps (record r { leader = (promise_counted from ballot reports r.leader).1 }, mails) (any r r.acceptor r.hint r.top r.running (promise_counted from ballot reports r.leader).1 r.ready r.acts r.backlog r.waits p)) p

  pub nack_rests : (ballot : Ballot) (place : Place) → F place → F (nack_row ballot place)
  unfolding nack_row
  nack_rests ballot place p = sees ballot place p

  pub ask_rests : (from slot : ℕ) (place : Place) → F place → F (ask_row from slot place)
  ask_rests from slot (r, mails) p = asked_place F from slot (r, mails) p (state_sent from (r, mails) p) p
