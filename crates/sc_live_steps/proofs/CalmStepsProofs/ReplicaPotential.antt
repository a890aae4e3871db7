-- Rows of a replica that take a mail lower what is owed.
use Rattle.std.proofs.Common.{◌≡◌, ℕ, ◌+◌, ◌-◌, ◌*◌, ◌≤◌, ◌&&◌, Bool, true, false, cond, List, [], ◌∷◌, ◌++◌, Option, Some, None, refl, ap, arith}
use Rattle.std.specs.Prelude.{nat_le}
use Rattle.std.proofs.lemmas.List.Sums.{sum_by_push}
use Rattle.sc_node_table.specs.Values.{Ballot, Draw, Command, RecordVote, Finish, RecordWatch, Outcome, Past, Vote, Mail, Promise, Accepted, Nack, Install, TxOutcome, AcceptAnswer, PrepareAnswer, Report}
use Rattle.sc_words.specs.declared.commands.votes.Past.TheVariants as Cast
use Rattle.sc_words.specs.declared.commands.votes.Vote.TheVariants as Says
use Rattle.sc_group_table.specs.machine.MachineDefinitions.{base_of}
use Rattle.sc_words.specs.declared.paxos.answers.AcceptAnswer.TheVariants as Asked
use Rattle.sc_words.specs.declared.paxos.answers.PrepareAnswer.TheVariants as Answers
use Rattle.sc_words.specs.paxos.PaxosDefinitions.{accepted as accepted_by, AcceptorState, below, prepared}
use Rattle.sc_node_table.specs.NodeDefinitions.{has_act, act_queued, saw, stopped, install_to, sent, pumped, ReplicaState, Place, name_of, next, noted_outcome, awaits_vote, awaits_watch, is_bound, vote_queued, vote_met, vote_row, watch_queued, watch_met, watched_row, outcome_row, hinted, promise_to, promised, prepare_row, accepted_to, took, accept_row, nack_row}
use Rattle.sc_live_steps.specs.calm.CalmDefinitions.{MayPump, Ways, command_owes, place_owes}
use Rattle.sc_live_steps.proofs.CalmStepsProofs.PotentialSums.{sent_owes}
use Rattle.sc_live_steps.proofs.CalmStepsProofs.PumpPotential.{pump_owes}

module _ (ways : Ways) where
  -- ---- one that hears of a ballot and does not stop owes what it owed

  saw_owes : (ballot : Ballot) (place : Place) → (place.0.running && below place.0.leader.ballot ballot) ≡ false → place_owes ways (saw ballot place) ≡ place_owes ways place
  unfolding saw
  saw_owes ballot (r, mails) goes_on = by (below r.top ballot)
    where
      stays : (seen : ReplicaState) → (r.running && below r.leader.ballot ballot) ≡ false → (cond {A = Place} (r.running && below r.leader.ballot ballot) (stopped (Some ballot.node) (seen, mails)) (seen, mails)) ≡ (seen, mails)
      stays seen e = ap (λ b. cond {A = Place} b (stopped (Some ballot.node) (seen, mails)) (seen, mails)) e

      by : (b : Bool) →
          place_owes ways (cond {A = Place} (r.running && below r.leader.ballot ballot) (stopped (Some ballot.node) (cond b (record r { top = ballot }) r, mails)) (cond b (record r { top = ballot }) r, mails)) ≡ place_owes ways (r, mails)
      by true = ap (place_owes ways) (stays (record r { top = ballot }) goes_on)
      by false = ap (place_owes ways) (stays r goes_on)

  hinted_owes : (ballot : Ballot) (r : ReplicaState) (mails : List Mail) → place_owes ways (hinted ballot r, mails) ≡ place_owes ways (r, mails)
  hinted_owes ballot r mails = by r.running
    where
      by : (b : Bool) → place_owes ways (cond b r (record r { hint = Some ballot.node }), mails) ≡ place_owes ways (r, mails)
      by true = refl
      by false = refl

  installs : (from : ℕ) (r : ReplicaState) (mails : List Mail) → place_owes ways (install_to from (r, mails)) ≡ place_owes ways (r, mails) + 1
  unfolding install_to
  installs from r mails = let s = sent_owes ways r.me from (Install (name_of r) (next r - 1) (base_of r.group) r.sets) mails in omega (arith, s)

  -- ---- Prepare and Accept: one mail is sent back

  promises : (from : ℕ) (ballot : Ballot) (answer : PrepareAnswer Command × AcceptorState Command) (r : ReplicaState) (mails : List Mail) → place_owes ways (promise_to from ballot answer (r, mails)) ≤ place_owes ways (r, mails) + 1
  promises from ballot (Answers.Promise reports, acceptor) r mails =
      let s = sent_owes ways r.me from (Promise (name_of r) ballot reports) mails in
      let h = hinted_owes ballot (record r { acceptor = acceptor }) (sent r.me from (Promise (name_of r) ballot reports) mails) in
      omega (arith, s, h)
  promises from ballot (Answers.Ignored other, acceptor) r mails =
      let s = sent_owes ways r.me from (Nack (name_of r) other) mails in
      omega (arith, s)

  promised_owes : (from : ℕ) (ballot : Ballot) (from_slot : ℕ) (r : ReplicaState) (mails : List Mail) → place_owes ways (promised from ballot from_slot (r, mails)) ≤ place_owes ways (r, mails) + 1
  unfolding promised
  promised_owes from ballot from_slot r mails = by (nat_le from_slot r.acceptor.floor)
    where
      by : (b : Bool) → place_owes ways (cond {A = Place} b (install_to from (r, mails)) (promise_to from ballot (prepared ballot from_slot r.acceptor) (r, mails))) ≤ place_owes ways (r, mails) + 1
      by true = let i = installs from r mails in omega (arith, i)
      by false = promises from ballot (prepared ballot from_slot r.acceptor) r mails

  pub prepare_lowers : (from : ℕ) (ballot : Ballot) (from_slot : ℕ) (place : Place) → (place.0.running && below place.0.leader.ballot ballot) ≡ false → place_owes ways (prepare_row from ballot from_slot place) + 1 ≤ place_owes ways place + 2
  unfolding prepare_row
  prepare_lowers from ballot from_slot place goes_on =
      let seen = saw ballot place in
      let a = saw_owes ballot place goes_on in
      let b = promised_owes from ballot from_slot seen.0 seen.1 in
      omega (arith, a, b)

  accepts : (from : ℕ) (ballot : Ballot) (slot : ℕ) (answer : AcceptAnswer × AcceptorState Command) (r : ReplicaState) (mails : List Mail) → place_owes ways (accepted_to from ballot slot answer (r, mails)) ≤ place_owes ways (r, mails) + 1
  accepts from ballot slot (Asked.Accepted, acceptor) r mails =
      let s = sent_owes ways r.me from (Accepted (name_of r) ballot slot) mails in
      let h = hinted_owes ballot (record r { acceptor = acceptor }) (sent r.me from (Accepted (name_of r) ballot slot) mails) in
      omega (arith, s, h)
  accepts from ballot slot (Asked.Ignored other, acceptor) r mails =
      let s = sent_owes ways r.me from (Nack (name_of r) other) mails in
      omega (arith, s)

  took_owes : (from : ℕ) (report : Report Command) (r : ReplicaState) (mails : List Mail) → place_owes ways (took from report (r, mails)) ≤ place_owes ways (r, mails) + 1
  unfolding took
  took_owes from report r mails = by (nat_le report.slot r.acceptor.floor)
    where
      by : (b : Bool) → place_owes ways (cond {A = Place} b (install_to from (r, mails)) (accepted_to from report.ballot report.slot (accepted_by report r.acceptor) (r, mails))) ≤ place_owes ways (r, mails) + 1
      by true = let i = installs from r mails in omega (arith, i)
      by false = accepts from report.ballot report.slot (accepted_by report r.acceptor) r mails

  pub accept_lowers : (from : ℕ) (ballot : Ballot) (slot : ℕ) (command : Command) (place : Place) → (place.0.running && below place.0.leader.ballot ballot) ≡ false → place_owes ways (accept_row from ballot slot command place) + 1 ≤ place_owes ways place + 2
  unfolding accept_row
  accept_lowers from ballot slot command place goes_on =
      let seen = saw ballot place in
      let a = saw_owes ballot place goes_on in
      let b = took_owes from (record { slot = slot; ballot = ballot; value = command }) seen.0 seen.1 in
      omega (arith, a, b)

  pub nack_lowers : (ballot : Ballot) (place : Place) → (place.0.running && below place.0.leader.ballot ballot) ≡ false → place_owes ways (nack_row ballot place) + 1 ≤ place_owes ways place + 1
  unfolding nack_row
  nack_lowers ballot place goes_on = let a = saw_owes ballot place goes_on in omega (arith, a)

  -- ---- transactions: what is asked is queued, and offered where nothing is under way

  pub queued_owes : (act : Command) (r : ReplicaState) (mails : List Mail) → MayPump r → place_owes ways (act_queued act (r, mails)) ≤ place_owes ways (r, mails) + command_owes ways.most act
  unfolding act_queued
  queued_owes act r mails may = by (has_act act r)
    where
      by : (b : Bool) → place_owes ways (pumped (cond b r (record r { acts = r.acts ++ act ∷ [] }), mails)) ≤ place_owes ways (r, mails) + command_owes ways.most act
      by true = let le = pump_owes ways (r, mails) may.unbound may.few in omega (arith, le)
      by false =
          let le = pump_owes ways (record r { acts = r.acts ++ act ∷ [] }, mails) may.unbound may.few in
          let s = sum_by_push (command_owes ways.most) r.acts act in
          omega (arith, le, s)

  pub outcome_lowers : (tx : Draw) (outcome : Outcome) (place : Place) → MayPump place.0 → place_owes ways (outcome_row tx outcome place) + 1 ≤ place_owes ways place + 31
  unfolding outcome_row
  outcome_lowers tx outcome (r, mails) may = by (r.running && is_bound r.group.core.lock tx)
    where
      by : (b : Bool) → place_owes ways (cond {A = Place} b (act_queued (Finish tx outcome) (r, mails)) (r, mails)) + 1 ≤ place_owes ways (r, mails) + 31
      by true = let le = queued_owes (Finish tx outcome) r mails may in omega (arith, le)
      by false = omega arith

  vote_queues : (from : ℕ) (tx : Draw) (vote : Vote) (r : ReplicaState) (mails : List Mail) → MayPump r → place_owes ways (vote_queued from tx vote (r, mails)) ≤ place_owes ways (r, mails) + (186 + 2 * ways.most)
  vote_queues from tx vote r mails may = by (r.running && awaits_vote r.group.core.lock tx)
    where
      by : (b : Bool) → place_owes ways (cond {A = Place} b (act_queued (RecordVote tx vote from) (r, mails)) (r, mails)) ≤ place_owes ways (r, mails) + (186 + 2 * ways.most)
      by true = queued_owes (RecordVote tx vote from) r mails may
      by false = omega arith

  vote_meets : (vote : Vote) (outcome : Option Outcome) (from : ℕ) (tx part : Draw) (r : ReplicaState) (mails : List Mail) → MayPump r → place_owes ways (vote_met vote outcome from tx part (r, mails)) ≤ place_owes ways (r, mails) + (186 + 2 * ways.most)
  vote_meets (Says.Yes frozen) (Some outcome) from tx part r mails may = let s = sent_owes ways r.me from (TxOutcome tx part outcome) mails in omega (arith, s)
  vote_meets (Says.Yes frozen) None from tx part r mails may = vote_queues from tx (Says.Yes frozen) r mails may
  vote_meets (Says.No why) outcome from tx part r mails may = vote_queues from tx (Says.No why) r mails may

  pub vote_lowers : (from : ℕ) (tx part : Draw) (vote : Vote) (place : Place) → MayPump place.0 → place_owes ways (vote_row from tx part vote place) + 1 ≤ place_owes ways place + (187 + 2 * ways.most)
  unfolding vote_row
  vote_lowers from tx part vote (r, mails) may = let le = vote_meets vote (noted_outcome r.group.core tx) from tx part r mails may in omega (arith, le)

  watch_queues : (from : ℕ) (tx : Draw) (vote : Past) (r : ReplicaState) (mails : List Mail) → MayPump r → place_owes ways (watch_queued from tx vote (r, mails)) ≤ place_owes ways (r, mails) + 130
  watch_queues from tx vote r mails may = by (r.running && awaits_watch r.group.core.lock tx)
    where
      by : (b : Bool) → place_owes ways (cond {A = Place} b (act_queued (RecordWatch tx vote from) (r, mails)) (r, mails)) ≤ place_owes ways (r, mails) + 130
      by true = queued_owes (RecordWatch tx vote from) r mails may
      by false = omega arith

  watch_meets : (vote : Past) (outcome : Option Outcome) (from : ℕ) (tx part : Draw) (r : ReplicaState) (mails : List Mail) → MayPump r → place_owes ways (watch_met vote outcome from tx part (r, mails)) ≤ place_owes ways (r, mails) + 130
  watch_meets Cast.Yes (Some outcome) from tx part r mails may = let s = sent_owes ways r.me from (TxOutcome tx part outcome) mails in omega (arith, s)
  watch_meets Cast.Yes None from tx part r mails may = watch_queues from tx Cast.Yes r mails may
  watch_meets (Cast.No why) outcome from tx part r mails may = watch_queues from tx (Cast.No why) r mails may
  watch_meets Cast.Ended outcome from tx part r mails may = watch_queues from tx Cast.Ended r mails may

  pub watched_lowers : (from : ℕ) (tx part : Draw) (vote : Past) (place : Place) → MayPump place.0 → place_owes ways (watched_row from tx part vote place) + 1 ≤ place_owes ways place + 131
  unfolding watched_row
  watched_lowers from tx part vote (r, mails) may = let le = watch_meets vote (noted_outcome r.group.core tx) from tx part r mails may in omega (arith, le)
