-- Rows of promises, of requests, and of what a coordinator asks.
use Rattle.std.proofs.Common.{◌≡◌, ℕ, ◌+◌, ◌*◌, ◌≤◌, ◌&&◌, not, Bool, true, false, cond, List, [], ◌∷◌, ◌++◌, append-nil, sum_by, Option, Some, None, refl, ◌∙◌, ap, arith}
use Rattle.std.specs.Prelude.{nat_le}
use Rattle.std.proofs.lemmas.List.Sums.{sum_by_push, sum_by-cons}
use Rattle.sc_base.specs.Definitions.{client_actor, same_ballot, is_member}
use Rattle.sc_node_table.specs.Values.{Ballot, Draw, Op, Offer, Watch, Command, Call, Prepared, Watched, Route, Past, AnswerBody, Mail, Answer, TxVote, TxWatched, TxElsewhere, Report}
use Rattle.sc_words.specs.ideal.IdealDefinitions.{key_of, holds_key}
use Rattle.sc_words.specs.declared.commands.votes.Past.TheVariants as Cast
use Rattle.sc_words.specs.declared.commands.votes.Vote.TheVariants as Votes
use Rattle.sc_mail.specs.declared.bodies.AnswerBody.TheVariants as Says
use Rattle.sc_group_table.specs.machine.MachineDefinitions.{locked_in, frozen_of, is_locked_in}
use Rattle.sc_words.specs.paxos.PaxosDefinitions.{LeaderState, must, promise_counted}
use Rattle.sc_node_table.specs.NodeDefinitions.{act_queued, admits_requests, pumped, queued_number, is_request_of, without_request, ReplicaState, Place, name_of, request_refusal, refused_at, queued, requested, request_row, standing_by, standing_vote, noted_vote, voted_to, sent_elsewhere, offered_by, offer_row, watched_to, watched_by, watch_row, leads, promise_row}
use Rattle.sc_live_steps.specs.calm.CalmDefinitions.{MayPump, IsUnbound, Points, Ways, command_owes, answer_owes, prepare_owes, watch_owes, asked_owes, elsewhere_owes, mail_owes, flights_owe, place_owes}
use Rattle.sc_live_steps.proofs.CalmStepsProofs.PotentialSums.{sent_owes}
use Rattle.sc_live_steps.proofs.CalmStepsProofs.PumpPotential.{pump_owes}
use Rattle.sc_live_steps.proofs.CalmStepsProofs.ReplicaPotential.{queued_owes}

-- ---- a promise without reports

counted_same : (from : ℕ) (ballot : Ballot) (leader : LeaderState Command) → ((promise_counted from ballot [] leader).1.flights ≡ leader.flights) × ((promise_counted from ballot [] leader).1.reports ≡ leader.reports)
counted_same from ballot leader = by (same_ballot ballot leader.ballot && not (is_member leader.promisers from))
  where
    after : Bool → Bool × LeaderState Command
    after b = cond b (true, record leader { promisers = leader.promisers ++ from ∷ []; reports = leader.reports ++ [] }) (false, leader)

    by : (b : Bool) → ((after b).1.flights ≡ leader.flights) × ((after b).1.reports ≡ leader.reports)
    by true = (refl, append-nil leader.reports)
    by false = (refl, refl)

-- calls without one of them owe no more
without_owes : (most client : ℕ) (backlog : List Command) → sum_by (command_owes most) (without_request backlog client) ≤ sum_by (command_owes most) backlog
without_owes most client [] = omega arith
without_owes most client (command ∷ backlog) = by (is_request_of client command) (without_owes most client backlog)
  where
    by : (b : Bool) → sum_by (command_owes most) (without_request backlog client) ≤ sum_by (command_owes most) backlog → sum_by (command_owes most) (cond b backlog (command ∷ without_request backlog client)) ≤ sum_by (command_owes most) (command ∷ backlog)
    by true le = let s = sum_by-cons (command_owes most) command backlog in omega (arith, s)
    by false le =
        let s = sum_by-cons (command_owes most) command backlog in
        let t = sum_by-cons (command_owes most) command (without_request backlog client) in
        omega (arith, le, s, t)

-- where no vote stands the group is not gone
standing_none : (o : Option Past) (locked : Bool) (gone : Option Route) → standing_by o locked gone ≡ None → gone ≡ None
standing_none None locked None e = refl
standing_none None locked (Some into) e = cc
standing_none (Some (Cast.No why)) locked went e = cc
standing_none (Some Cast.Ended) locked went e = cc
standing_none (Some Cast.Yes) true went e = cc
standing_none (Some Cast.Yes) false None e = refl
standing_none (Some Cast.Yes) false (Some into) e = cc

module _ (ways : Ways) where
  pub promise_lowers : (from : ℕ) (ballot : Ballot) (place : Place) → MayPump place.0 → place_owes ways (promise_row from ballot [] place) + 1 ≤ place_owes ways place + 1
  unfolding promise_row
  promise_lowers from ballot (r, mails) may = by (leads ballot r)
    where
      leader : LeaderState Command
      leader = (promise_counted from ballot [] r.leader).1

      same : (leader.flights ≡ r.leader.flights) × (leader.reports ≡ r.leader.reports)
      same = counted_same from ballot r.leader

      unbound : IsUnbound (record r { leader = leader })
      unbound = λ slot at. ap (λ (reports : List (Report Command)). must slot (record leader { reports = reports })) same.1 ∙ may.unbound slot at

      by : (b : Bool) → place_owes ways (cond {A = Place} b (pumped (record r { leader = leader }, mails)) (r, mails)) + 1 ≤ place_owes ways (r, mails) + 1
      by true =
          let le = pump_owes ways (record r { leader = leader }, mails) unbound may.few in
          let flights = ap (flights_owe ways.most) same.0 in
          omega (arith, le, flights)
      by false = omega arith

  -- ---- a request

  call_queues : (o : Option ℕ) (client seq : ℕ) (op : Op) (r : ReplicaState) (mails : List Mail) → MayPump r → place_owes ways (queued o client seq op (r, mails)) ≤ place_owes ways (r, mails) + 27
  unfolding queued
  call_queues None client seq op r mails may =
      let le = pump_owes ways (record r { backlog = r.backlog ++ Call client seq op ∷ [] }, mails) may.unbound may.few in
      let s = sum_by_push (command_owes ways.most) r.backlog (Call client seq op) in
      omega (arith, le, s)
  call_queues (Some other) client seq op r mails may = by (nat_le seq other)
    where
      by : (b : Bool) → place_owes ways (cond {A = Place} b (r, mails) (pumped (record r { backlog = without_request r.backlog client ++ Call client seq op ∷ [] }, mails))) ≤ place_owes ways (r, mails) + 27
      by true = omega arith
      by false =
          let le = pump_owes ways (record r { backlog = without_request r.backlog client ++ Call client seq op ∷ [] }, mails) may.unbound may.few in
          let s = sum_by_push (command_owes ways.most) (without_request r.backlog client) (Call client seq op) in
          let w = without_owes ways.most client r.backlog in
          omega (arith, le, s, w)

  -- why a request is not taken owes less than the request
  refusal_owes : (r : ReplicaState) (op : Op) (answer : AnswerBody) → Points ways (name_of r) r → refused_at r.group.core.gone op r ≡ Some answer → answer_owes ways (name_of r) answer ≤ 27 + 2 * ways.far (name_of r) r.me
  refusal_owes r op answer points e = by_gone r.group.core.gone refl e
    where
      by_hold : (b : Bool) → ◌≡◌ {A = Option AnswerBody} (cond b (Some (Says.NotMine r.group.core.arc r.group.core.succ)) None) (Some answer) → answer_owes ways (name_of r) answer ≤ 27 + 2 * ways.far (name_of r) r.me
      by_hold false fact = cc
      by_hold true fact =
          let same : Says.NotMine r.group.core.arc r.group.core.succ ≡ answer = cc in
          let owes = ap (answer_owes ways (name_of r)) same in
          omega (arith, owes)

      by_run : (b : Bool) → r.running ≡ b → r.group.core.gone ≡ None → request_refusal None r.group.core b r.hint op ≡ Some answer → answer_owes ways (name_of r) answer ≤ 27 + 2 * ways.far (name_of r) r.me
      by_run true run stands fact = by_hold (admits_requests r.group.core.lock && not (holds_key r.group.core.arc (key_of op))) fact
      by_run false run stands fact =
          let p = points run stands in
          let same : Says.NotLeader r.hint ≡ answer = cc in
          let owes = ap (answer_owes ways (name_of r)) same in
          let named = ap (λ (h : Option ℕ). answer_owes ways (name_of r) (Says.NotLeader h)) p.1 in
          let near = p.2 in
          omega (arith, owes, named, near)

      by_gone : (gone : Option Route) → r.group.core.gone ≡ gone → request_refusal gone r.group.core r.running r.hint op ≡ Some answer → answer_owes ways (name_of r) answer ≤ 27 + 2 * ways.far (name_of r) r.me
      by_gone (Some into) went fact =
          let same : Says.Gone into ≡ answer = cc in
          let owes = ap (answer_owes ways (name_of r)) same in
          omega (arith, owes)
      by_gone None stands fact = by_run r.running refl stands fact

  pub request_lowers : (client seq : ℕ) (op : Op) (place : Place) → MayPump place.0 → Points ways (name_of place.0) place.0 → place_owes ways (request_row client seq op place) + 1 ≤ place_owes ways place + (28 + 2 * ways.far (name_of place.0) place.0.me)
  unfolding request_row requested
  request_lowers client seq op (r, mails) may points = by (refused_at r.group.core.gone op r) refl
    where
      by : (o : Option AnswerBody) → refused_at r.group.core.gone op r ≡ o → place_owes ways (requested o client seq op (r, mails)) + 1 ≤ place_owes ways (r, mails) + (28 + 2 * ways.far (name_of r) r.me)
      by None e = let le = call_queues (queued_number r.backlog client) client seq op r mails may in omega (arith, le)
      by (Some answer) e =
          let s = sent_owes ways r.me (client_actor client) (Answer (name_of r) seq answer) mails in
          let le = refusal_owes r op answer points e in
          omega (arith, s, le)

  -- ---- an offer, and a watch

  votes_owe : (vote : Past) (from : ℕ) (tx : Draw) (offer : Offer) (r : ReplicaState) (mails : List Mail) → sum_by (mail_owes ways) (voted_to r.me r.group from tx offer vote mails) ≤ sum_by (mail_owes ways) mails + (187 + 2 * ways.most)
  votes_owe Cast.Yes from tx offer r mails = let s = sent_owes ways r.me from (TxVote tx offer.coord offer.part (Votes.Yes (frozen_of r.group))) mails in omega (arith, s)
  votes_owe (Cast.No why) from tx offer r mails = let s = sent_owes ways r.me from (TxVote tx offer.coord offer.part (Votes.No why)) mails in omega (arith, s)
  votes_owe Cast.Ended from tx offer r mails = omega arith

  pub offer_lowers : (from : ℕ) (tx : Draw) (offer : Offer) (place : Place) → MayPump place.0 → Points ways offer.part place.0 → ways.asked_group tx ≡ Some (offer.part, false) → place_owes ways (offer_row from tx offer place) + 1 ≤ place_owes ways place + prepare_owes ways offer.part place.0.me
  unfolding offer_row
  offer_lowers from tx offer (r, mails) may points asks = by (standing_vote r.group.core tx) refl
    where
      by_run : (b : Bool) → r.running ≡ b → r.group.core.gone ≡ None → place_owes ways (cond {A = Place} b (act_queued (Prepared tx offer) (r, mails)) (sent_elsewhere from tx offer.coord (r, mails))) + 1 ≤ place_owes ways (r, mails) + prepare_owes ways offer.part r.me
      by_run true run stands = let le = queued_owes ways (Prepared tx offer) r mails may in omega (arith, le)
      by_run false run stands =
          let p = points run stands in
          let s = sent_owes ways r.me from (TxElsewhere tx offer.coord r.hint) mails in
          let named = ap (elsewhere_owes ways tx) p.1 in
          let asked = ap (asked_owes ways p.0) asks in
          let near = p.2 in
          omega (arith, s, named, asked, near)

      by : (o : Option Past) → standing_vote r.group.core tx ≡ o → place_owes ways (offered_by o from tx offer (r, mails)) + 1 ≤ place_owes ways (r, mails) + prepare_owes ways offer.part r.me
      by (Some vote) e = let le = votes_owe vote from tx offer r mails in omega (arith, le)
      by None e = by_run r.running refl (standing_none (noted_vote r.group.core tx) (is_locked_in (locked_in r.group.core.lock) tx) r.group.core.gone e)

  watches_owe : (vote : Past) (from : ℕ) (tx : Draw) (watch : Watch) (r : ReplicaState) (mails : List Mail) → sum_by (mail_owes ways) (watched_to r.me from tx watch vote mails) ≤ sum_by (mail_owes ways) mails + 131
  watches_owe Cast.Yes from tx watch r mails = let s = sent_owes ways r.me from (TxWatched tx watch.coord watch.part Cast.Yes) mails in omega (arith, s)
  watches_owe (Cast.No why) from tx watch r mails = let s = sent_owes ways r.me from (TxWatched tx watch.coord watch.part (Cast.No why)) mails in omega (arith, s)
  watches_owe Cast.Ended from tx watch r mails = omega arith

  pub watch_lowers : (from : ℕ) (tx : Draw) (watch : Watch) (place : Place) → MayPump place.0 → Points ways watch.part place.0 → ways.asked_group tx ≡ Some (watch.part, true) → place_owes ways (watch_row from tx watch place) + 1 ≤ place_owes ways place + watch_owes ways watch.part place.0.me
  unfolding watch_row
  watch_lowers from tx watch (r, mails) may points asks = by (standing_vote r.group.core tx) refl
    where
      by_run : (b : Bool) → r.running ≡ b → r.group.core.gone ≡ None → place_owes ways (cond {A = Place} b (act_queued (Watched tx watch) (r, mails)) (sent_elsewhere from tx watch.coord (r, mails))) + 1 ≤ place_owes ways (r, mails) + watch_owes ways watch.part r.me
      by_run true run stands = let le = queued_owes ways (Watched tx watch) r mails may in omega (arith, le)
      by_run false run stands =
          let p = points run stands in
          let s = sent_owes ways r.me from (TxElsewhere tx watch.coord r.hint) mails in
          let named = ap (elsewhere_owes ways tx) p.1 in
          let asked = ap (asked_owes ways p.0) asks in
          let near = p.2 in
          omega (arith, s, named, asked, near)

      by : (o : Option Past) → standing_vote r.group.core tx ≡ o → place_owes ways (watched_by o from tx watch (r, mails)) + 1 ≤ place_owes ways (r, mails) + watch_owes ways watch.part r.me
      by (Some vote) e = let le = watches_owe vote from tx watch r mails in omega (arith, le)
      by None e = by_run r.running refl (standing_none (noted_vote r.group.core tx) (is_locked_in (locked_in r.group.core.lock) tx) r.group.core.gone e)
