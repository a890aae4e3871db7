-- A promise, a request, an order and the mails of transactions queue a command or count a promise, and then the pump offers: such a row is a leader's.
use Rattle.std.proofs.Common.{◌≡◌, ℕ, ◌&&◌, not, eqb, Bool, true, false, true≢false, cond, List, [], ◌∷◌, ◌++◌, Option, Some, None, refl, sym, ◌∙◌, ap, subst, ◌||◌, ◌⊎◌, inl, inr}
use Rattle.std.specs.Prelude.{nat_le}
use Rattle.std.proofs.lemmas.Bool.{and_from, and_parts, eq-eqb, or_left, or_right, eqb-true, or_cases}
use Rattle.std.proofs.lemmas.List.Folds.{list_any-append}
use Rattle.sc_base.specs.Definitions.{Drawer, next_name, client_actor, same_ballot, same_draw, is_member}
use Rattle.sc_node_table.specs.Values.{Ballot, Draw, Op, Offer, Watch, Command, Call, Prepared, RecordVote, Finish, Watched, RecordWatch, Lock, Free, Coordinating, Promised, Watching, OrderLine, OrderRefusal, Refused, Outcome, Past, Vote, AnswerBody, Mail, MailBody, Request, Answer, Nack, TxPrepare, TxVote, TxOutcome, TxElsewhere, TxWatch, TxWatched, Told, Report}
use Rattle.sc_base.proofs.Lemmas.{ballot_is, ballot_itself}
use Rattle.sc_words.specs.declared.commands.votes.Past.TheVariants as Cast
use Rattle.sc_words.specs.declared.commands.votes.Vote.TheVariants as Says
use Rattle.sc_words.specs.paxos.PaxosDefinitions.{below, LeaderState, promise_counted}
use Rattle.sc_node_table.specs.declared.ReplicaInput.TheVariants as Given
use Rattle.sc_node_table.specs.NodeDefinitions.{has_act, act_queued, saw, stopped, sent, ordered_command, untaken, queued_or_refused, ordered_row, pumped, queued_number, without_request, asked_link, question, asked_node, ReplicaState, Place, name_of, settled, refused_at, queued, requested, request_row, mailed, stepped, standing_vote, sent_elsewhere, offered_by, offer_row, watched_by, watch_row, awaits_vote, awaits_watch, outcome_sent, noted_outcome, vote_met, vote_row, watch_met, watched_row, next_asked, asked_next, elsewhere_row, is_bound, outcome_row, leads, promise_row, nack_row}
use Rattle.sc_law_walks.specs.WalkDefinitions.{GoesOn}
use Rattle.sc_live_steps.specs.following.FollowingDefinitions.{Mark, Votes, Promises, Progress, Sets, voters_of, IsLeadOf, LeadsInto, IsAside, RowsLead, marks_for}
use Rattle.sc_live_steps.proofs.FollowingProofs.ExecutedEntries.{none_leads, pump_leads}
use Rattle.sc_live_steps.proofs.FollowingProofs.LeaderTables.{Counts, leads_into}
use Rattle.sc_live_steps.proofs.FollowingProofs.Offers.{pumps_offer}
use Rattle.sc_live_steps.proofs.FollowingProofs.OutsideMail.{one_same, question_none}
use Rattle.sc_live_steps.proofs.FollowingProofs.TakenVotes.{counts_beside, vote_leads}

-- ---- what changes nothing in flight, and what is offered then

module _ (at : Sets) (now : Progress) (taken : Option Mark) (r mid : ReplicaState) (mails : List Mail) (was : IsLeadOf at now r) (c : Counts at now taken r mid) (silent : (who : ℕ) → marks_for (name_of r) who mails ≡ []) where
  pub still_leads : LeadsInto at now taken r (mid, mails)
  still_leads = leads_into at now taken r mid mails (mid, mails) was c silent (none_leads at now.course (mid, mails) c.led) (λ off. absurd (true≢false (sym c.led.running ∙ off)))

  pub pump_runs : (pumped (mid, mails)).0.running ≡ true
  pump_runs = ap (λ (q : ReplicaState). q.running) (pumps_offer at now.course (mid, mails) c.led.may).fact ∙ c.led.running

  pub offers_lead : LeadsInto at now taken r (pumped (mid, mails))
  offers_lead = leads_into at now taken r mid mails (pumped (mid, mails)) was c silent (pump_leads at now.course (mid, mails) (mid, mails) (none_leads at now.course (mid, mails) c.led)) (λ off. absurd (true≢false (sym pump_runs ∙ off)))

-- ---- a promise

module _ (at : Sets) (now : Progress) (from : ℕ) (ballot : Ballot) (reports : List (Report Command)) (r : ReplicaState) (was : IsLeadOf at now r) where
  abbrev promise : Option Mark
  promise = Some (Promises from ballot)

  no_vote : (slot : ℕ) (voters : List ℕ) → voters_of r slot ≡ Some voters → (node : ℕ) → promise ≡ Some (Votes node now.course.ballot slot) → ⊥
  no_vote slot voters e node t = cc

  -- these are the promisers then
  counts_with : (promisers : List ℕ) (reports : List (Report Command)) → ((who : ℕ) → is_member r.leader.promisers who ≡ true → is_member promisers who ≡ true) → (ballot ≡ now.course.ballot → is_member promisers from ≡ true)
      → ((who : ℕ) → is_member promisers who ≡ true → (is_member r.leader.promisers who ≡ true) ⊎ (promise ≡ Some (Promises who now.course.ballot)))
      → Counts at now promise r (record r { leader = record r.leader { promisers = promisers; reports = reports } })
  counts_with promisers reports known own new = counts_beside at now promise r was (tt, tt) no_vote r.top promisers reports r.acts r.backlog known (λ who e. own_is who e) new
    where
      own_is : (who : ℕ) → promise ≡ Some (Promises who now.course.ballot) → is_member promisers who ≡ true
      own_is who e =
          let same : ballot ≡ now.course.ballot = cc in
          let fact : from ≡ who = cc in
          subst (λ n. is_member promisers n ≡ true) fact (own same)

  abbrev Row : Place → Type 0
  Row place = LeadsInto at now promise r place

  -- it is the leader's ballot's
  counted_row : same_ballot ballot r.leader.ballot ≡ true → (b : Bool) → not (is_member r.leader.promisers from) ≡ b
      → Row (pumped (record r { leader = (cond {A = Bool × LeaderState Command} b (true, record r.leader { promisers = r.leader.promisers ++ from ∷ []; reports = r.leader.reports ++ reports }) (false, r.leader)).1 }, []))
  counted_row same true out =
      offers_lead at now promise r _ [] was
      (counts_with (r.leader.promisers ++ from ∷ []) (r.leader.reports ++ reports)
      (λ who m. list_any-append (λ x. eqb x who) r.leader.promisers (from ∷ []) ∙ or_left (is_member r.leader.promisers who) (is_member (from ∷ []) who) m)
      (λ _. list_any-append (λ x. eqb x from) r.leader.promisers (from ∷ []) ∙ or_right (is_member r.leader.promisers from) (is_member (from ∷ []) from) (or_left (eqb from from) false (itself from)))
      (λ who m. new who (sym (list_any-append (λ x. eqb x who) r.leader.promisers (from ∷ [])) ∙ m)))
      (λ who. refl)
    where
      ballot_same : ballot ≡ now.course.ballot
      ballot_same = ballot_is ballot r.leader.ballot same ∙ was.led.may.ballot

      new : (who : ℕ) → (is_member r.leader.promisers who || (eqb from who || false)) ≡ true → (is_member r.leader.promisers who ≡ true) ⊎ (promise ≡ Some (Promises who now.course.ballot))
      new who m = elim (or_cases (is_member r.leader.promisers who) (eqb from who || false) m) [
        | inl old ↦ inl old
        | inr its ↦ elim (or_cases (eqb from who) false its) [
          | inl fact ↦ inr (ap (λ n. Some (Promises n ballot)) (eqb-true from who fact) ∙ ap (λ b. Some (Promises who b)) ballot_same)
          | inr bad ↦ absurd (true≢false (sym bad))
        ]
      ]

      itself : (n : ℕ) → eqb n n ≡ true
      itself n = eq-eqb n n refl
  counted_row same false in_ = offers_lead at now promise r r [] was (counts_with r.leader.promisers r.leader.reports (λ who m. m) (λ _. inside (is_member r.leader.promisers from) in_) (λ who m. inl m)) (λ who. refl)
    where
      inside : (b : Bool) → not b ≡ false → b ≡ true
      inside true e = refl
      inside false e = absurd (true≢false e)

  pub promise_leads : Row (promise_row from ballot reports (r, []))
  unfolding promise_row
  promise_leads = by (leads ballot r) refl
    where
      by : (b : Bool) → leads ballot r ≡ b → Row (cond b (pumped (record r { leader = (promise_counted from ballot reports r.leader).1 }, [])) (r, []))
      by true t =
          let same = (and_parts r.running (same_ballot ballot r.leader.ballot) t).1 in
          subst (λ c. Row (pumped (record r { leader = (cond {A = Bool × LeaderState Command} (c && not (is_member r.leader.promisers from)) (true, record r.leader { promisers = r.leader.promisers ++ from ∷ []; reports = r.leader.reports ++ reports }) (false, r.leader)).1 }, []))) (sym same)
          (counted_row same (not (is_member r.leader.promisers from)) refl)
      by false f = still_leads at now promise r r [] was (counts_with r.leader.promisers r.leader.reports (λ who m. m) other (λ who m. inl m)) (λ who. refl)
        where
          other : ballot ≡ now.course.ballot → is_member r.leader.promisers from ≡ true
          other same =
              let mine : same_ballot ballot r.leader.ballot ≡ true = ap (same_ballot ballot) (was.led.may.ballot ∙ sym same) ∙ ballot_itself ballot in
              absurd (true≢false (sym (and_from r.running (same_ballot ballot r.leader.ballot) was.led.running mine) ∙ f))

-- ---- what is no part of the agreement

-- what is kept by all that leaves a replica as it is, but for the greatest ballot seen and for queues, with no more marks of its group, and by a pump after that
module _ (P : Place → Type 0) (r : ReplicaState) (running : r.running ≡ true) (quiet : (top : Ballot) (acts backlog : List Command) (more : List Mail) → ((who : ℕ) → marks_for (name_of r) who more ≡ []) → P (record r { top = top; acts = acts; backlog = backlog }, more))
    (offers : (acts backlog : List Command) → P (pumped (record r { acts = acts; backlog = backlog }, []))) where
  -- it stays so, with one mail of no mark
  said : (to : ℕ) (body : MailBody) → ((who : ℕ) → marks_for (name_of r) who (sent r.me to body []) ≡ []) → P (r, sent r.me to body [])
  said to body none = quiet r.top r.acts r.backlog (sent r.me to body []) none

  silent : P (r, [])
  silent = quiet r.top r.acts r.backlog [] (λ who. refl)

  act_by : (act : Command) → P (act_queued act (r, []))
  unfolding act_queued
  act_by act = by (has_act act r)
    where
      by : (b : Bool) → P (pumped (cond b r (record r { acts = r.acts ++ act ∷ [] }), []))
      by true = offers r.acts r.backlog
      by false = offers (r.acts ++ act ∷ []) r.backlog

  -- ---- requests

  queued_by : (o : Option ℕ) (client seq : ℕ) (op : Op) → P (queued o client seq op (r, []))
  unfolding queued
  queued_by None client seq op = offers r.acts (r.backlog ++ Call client seq op ∷ [])
  queued_by (Some other) client seq op = by (nat_le seq other)
    where
      by : (b : Bool) → P (cond b (r, []) (pumped (record r { backlog = without_request r.backlog client ++ Call client seq op ∷ [] }, [])))
      by true = silent
      by false = offers r.acts (without_request r.backlog client ++ Call client seq op ∷ [])

  requested_by : (o : Option AnswerBody) (client seq : ℕ) (op : Op) → P (requested o client seq op (r, []))
  unfolding requested
  requested_by (Some answer) client seq op = said (client_actor client) (Answer (name_of r) seq answer) (λ who. one_same (name_of r) who r.me (client_actor client) (Answer (name_of r) seq answer) [] refl)
  requested_by None client seq op = queued_by (queued_number r.backlog client) client seq op

  request_by : (client seq : ℕ) (op : Op) → P (request_row client seq op (r, []))
  unfolding request_row
  request_by client seq op = requested_by (refused_at r.group.core.gone op r) client seq op

  -- ---- transactions

  offer_by : (o : Option Past) (from : ℕ) (tx : Draw) (offer : Offer) → P (offered_by o from tx offer (r, []))
  offer_by (Some Cast.Yes) from tx offer = said from _ (λ who. one_same (name_of r) who r.me from _ [] refl)
  offer_by (Some (Cast.No why)) from tx offer = said from _ (λ who. one_same (name_of r) who r.me from _ [] refl)
  offer_by (Some Cast.Ended) from tx offer = silent
  offer_by None from tx offer = subst (λ b. P (cond b (act_queued (Prepared tx offer) (r, [])) (sent_elsewhere from tx offer.coord (r, [])))) (sym running) (act_by (Prepared tx offer))

  watch_by : (o : Option Past) (from : ℕ) (tx : Draw) (watch : Watch) → P (watched_by o from tx watch (r, []))
  watch_by (Some Cast.Yes) from tx watch = said from _ (λ who. one_same (name_of r) who r.me from _ [] refl)
  watch_by (Some (Cast.No why)) from tx watch = said from _ (λ who. one_same (name_of r) who r.me from _ [] refl)
  watch_by (Some Cast.Ended) from tx watch = silent
  watch_by None from tx watch = subst (λ b. P (cond b (act_queued (Watched tx watch) (r, [])) (sent_elsewhere from tx watch.coord (r, [])))) (sym running) (act_by (Watched tx watch))

  if_waits : (b : Bool) (act : Command) → P (cond b (act_queued act (r, [])) (r, []))
  if_waits true act = act_by act
  if_waits false act = silent

  outcome_said : (from : ℕ) (tx part : Draw) (outcome : Outcome) → P (r, outcome_sent r.me from tx part outcome [])
  outcome_said from tx part outcome = said from _ (λ who. one_same (name_of r) who r.me from _ [] refl)

  vote_by : (vote : Vote) (o : Option Outcome) (from : ℕ) (tx part : Draw) → P (vote_met vote o from tx part (r, []))
  vote_by (Says.Yes frozen) (Some outcome) from tx part = outcome_said from tx part outcome
  vote_by (Says.Yes frozen) None from tx part = if_waits (r.running && awaits_vote r.group.core.lock tx) (RecordVote tx (Says.Yes frozen) from)
  vote_by (Says.No why) o from tx part = if_waits (r.running && awaits_vote r.group.core.lock tx) (RecordVote tx (Says.No why) from)

  watched_met : (vote : Past) (o : Option Outcome) (from : ℕ) (tx part : Draw) → P (watch_met vote o from tx part (r, []))
  watched_met Cast.Yes (Some outcome) from tx part = outcome_said from tx part outcome
  watched_met Cast.Yes None from tx part = if_waits (r.running && awaits_watch r.group.core.lock tx) (RecordWatch tx Cast.Yes from)
  watched_met (Cast.No why) o from tx part = if_waits (r.running && awaits_watch r.group.core.lock tx) (RecordWatch tx (Cast.No why) from)
  watched_met Cast.Ended o from tx part = if_waits (r.running && awaits_watch r.group.core.lock tx) (RecordWatch tx Cast.Ended from)

  asked_by : (lock : Lock) (from : ℕ) (tx : Draw) (hint : Option ℕ) → P (r, asked_next lock r.me r.group.core from tx hint [])
  asked_by Free from tx hint = silent
  asked_by (Promised locked offer) from tx hint = silent
  asked_by (Watching locked watch) from tx hint = silent
  asked_by (Coordinating locked body order heard) from tx hint = by (same_draw locked tx)
    where
      to : ℕ
      to = next_asked hint (asked_link r.group.core body heard).members from

      by : (b : Bool) → P (r, cond b (asked_node r.me r.group.core tx body heard to []) [])
      by true = said to (question r.me r.group.core tx body heard) (λ who. one_same (name_of r) who r.me to (question r.me r.group.core tx body heard) [] (question_none (name_of r) r.me r.group.core tx body heard))
      by false = silent

  -- ---- each of them

  offer_is : (from : ℕ) (tx : Draw) (offer : Offer) → P (offer_row from tx offer (r, []))
  unfolding offer_row
  offer_is from tx offer = offer_by (standing_vote r.group.core tx) from tx offer

  watch_is : (from : ℕ) (tx : Draw) (watch : Watch) → P (watch_row from tx watch (r, []))
  unfolding watch_row
  watch_is from tx watch = watch_by (standing_vote r.group.core tx) from tx watch

  vote_is : (from : ℕ) (tx part : Draw) (vote : Vote) → P (vote_row from tx part vote (r, []))
  unfolding vote_row
  vote_is from tx part vote = vote_by vote (noted_outcome r.group.core tx) from tx part

  watched_is : (from : ℕ) (tx part : Draw) (vote : Past) → P (watched_row from tx part vote (r, []))
  unfolding watched_row
  watched_is from tx part vote = watched_met vote (noted_outcome r.group.core tx) from tx part

  elsewhere_is : (from : ℕ) (tx : Draw) (hint : Option ℕ) → P (elsewhere_row from tx hint (r, []))
  unfolding elsewhere_row
  elsewhere_is from tx hint = by (settled r)
    where
      by : (b : Bool) → P (cond b (r, asked_next r.group.core.lock r.me r.group.core from tx hint []) (r, []))
      by true = asked_by r.group.core.lock from tx hint
      by false = silent

  outcome_is : (tx : Draw) (outcome : Outcome) → P (outcome_row tx outcome (r, []))
  unfolding outcome_row
  outcome_is tx outcome = if_waits (r.running && is_bound r.group.core.lock tx) (Finish tx outcome)

  nack_is : (promised : Ballot) → GoesOn promised r → P (nack_row promised (r, []))
  unfolding nack_row saw
  nack_is promised goes = by (below r.top promised)
    where
      stays : (seen : ReplicaState) → (cond {A = Place} (r.running && below r.leader.ballot promised) (stopped (Some promised.node) (seen, [])) (seen, [])) ≡ (seen, [])
      stays seen = ap (λ b. cond {A = Place} b (stopped (Some promised.node) (seen, [])) (seen, [])) goes

      by : (b : Bool) → P (cond {A = Place} (r.running && below r.leader.ballot promised) (stopped (Some promised.node) (cond b (record r { top = promised }) r, [])) (cond b (record r { top = promised }) r, []))
      by true = subst P (sym (stays (record r { top = promised }))) (quiet promised r.acts r.backlog [] (λ who. refl))
      by false = subst P (sym (stays r)) silent

  pub aside_is : (from : ℕ) (body : MailBody) → IsAside r body → P (mailed from body (r, [])).0
  unfolding mailed
  aside_is from (Request group client seq op) i = request_by client seq op
  aside_is from (Answer group seq answer) i = silent
  aside_is from (TxPrepare tx offer) i = offer_is from tx offer
  aside_is from (TxVote tx coord part vote) i = vote_is from tx part vote
  aside_is from (TxOutcome tx part outcome) i = outcome_is tx outcome
  aside_is from (TxElsewhere tx coord hint) i = elsewhere_is from tx hint
  aside_is from (TxWatch tx watch) i = watch_is from tx watch
  aside_is from (TxWatched tx coord part vote) i = watched_is from tx part vote
  aside_is from (Told order result) i = silent
  aside_is from (Nack group promised) i = nack_is promised i
  aside_is from _ i = absurd i

  -- an order
  pub order_is : (on : Bool) (drawer : Drawer) (line : OrderLine) → P (stepped on drawer (Given.Told line) (r, [])).0
  unfolding stepped ordered_row
  order_is on drawer line = by (untaken drawer line r)
    where
      by : (o : Option OrderRefusal) → P (queued_or_refused o line.number (ordered_command (next_name drawer) line.number line.order) (r, []))
      by (Some why) = said 0 (Told line.number (Refused why)) (λ who. one_same (name_of r) who r.me 0 (Told line.number (Refused why)) [] refl)
      by None = offers r.acts (r.backlog ++ ordered_command (next_name drawer) line.number line.order ∷ [])

-- ---- the whole

module _ (at : Sets) (now : Progress) (r : ReplicaState) (was : IsLeadOf at now r) where
  nothing : (slot : ℕ) (voters : List ℕ) → voters_of r slot ≡ Some voters → (node : ℕ) → None ≡ Some (Votes node now.course.ballot slot) → ⊥
  nothing slot voters e node t = cc

  nobody : (who : ℕ) → None ≡ Some (Promises who now.course.ballot) → is_member r.leader.promisers who ≡ true
  nobody who t = cc

  counts_aside : (top : Ballot) (acts backlog : List Command) → Counts at now None r (record r { top = top; acts = acts; backlog = backlog })
  counts_aside top acts backlog = counts_beside at now None r was tt nothing top r.leader.promisers r.leader.reports acts backlog (λ who m. m) nobody (λ who m. inl m)

  quiet_leads : (top : Ballot) (acts backlog : List Command) (more : List Mail) → ((who : ℕ) → marks_for (name_of r) who more ≡ []) → LeadsInto at now None r (record r { top = top; acts = acts; backlog = backlog }, more)
  quiet_leads top acts backlog more none = still_leads at now None r (record r { top = top; acts = acts; backlog = backlog }) more was (counts_aside top acts backlog) none

  pump_after : (acts backlog : List Command) → LeadsInto at now None r (pumped (record r { acts = acts; backlog = backlog }, []))
  pump_after acts backlog = offers_lead at now None r (record r { acts = acts; backlog = backlog }) [] was (counts_aside r.top acts backlog) (λ who. refl)

  pub aside_leads : (from : ℕ) (body : MailBody) → IsAside r body → LeadsInto at now None r (mailed from body (r, [])).0
  aside_leads from body i = aside_is (LeadsInto at now None r) r was.led.running quiet_leads pump_after from body i

  pub order_leads : (on : Bool) (drawer : Drawer) (line : OrderLine) → LeadsInto at now None r (stepped on drawer (Given.Told line) (r, [])).0
  order_leads on drawer line = order_is (LeadsInto at now None r) r was.led.running quiet_leads pump_after on drawer line

-- Each whole row of a replica that leads is a leader's row, and if it leads on, it leads in the progress after it: whatever it takes of votes, by which it executes and offers, of promises, requests, orders and mails of transactions. Of a vote it is said where the entries that it executes are the next ones, and where it stops only when all that was offered is executed.
pub rows_lead : RowsLead
unfolding mailed
rows_lead = record {
  votes = λ at now from ballot slot r rosters was decides alone. vote_leads at now from ballot slot r rosters was decides alone;
  promises = λ at now from ballot reports r was. promise_leads at now from ballot reports r was;
  asides = λ at now from body r was aside. aside_leads at now r was from body aside;
  orders = λ at now on drawer line r was. order_leads at now r was on drawer line;
}
