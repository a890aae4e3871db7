-- What the rows of a poll leave: who is asked says nothing to nodes but its answer, and who polls executes nothing while it runs.
use Rattle.std.proofs.Common.{◌≡◌, ℕ, ◌-◌, ◌<◌, ◌&&◌, ◌||◌, not, nat_le, nat_lt, eqb, true, true≢false, cond, List, [], ◌∷◌, ◌++◌, length, Option, Some, None, ◌⊎◌, inl, inr, refl, sym, ◌∙◌}
use Rattle.std.proofs.lemmas.Bool.{cond_both}
use Rattle.sc_base.specs.Definitions.{Each, client_actor, is_member}
use Rattle.sc_words.proofs.PaxosProofs.PaxosLemmas.{Each-append}
use Rattle.sc_node_table.specs.Values.{Ballot, Draw, Op, Command, Call, Base, AnswerBody, OrderResult, Mail, MailBody, Request, Answer, Promise, Nack, Ask, Install, Told, PrepareAnswer, Report}
use Rattle.sc_group_table.specs.machine.MachineDefinitions.{base_of}
use Rattle.sc_words.specs.declared.paxos.answers.PrepareAnswer.TheVariants as Prepared
use Rattle.sc_mail.specs.declared.bodies.AnswerBody.TheVariants as Says
use Rattle.sc_words.specs.paxos.PaxosDefinitions.{AcceptorState, below, may_promise, prepared, after_promise, reports_from, promise_counted}
use Rattle.sc_node_table.specs.NodeDefinitions.{ended, stopped, saw, install_to, install_row, took_over, sent, promise_to, promised, prepare_row, promise_row, nack_row, pumped, leads, hinted, last_slot, name_of, next, under_way, answered_all, dismissed_all, order_reported, result_sent, group_of_mail, queued, requested, request_row, refused_at, queued_number, without_request, ReplicaState, Place}
use Rattle.sc_group_table.specs.policy.PolicyDefinitions.{is_reported}
use Rattle.sc_law_walks.proofs.WalkLemmas.{either_way}
use Rattle.sc_law_walks.proofs.EndedRequests.{all_end, all_queued_end}
use Rattle.sc_live_healed.proofs.FixedWalks.{IsFresh, IsFixedPlace}
use Rattle.sc_live_healed.proofs.FixedChanges.{polls, with_backlog}
use Rattle.sc_live_healed.proofs.FixedParts.{request_taken, without_requests}
use Rattle.sc_live_healed.proofs.MovedReplicas.{pumped_moves}
use Rattle.sc_live_healed.proofs.PollAnswers.{seen_keeps, over_stops}
use Rattle.sc_live_healed.specs.HealedDefinitions.{IsFixedBody, IsFixedRequest, IsAnswerKind}

-- ---- what is said

-- a mail that some node takes is an answer to a poll
abbrev pub IsAnswerMail : Mail → Type 0
IsAnswerMail mail = IsAnswerKind mail.body ⊎ (group_of_mail mail.body ≡ None)

abbrev Answering : List Mail → Type 0
Answering mails = Each IsAnswerMail mails

pushed : (me to : ℕ) (body : MailBody) (mails : List Mail) → IsAnswerKind body ⊎ (group_of_mail body ≡ None) → Answering mails → Answering (sent me to body mails)
pushed me to body mails a m = Each-append IsAnswerMail mails (record { from = me; to = to; body = body } ∷ []) m (a, tt)

-- a replica that stops answers clients alone: answers and results are of no group
calls_say : (me : ℕ) (group : Draw) (answer : AnswerBody) (commands : List Command) (mails : List Mail) → Answering mails → Answering (answered_all me group answer commands mails)
calls_say me group answer commands mails m = all_end me group answer Answering (λ client seq ms q. pushed me (client_actor client) (Answer group seq answer) ms (inr refl) q) commands mails m

result_says : (me number : ℕ) (result : OrderResult) (mails : List Mail) → Answering mails → Answering (order_reported me number result mails)
unfolding order_reported
result_says me number result mails m = either_way Answering (is_reported number) (result_sent me number result mails) mails (pushed me 0 (Told number result) mails (inr refl) m) m

queues_say : (me : ℕ) (group : Draw) (hint : Option ℕ) (answer : AnswerBody) (commands : List Command) (mails : List Mail) → Answering mails → Answering (dismissed_all me group hint answer commands mails)
queues_say me group hint answer commands mails m =
    all_queued_end me group answer Answering (λ client seq ms q. pushed me (client_actor client) (Answer group seq answer) ms (inr refl) q) hint (λ number ms q. result_says me number _ ms q) commands mails m

seen_says : (ballot : Ballot) (place : Place) → Answering place.1 → Answering (saw ballot place).1
unfolding saw ended
seen_says ballot (r, mails) m =
    let seen : ReplicaState = cond (below r.top ballot) (record r { top = ballot }) r in
    either_way (λ (p : Place). Answering p.1) (r.running && below r.leader.ballot ballot) (stopped (Some ballot.node) (seen, mails)) (seen, mails)
    (queues_say seen.me (name_of seen) (Some ballot.node) (Says.NotLeader (Some ballot.node)) seen.backlog (answered_all seen.me (name_of seen) (Says.NotLeader (Some ballot.node)) (under_way seen) mails) (calls_say seen.me (name_of seen) (Says.NotLeader (Some ballot.node)) (under_way seen) mails m)) m

-- who is asked for a promise answers, and says nothing else to nodes
pub asked_says : (from : ℕ) (ballot : Ballot) (from_slot : ℕ) (r : ReplicaState) → Answering (prepare_row from ballot from_slot (r, [])).1
unfolding prepare_row promised install_to
asked_says from ballot from_slot r = by (saw ballot (r, [])) (seen_says ballot (r, []) tt)
  where
    by : (place : Place) → Answering place.1 → Answering (cond {A = Place} (nat_le from_slot place.0.acceptor.floor) (place.0, sent place.0.me from (Install (name_of place.0) (next place.0 - 1) (base_of place.0.group) place.0.sets) place.1) (promise_to from ballot (prepared ballot from_slot place.0.acceptor) (place.0, place.1))).1
    by (x, mails) m =
        either_way (λ (p : Place). Answering p.1) (nat_le from_slot x.acceptor.floor) _ _ (pushed x.me from (Install (name_of x) (next x - 1) (base_of x.group) x.sets) mails (inl tt) m)
        (either_way (λ (p : PrepareAnswer Command × AcceptorState Command). Answering (promise_to from ballot p (x, mails)).1) (may_promise x.acceptor ballot) (Prepared.Promise (reports_from from_slot x.acceptor.accepted), after_promise ballot x.acceptor) (Prepared.Ignored x.acceptor.promised, x.acceptor)
        (pushed x.me from (Promise (name_of x) ballot (reports_from from_slot x.acceptor.accepted)) mails (inl tt) m) (pushed x.me from (Nack (name_of x) x.acceptor.promised) mails (inl tt) m))

-- ---- next slots

hinted_next : (ballot : Ballot) (r : ReplicaState) → next (hinted ballot r) ≡ next r
hinted_next ballot r = either_way (λ (x : ReplicaState). next x ≡ next r) r.running r (record r { hint = Some ballot.node }) refl refl

-- a question for a promise executes nothing
pub asked_next : (from : ℕ) (ballot : Ballot) (from_slot : ℕ) (r : ReplicaState) → next (prepare_row from ballot from_slot (r, [])).0 ≡ next r
unfolding prepare_row promised install_to
asked_next from ballot from_slot r = by (saw ballot (r, [])) ∙ (seen_keeps ballot (r, [])).1
  where
    by : (place : Place) → next (cond {A = Place} (nat_le from_slot place.0.acceptor.floor) (place.0, sent place.0.me from (Install (name_of place.0) (next place.0 - 1) (base_of place.0.group) place.0.sets) place.1) (promise_to from ballot (prepared ballot from_slot place.0.acceptor) (place.0, place.1))).0 ≡ next place.0
    by (x, mails) =
        either_way (λ (p : Place). next p.0 ≡ next x) (nat_le from_slot x.acceptor.floor) _ _ refl
        (either_way (λ (p : PrepareAnswer Command × AcceptorState Command). next (promise_to from ballot p (x, mails)).0 ≡ next x) (may_promise x.acceptor ballot) (Prepared.Promise (reports_from from_slot x.acceptor.accepted), after_promise ballot x.acceptor) (Prepared.Ignored x.acceptor.promised, x.acceptor)
        (hinted_next ballot (record x { acceptor = after_promise ballot x.acceptor })) refl)

-- nor does a refusal
pub refused_next : (ballot : Ballot) (r : ReplicaState) → next (nack_row ballot (r, [])).0 ≡ next r
unfolding nack_row
refused_next ballot r = (seen_keeps ballot (r, [])).1

-- a state that is taken over stops the replica, and any other executes nothing
pub state_next : (from slot : ℕ) (state : Base) (sets : List (List ℕ)) (r : ReplicaState) → is_member state.core.members from ≡ true → (install_row from slot state sets (r, [])).0.running ≡ true → next (install_row from slot state sets (r, [])).0 ≡ next r
unfolding install_row
state_next from slot state sets r m on =
    cond_both (not (eqb (length sets) (length r.sets)) || (nat_lt last_slot slot || nat_lt slot (next r))) (r, []) (took_over from slot state sets (r, [])) (λ (p : Place). p.0.running ≡ true → next p.0 ≡ next r)
    (λ _ o. refl) (λ _ o. absurd (true≢false (sym o ∙ over_stops from slot state sets (r, []) m))) on

-- a promise executes nothing
pub promised_next : (base : Base) (me : ℕ) (fresh : IsFresh base me) (from : ℕ) (ballot : Ballot) (reports : List (Report Command)) (group : Draw) (r : ReplicaState) → r.acceptor.floor < next r → r.running ≡ true → IsFixedBody base from me (Promise group ballot reports) → IsFixedPlace base me (r, []) → next (promise_row from ballot reports (r, [])).0 ≡ next r
unfolding promise_row
promised_next base me fresh from ballot reports group r low on h f =
    let counted : ReplicaState = record r { leader = (promise_counted from ballot reports r.leader).1 } in
    let f1 : IsFixedPlace base me (counted, []) = polls base me fresh from ballot reports r [] on h.3 f in
    either_way (λ (p : Place). next p.0 ≡ next r) (leads ballot r) (pumped (counted, [])) (r, []) (pumped_moves base me fresh ⊥ counted 0 (Ask base.core.id 0) low f1).2 refl

-- a request is queued, and executes nothing
queued_next : (base : Base) (me : ℕ) (fresh : IsFresh base me) (o : Option ℕ) (client seq : ℕ) (op : Op) (r : ReplicaState) → r.acceptor.floor < next r → r.running ≡ true → IsFixedRequest base (Call client seq op) → IsFixedPlace base me (r, []) → next (queued o client seq op (r, [])).0 ≡ next r
unfolding queued
queued_next base me fresh None client seq op r low on q f =
    let more : ReplicaState = record r { backlog = r.backlog ++ Call client seq op ∷ [] } in
    (pumped_moves base me fresh ⊥ more 0 (Ask base.core.id 0) low (with_backlog base me fresh r [] (r.backlog ++ Call client seq op ∷ []) on (Each-append (IsFixedRequest base) r.backlog (Call client seq op ∷ []) f.fixed.backlog (q, tt)) f)).2
queued_next base me fresh (Some other) client seq op r low on q f =
    let backlog : List Command = without_request r.backlog client ++ Call client seq op ∷ [] in
    let more : ReplicaState = record r { backlog = backlog } in
    either_way (λ (p : Place). next p.0 ≡ next r) (nat_le seq other) (r, []) (pumped (more, [])) refl
    (pumped_moves base me fresh ⊥ more 0 (Ask base.core.id 0) low (with_backlog base me fresh r [] backlog on (Each-append (IsFixedRequest base) (without_request r.backlog client) (Call client seq op ∷ []) (without_requests base r.backlog client f.fixed.backlog) (q, tt)) f)).2

pub requested_next : (base : Base) (me : ℕ) (fresh : IsFresh base me) (from : ℕ) (group : Draw) (client seq : ℕ) (op : Op) (r : ReplicaState) → r.acceptor.floor < next r → IsFixedBody base from me (Request group client seq op) → IsFixedPlace base me (r, []) → next (request_row client seq op (r, [])).0 ≡ next r
unfolding request_row requested
requested_next base me fresh from group client seq op r low h f = by (refused_at r.group.core.gone op r) refl
  where
    by : (o : Option AnswerBody) → refused_at r.group.core.gone op r ≡ o → next (requested o client seq op (r, [])).0 ≡ next r
    by (Some answer) e = refl
    by None e = (let t = request_taken base me fresh client seq op r f.fixed.group e in queued_next base me fresh (queued_number r.backlog client) client seq op r low t.0 t.1 f)
