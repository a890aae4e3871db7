-- Rounds that make no mail.
use Rattle.std.proofs.Common.{◌≡◌, ℕ, zero, suc, ◌+◌, ◌-◌, ◌<◌, Bool, true, false, not, List, [], ◌∷◌, ◌++◌, length, drop, filter, Option, Some, None, refl, sym, ◌∙◌, ap, if◌then◌else◌, get_or, All, ◌==◌, ◌^◌}
use Rattle.std.proofs.lemmas.Bool.{ne_eqb}
use Rattle.sc_base.specs.declared.names.Draw.{Draw}
use Rattle.sc_words.specs.declared.commands.commands.Command.{Command}
use Rattle.sc_base.specs.Roster.{is_member}
use Rattle.sc_words.specs.declared.commands.cores.Core.{Core}
use Rattle.sc_words.specs.declared.commands.orders.OrderResult.{OrderResult}
use Rattle.sc_mail.specs.declared.bodies.AnswerBody.{AnswerBody}
use Rattle.sc_mail.specs.declared.bodies.Mail.{Mail}
use Rattle.sc_mail.specs.declared.bodies.MailBody.TheVariants.{Learn}
use Rattle.sc_words.specs.paxos.Logs.{entry_at}
use Rattle.sc_words.specs.paxos.Votes.{has_counted}
use Rattle.sc_node_table.specs.Slots.{rest_of}
use Rattle.sc_node_table.specs.Replica.{ReplicaState, Place, name_of, members, next, flying, taken_at, listed, under_way}
use Rattle.sc_node_table.specs.Election.{open_nodes, elected, ended}
use Rattle.sc_node_table.specs.Execute.{welcomed, learnt_to, effect_reported}
use Rattle.sc_node_table.specs.Mails.{sent, answered, answered_all, dismissed_all, order_number}
use Rattle.sc_node_table.specs.Install.{install_to, asked_to_promise, welcomed_all}
use Rattle.sc_node_table.specs.Pump.{turned_down, next_queued}
use Rattle.sc_node_table.specs.Rows.{uncounted, asked_again, taught, last_entry_sent}
use Rattle.sc_node_replica.specs.Again.{asked_for, asked_at}
use Rattle.sc_node_parts.specs.replica.Requests.{is_request}
use Rattle.sc_node_parts.specs.replica.Heads.{head_of, head_waits}
use Rattle.sc_node_parts.proofs.ReplicaProofs.AppendedMail.{one_more, answered-others, answered_all-before, dismissed_all-before, sent_all-before, sent_all-none, sent_others-alone, order_reported-unreported, filter-none}
use Rattle.sc_node_replica.proofs.Backlog.{next_queued-answered}
use Rattle.sc_node_replica.proofs.Idling.{next_queued-before}
use Rattle.sc_node_replica.proofs.Rounds.{left_from, answered-step, asked-cons, asked-step, taught-step}

-- of what is in flight or ready, a slot at a time
pub answered-none : (me : ℕ) (group : Draw) (answer : AnswerBody) (r : ReplicaState) (i slot : ℕ) → i < length r.sets → slot ≡ next r + i
    → answered_all me group answer (left_from r i) [] ≡ [] → (answered_all me group answer (listed (taken_at r slot)) [] ≡ []) × (answered_all me group answer (left_from r (i + 1)) [] ≡ [])
answered-none me group answer r i slot less at e =
    let more : List Mail = answered_all me group answer (listed (taken_at r slot)) [] in
    let h : answered_all me group answer (left_from r (i + 1)) more ≡ [] = answered-step me group answer r i slot [] more less at refl ∙ e in
    let n : more ≡ [] = answered_all-before me group answer (left_from r (i + 1)) more h in
    (n, ap (answered_all me group answer (left_from r (i + 1))) (sym n) ∙ h)

-- of a command that is in flight or ready at a slot
pub answered-listed : (me : ℕ) (group : Draw) (answer : AnswerBody) (o : Option Command) (c : Command) → Some c ≡ o → answered_all me group answer (listed o) [] ≡ [] → is_request c ≡ false
unfolding answered_all
answered-listed me group answer None c is e = absurd (cc)
answered-listed me group answer (Some d) c is e = let same : d ≡ c = cc in answered-others me group answer c [] (ap (λ x. answered me group answer x []) (sym same) ∙ e)

-- of one that ends
pub ended-none : (hint : Option ℕ) (answer : AnswerBody) (r : ReplicaState) → (ended hint answer (r, [])).1 ≡ []
    → (answered_all r.me (name_of r) answer (under_way r) [] ≡ []) × (dismissed_all r.me (name_of r) hint answer r.backlog [] ≡ [])
unfolding ended
ended-none hint answer r e =
    let n = dismissed_all-before r.me (name_of r) hint answer r.backlog _ e in
    (n, ap (dismissed_all r.me (name_of r) hint answer r.backlog) (sym n) ∙ e)

-- of an election
elected_by : (spent : Bool) (r after : ReplicaState) (mails : List Mail) → spent ≡ false → (let e : Place = if spent then (r, []) else (after, mails) in e).1 ≡ [] → mails ≡ []
elected_by true r after mails unspent e = absurd (cc)
elected_by false r after mails unspent e = e

pub elected-none : (r : ReplicaState) → (r.top.round ≡ 2 ^ 32 - 1 → ⊥) → (elected (r, [])).1 ≡ [] → open_nodes r.sets ≡ []
unfolding elected
elected-none r unspent e = sent_all-none r.me (open_nodes r.sets) _ [] (elected_by (r.top.round == 2 ^ 32 - 1) r _ _ (ne_eqb r.top.round (2 ^ 32 - 1) unspent) e)

-- of members that learn
pub learnt-alone : (counted : Bool) (before : List ℕ) (slot : ℕ) (command : Command) (r : ReplicaState) → counted ≡ true → (learnt_to counted before slot command (r, [])).1 ≡ [] → All (λ node. node ≡ r.me) before
unfolding learnt_to
learnt-alone true before slot command r c e = sent_others-alone r.me before _ [] e
learnt-alone false before slot command r c e = absurd (cc)

pub last_entry_sent-alone : (o : Option Command) (c : Command) (r : ReplicaState) → Some c ≡ o → last_entry_sent o r [] ≡ [] → All (λ node. node ≡ r.me) (members r)
unfolding last_entry_sent
last_entry_sent-alone None c r is e = absurd (cc)
last_entry_sent-alone (Some d) c r is e = sent_others-alone r.me (members r) _ [] e

pub effect_reported-unreported : (o : Option OrderResult) (result : OrderResult) (command : Command) (r : ReplicaState) → o ≡ Some result → (effect_reported o command (r, [])).1 ≡ [] → order_number command ≡ 0
unfolding effect_reported
effect_reported-unreported None result command r is e = absurd (cc)
effect_reported-unreported (Some other) result command r is e = order_reported-unreported r.me (order_number command) other [] e

-- of the calls, the head is none that is answered
pub next_queued-unanswered : (me : ℕ) (idle : Bool) (core : Core) (backlog : List Command) (c : Command) (answer : AnswerBody)
    → head_waits idle core.lock backlog ≡ false → Some c ≡ head_of backlog → turned_down core c ≡ Some answer
    → (next_queued me idle core backlog []).2 ≡ [] → answered me core.id answer c [] ≡ []
next_queued-unanswered me idle core backlog c answer e is down none =
    next_queued-before me idle core (rest_of backlog) _ (ap (λ (found : Option Command × List Command × List Mail). found.2) (next_queued-answered me idle core backlog [] c answer e is down) ∙ none)

pub next_queued-silent : (me : ℕ) (idle : Bool) (core : Core) (backlog after : List Command) (c : Command) (answer : AnswerBody)
    → after ≡ rest_of backlog → head_waits idle core.lock backlog ≡ false → Some c ≡ head_of backlog → turned_down core c ≡ Some answer
    → (next_queued me idle core backlog []).2 ≡ [] → (next_queued me idle core after []).2 ≡ []
next_queued-silent me idle core backlog after c answer r e is down none =
    ap (λ cs. (next_queued me idle core cs []).2) r
    ∙ ap (λ mails. (next_queued me idle core (rest_of backlog) mails).2) (sym (next_queued-unanswered me idle core backlog c answer e is down none))
    ∙ ap (λ (found : Option Command × List Command × List Mail). found.2) (next_queued-answered me idle core backlog [] c answer e is down)
    ∙ none

-- of what is in flight, asked again
asked_for-before : (o : Option Command) (r : ReplicaState) (slot : ℕ) (set : List ℕ) (mails : List Mail) → asked_for o r slot set mails ≡ [] → mails ≡ []
asked_for-before None r slot set mails e = e
asked_for-before (Some command) r slot set mails e = sent_all-before r.me (uncounted r slot set) _ mails e

asked_again-before : (r : ReplicaState) (slot : ℕ) (sets : List (List ℕ)) (mails : List Mail) → asked_again r slot sets mails ≡ [] → mails ≡ []
unfolding asked_again
asked_again-before r slot [] mails e = e
asked_again-before r slot (set ∷ sets) mails e =
    asked_for-before (flying r slot) r slot set mails (asked_again-before r (slot + 1) sets _ (asked-cons r slot set sets mails ∙ e))

pub asked-none : (r : ReplicaState) (first i slot : ℕ) (sets : List (List ℕ)) (set : List ℕ) → i < length sets → slot ≡ first + i → set ≡ get_or sets i []
    → asked_again r (first + i) (drop i sets) [] ≡ [] → (asked_at r slot set [] ≡ []) × (asked_again r (first + (i + 1)) (drop (i + 1) sets) [] ≡ [])
asked-none r first i slot sets set less at of_slot e =
    let more : List Mail = asked_at r slot set [] in
    let h : asked_again r (first + (i + 1)) (drop (i + 1) sets) more ≡ [] = asked-step r first i slot sets set [] more less at of_slot refl ∙ e in
    let n : more ≡ [] = asked_again-before r (first + (i + 1)) (drop (i + 1) sets) more h in
    (n, ap (asked_again r (first + (i + 1)) (drop (i + 1) sets)) (sym n) ∙ h)

-- of entries
by_entry-before : (o : Option Command) (mails : List Mail) (on : Command → List Mail) → ((command : Command) → on command ≡ [] → mails ≡ [])
    → (let more : List Mail = elim o [ None ↦ mails | Some command ↦ on command ] in more) ≡ [] → mails ≡ []
by_entry-before None mails on rest e = e
by_entry-before (Some command) mails on rest e = rest command e

taught-before : (count : ℕ) (r : ReplicaState) (from slot : ℕ) (mails : List Mail) → taught count r from slot mails ≡ [] → mails ≡ []
unfolding taught
taught-before zero r from slot mails e = e
taught-before (suc count) r from slot mails e =
    by_entry-before (entry_at slot r.log) mails (λ command. taught count r from (slot + 1) (sent r.me from (Learn (name_of r) slot command) mails))
    (λ command h. absurd (one_more mails _ (taught-before count r from (slot + 1) _ h))) e

pub taught-some : (r : ReplicaState) (most sent_count from slot : ℕ) (command : Command) → sent_count < most → entry_at slot r.log ≡ Some command → taught (most - sent_count) r from slot [] ≡ [] → ⊥
taught-some r most sent_count from slot command less e none =
    one_more [] _ (taught-before (most - (sent_count + 1)) r from (slot + 1) _ (taught-step r most sent_count from slot command [] _ less e refl ∙ none))

-- of members that were added
promise-before : (b : Bool) (place : Place) (mail : Mail) → (if b then place else (place.0, place.1 ++ mail ∷ [])).1 ≡ [] → place.1 ≡ []
promise-before true place mail e = e
promise-before false place mail e = absurd (one_more place.1 mail e)

welcomed_all-before : (nodes : List ℕ) (place : Place) → (welcomed_all nodes place).1 ≡ [] → place.1 ≡ []
unfolding welcomed_all install_to
welcomed_all-before [] place e = e
welcomed_all-before (node ∷ nodes) place e =
    absurd (one_more place.1 _ (promise-before place.0.leader.is_first (install_to node place) _ (welcomed_all-before nodes (asked_to_promise node (install_to node place)) e)))

pub welcomed_all-none : (nodes : List ℕ) (place : Place) → (welcomed_all nodes place).1 ≡ [] → nodes ≡ []
unfolding welcomed_all install_to
welcomed_all-none [] place e = refl
welcomed_all-none (node ∷ nodes) place e =
    absurd (one_more place.1 _ (promise-before place.0.leader.is_first (install_to node place) _ (welcomed_all-before nodes (asked_to_promise node (install_to node place)) e)))

pub welcomed-none : (counted : Bool) (before : List ℕ) (r : ReplicaState) → counted ≡ true → (welcomed counted before (r, [])).1 ≡ [] → filter (λ node. not (is_member before node)) (members r) ≡ []
unfolding welcomed
welcomed-none true before r c e = welcomed_all-none (filter (λ node. not (is_member before node)) (members r)) (r, []) e
welcomed-none false before r c e = absurd (cc)

-- of those whose vote was not counted
pub asked_for-none : (o : Option Command) (c : Command) (r : ReplicaState) (slot : ℕ) (set : List ℕ) → Some c ≡ o → asked_for o r slot set [] ≡ [] → uncounted r slot set ≡ []
asked_for-none None c r slot set is e = absurd (cc)
asked_for-none (Some d) c r slot set is e = sent_all-none r.me (uncounted r slot set) _ [] e

pub uncounted-none : (r : ReplicaState) (slot : ℕ) (set : List ℕ) → uncounted r slot set ≡ [] → All (λ node. has_counted slot node r.leader ≡ true) set
uncounted-none r slot set e = filter-none (λ node. has_counted slot node r.leader) set e
