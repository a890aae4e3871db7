-- A client sends in turn.
use Rattle.std.proofs.Common.{◌≡◌, ℕ, ◌+◌, Bool, true, false, cond, leb, [], ◌∷◌, ◌++◌, length, Option, Some, None, ◌⊎◌, inl, inr, refl, sym, ap, subst}
use Rattle.std.proofs.lemmas.Bool.{eqb-true}
use Rattle.sc_base.specs.Definitions.{Each}
use Rattle.sc_base.specs.declared.names.Draw.{Draw}
use Rattle.sc_base.specs.declared.ops.Op.{Op}
use Rattle.sc_base.specs.declared.ops.Reply.{Reply}
use Rattle.sc_actor.specs.declared.rows.Input.{Input}
use Rattle.sc_actor.specs.declared.rows.Input.TheVariants.{Got, Tick, Go, Told}
use Rattle.sc_words.specs.declared.commands.orders.OrderLine.{OrderLine}
use Rattle.sc_mail.specs.declared.bodies.Mail.{Mail}
use Rattle.sc_mail.specs.declared.bodies.MailBody.{MailBody}
use Rattle.sc_mail.specs.declared.bodies.MailBody.TheVariants.{Answer, Request}
use Rattle.sc_mail.specs.declared.bodies.AnswerBody.{AnswerBody}
use Rattle.sc_mail.specs.declared.bodies.AnswerBody.TheVariants.{Value, NotLeader, NotMine, Gone, Stale}
use Rattle.sc_client_table.specs.lookup.LookupDefinitions.{KnownGroups, target_in, preferring, passed_on, learnt_from_not_mine, learnt_from_gone}
use Rattle.sc_client_table.specs.table.TableDefinitions.{Client, table, waiting_request, ClientStep, asked_of, sent_to, sent_where, chosen_for, request_sent, started, turned_on, client_ticked, waits_for, was_asked, redirected, answer_taken, got, SendsWaiting, InTurn, SendsInTurn}

-- a step that sends at most the waiting request, and otherwise only learns
record Sent (client : Client) (step : ClientStep) : Type 0 where
  me : step.0.me ≡ client.me
  requests : step.0.requests ≡ client.requests
  number : step.0.waiting ≡ client.waiting
  replies : step.0.replies ≡ client.replies
  sends : SendsWaiting step.0 step.1

silent : (client : Client) → Sent client (client, [])
silent client = record { me = refl; requests = refl; number = refl; replies = refl; sends = inl refl }

asked_sends : (client : Client) (group : Draw) (target : Option ℕ) (request : Option (ℕ × Op)) → waiting_request client ≡ request → Sent client (asked_of client group target request)
asked_sends client group (Some target) (Some request) is = record { me = refl; requests = refl; number = refl; replies = refl; sends = inr (group, target, request, is, refl) }
asked_sends client group (Some target) None is = silent client
asked_sends client group None request is = silent client

to_sends : (group : Draw) (client : Client) → Sent client (sent_to group client)
to_sends group client = asked_sends client group (target_in group client.known) (waiting_request client) refl

where_sends : (client : Client) (group : Option Draw) → Sent client (sent_where client group)
where_sends client (Some group) = to_sends group client
where_sends client None = silent client

sent_sends : (client : Client) → Sent client (request_sent client)
sent_sends client = where_sends client (chosen_for client (waiting_request client))

-- a step of a client that learnt something else before
waits : (client : Client) (input : Input Mail OrderLine) (step : ClientStep) → Sent client step → InTurn client step.0 input step.1
waits client input step is = record { me = is.me; requests = is.requests; sends = is.sends; moves = inl (record { number = is.number; replies = is.replies }) }

-- the request with a number was begun, or none, where there is none
record Started (seq : ℕ) (client : Client) (step : ClientStep) : Type 0 where
  me : step.0.me ≡ client.me
  requests : step.0.requests ≡ client.requests
  number : (step.0.waiting ≡ Some seq) ⊎ (step.0.waiting ≡ None)
  replies : step.0.replies ≡ client.replies
  sends : SendsWaiting step.0 step.1

begun : (seq : ℕ) (client : Client) (step : ClientStep) → Sent (record client { waiting = Some seq }) step → Started seq client step
begun seq client step is = record { me = is.me; requests = is.requests; number = inl is.number; replies = is.replies; sends = is.sends }

is_started : (seq : ℕ) (client : Client) → Started seq client (started seq client)
is_started seq client =
    elim (leb seq (length client.requests)) as (λ b. Started seq client (cond b (request_sent (record client { waiting = Some seq })) (record client { waiting = None }, []))) [
      | true ↦ begun seq client (request_sent (record client { waiting = Some seq })) (sent_sends (record client { waiting = Some seq }))
      | false ↦ record { me = refl; requests = refl; number = inr refl; replies = refl; sends = inl refl }
    ]

begins : (client : Client) → InTurn client (started 1 client).0 Go (started 1 client).1
begins client =
    let is = is_started 1 client in
    record { me = is.me; requests = is.requests; sends = is.sends; moves = inr (inl (record { go = refl; number = is.number; replies = is.replies })) }

takes : (client : Client) (mail : Mail) (group : Draw) (seq : ℕ) (reply : Reply) → mail.body ≡ Answer group seq (Value reply) → client.waiting ≡ Some seq
    → (step : ClientStep) → Started (seq + 1) (record client { replies = client.replies ++ reply ∷ [] }) step → InTurn client step.0 (Got mail) step.1
takes client mail group seq reply body waited step is = record {
  me = is.me;
  requests = is.requests;
  sends = is.sends;
  moves = inr (inr (record { seq = seq; reply = reply; is_reply = (mail, group, refl, body); waited = waited; number = is.number; replies = is.replies }));
}

-- a client that only learnt of other groups
to_known : (client : Client) (known : KnownGroups) (step : ClientStep) → Sent (record client { known = known }) step → Sent client step
to_known client known step is = record { me = is.me; requests = is.requests; number = is.number; replies = is.replies; sends = is.sends }

turned_sends : (group : Draw) (client : Client) → Sent client (turned_on group client)
turned_sends group client = to_known client (passed_on group client.known) (turned_on group client) (to_sends group (record client { known = passed_on group client.known }))

ticks : (client : Client) (seq : Option ℕ) (asked : Option (Draw × ℕ)) → InTurn client (client_ticked client seq asked).0 Tick (client_ticked client seq asked).1
ticks client (Some seq) (Some asked) = waits client Tick (turned_on asked.0 client) (turned_sends asked.0 client)
ticks client (Some seq) None = waits client Tick (client, []) (silent client)
ticks client None asked = waits client Tick (client, []) (silent client)

redirected_sends : (group : Draw) (answer : AnswerBody) (client : Client) → Sent client (redirected group answer client)
redirected_sends group (NotLeader (Some hint)) client = to_known client (preferring group hint client.known) (redirected group (NotLeader (Some hint)) client) (to_sends group (record client { known = preferring group hint client.known }))
redirected_sends group (NotLeader None) client = turned_sends group client
redirected_sends group (NotMine arc succ) client = to_known client (learnt_from_not_mine group arc succ client.known) (redirected group (NotMine arc succ) client) (sent_sends (record client { known = learnt_from_not_mine group arc succ client.known }))
redirected_sends group (Gone into) client = to_known client (learnt_from_gone group into client.known) (redirected group (Gone into) client) (sent_sends (record client { known = learnt_from_gone group into client.known }))
redirected_sends group (Value reply) client = silent client
redirected_sends group (Stale last) client = silent client

where_asked : (test : Bool) (group : Draw) (answer : AnswerBody) (client : Client) → Sent client (cond test (redirected group answer client) (client, []))
where_asked true group answer client = redirected_sends group answer client
where_asked false group answer client = silent client

answers : (client : Client) (mail : Mail) (group : Draw) (seq : ℕ) (answer : AnswerBody) → mail.body ≡ Answer group seq answer → client.waiting ≡ Some seq
    → InTurn client (answer_taken mail.from group seq answer client).0 (Got mail) (answer_taken mail.from group seq answer client).1
answers client mail group seq (Value reply) body waited = takes client mail group seq reply body waited (started (seq + 1) (record client { replies = client.replies ++ reply ∷ [] })) (is_started (seq + 1) (record client { replies = client.replies ++ reply ∷ [] }))
answers client mail group seq (NotLeader hint) body waited = waits client (Got mail) (answer_taken mail.from group seq (NotLeader hint) client) (where_asked (was_asked client.asked mail.from group) group (NotLeader hint) client)
answers client mail group seq (NotMine arc succ) body waited = waits client (Got mail) (answer_taken mail.from group seq (NotMine arc succ) client) (where_asked (was_asked client.asked mail.from group) group (NotMine arc succ) client)
answers client mail group seq (Gone into) body waited = waits client (Got mail) (answer_taken mail.from group seq (Gone into) client) (where_asked (was_asked client.asked mail.from group) group (Gone into) client)
answers client mail group seq (Stale last) body waited = waits client (Got mail) (answer_taken mail.from group seq (Stale last) client) (where_asked (was_asked client.asked mail.from group) group (Stale last) client)

pub waited_for : (waiting : Option ℕ) (seq : ℕ) → waits_for waiting seq ≡ true → waiting ≡ Some seq
waited_for None seq e = absurd (cc)
waited_for (Some number) seq e = ap Some (eqb-true number seq e)

where_waited : (client : Client) (mail : Mail) (group : Draw) (seq : ℕ) (answer : AnswerBody) → mail.body ≡ Answer group seq answer → (test : Bool) → waits_for client.waiting seq ≡ test
    → InTurn client (cond test (answer_taken mail.from group seq answer client) (client, [])).0 (Got mail) (cond test (answer_taken mail.from group seq answer client) (client, [])).1
where_waited client mail group seq answer body true e = answers client mail group seq answer body (waited_for client.waiting seq e)
where_waited client mail group seq answer body false e = waits client (Got mail) (client, []) (silent client)

gets : (client : Client) (mail : Mail) (body : MailBody) → mail.body ≡ body → InTurn client (got mail.from body client).0 (Got mail) (got mail.from body client).1
gets client mail (Answer group seq answer) is = where_waited client mail group seq answer is (waits_for client.waiting seq) refl
gets client mail _ is = waits client (Got mail) (client, []) (silent client)

-- whatever comes, a client sends in turn
pub sends_in_turn : SendsInTurn
sends_in_turn client (Got mail) = gets client mail mail.body refl
sends_in_turn client Tick = ticks client client.waiting client.asked
sends_in_turn client Go = begins client
sends_in_turn client (Told line) = waits client (Told line) (client, []) (silent client)

-- what holds of each request holds of all that a client sends
pub each_request : (P : MailBody → Type 0) → ((group : Draw) (client seq : ℕ) (op : Op) → P (Request group client seq op)) → (client : Client) (input : Input Mail OrderLine) → Each (λ (mail : Mail). P mail.body) (table client input).1
each_request P of client input = elim (sends_in_turn client input).sends [
  | inl none ↦ subst (Each (λ (mail : Mail). P mail.body)) (sym none) tt
  | inr one ↦ subst (Each (λ (mail : Mail). P mail.body)) (sym one.4) (of _ _ _ _, tt)
]
