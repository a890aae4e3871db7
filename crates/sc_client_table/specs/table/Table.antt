-- The transition table of a client: the client after each input, and the mail that it sends.
use Rattle.std.specs.Prelude.{ℕ, ◌+◌, Bool, false, ◌&&◌, ◌==◌, nat_le, List, [], ◌∷◌, ◌++◌, length, Option, Some, None, if◌then◌else◌}
use Rattle.sc_base.specs.Definitions.{client_actor, key_of, pos_of, same_draw}
use Rattle.sc_base.specs.declared.names.Draw.{Draw}
use Rattle.sc_base.specs.declared.ops.Op.{Op}
use Rattle.sc_actor.specs.declared.rows.Input.{Input}
use Rattle.sc_actor.specs.declared.rows.Input.TheVariants.{Got, Tick, Go, Told}
use Rattle.sc_words.specs.declared.commands.orders.OrderLine.{OrderLine}
use Rattle.sc_mail.specs.declared.bodies.Mail.{Mail}
use Rattle.sc_mail.specs.declared.bodies.MailBody.{MailBody}
use Rattle.sc_mail.specs.declared.bodies.MailBody.TheVariants.{Request, Answer, Prepare, Promise, Accept, Accepted, Nack, Learn, Ask, Install, TxPrepare, TxVote, TxOutcome, TxElsewhere, TxWatch, TxWatched, Told as ToldMail}
use Rattle.sc_mail.specs.declared.bodies.AnswerBody.{AnswerBody}
use Rattle.sc_mail.specs.declared.bodies.AnswerBody.TheVariants.{Value, NotLeader, NotMine, Gone, Stale}
use Rattle.sc_client_table.specs.lookup.LookupDefinitions.{chosen, target_in, preferring, passed_on, learnt_from_not_mine, learnt_from_gone}
use Rattle.sc_client_table.specs.table.Client.{Client, waiting_request}

-- a client, and the mail that it sends
abbrev pub ClientStep : Type 0
ClientStep = Client × List Mail

-- the mail that carries a request to a node of a group
abbrev pub request_of : ℕ → Draw → ℕ → ℕ × Op → Mail
request_of me group target request = record { from = client_actor me; to = target; body = Request group me request.0 request.1 }

-- a client after it has sent this request to this node of a group; nothing is sent where there is no such node or request
abbrev pub asked_of : Client → Draw → Option ℕ → Option (ℕ × Op) → ClientStep
asked_of client group (Some target) (Some request) = (record client { asked = Some (group, target) }, request_of client.me group target request ∷ [])
asked_of client group (Some target) None = (client, [])
asked_of client group None request = (client, [])

-- a client after it has sent the waiting request to a group's target
abbrev pub sent_to : Draw → Client → ClientStep
sent_to group client = asked_of client group (target_in group client.known) (waiting_request client)

-- a client after it has sent the waiting request to the chosen group, if one is chosen
abbrev pub sent_where : Client → Option Draw → ClientStep
sent_where client (Some group) = sent_to group client
sent_where client None = (client, [])

-- the group chosen for the position of the waiting request's key, if a request waits
abbrev pub chosen_for : Client → Option (ℕ × Op) → Option Draw
chosen_for client (Some request) = chosen (pos_of (key_of request.1)) client.known
chosen_for client None = None

-- a client after it has sent the waiting request, if there is one, to the group chosen for its key
abbrev pub request_sent : Client → ClientStep
request_sent client = sent_where client (chosen_for client (waiting_request client))

-- a client that begins the request with this number and sends it; no request waits where there is none with this number
abbrev pub started : ℕ → Client → ClientStep
started seq client =
    if nat_le seq (length client.requests) then request_sent (record client { waiting = Some seq })
    else (record client { waiting = None }, [])

-- a client after it has sent the waiting request to the member after a group's target, which becomes the preferred node
abbrev pub turned_on : Draw → Client → ClientStep
turned_on group client = sent_to group (record client { known = passed_on group client.known })

-- a client after a tick: where a request waits, the group asked last is asked again, at its next node
abbrev pub client_ticked : Client → Option ℕ → Option (Draw × ℕ) → ClientStep
client_ticked client (Some seq) (Some asked) = turned_on asked.0 client
client_ticked client (Some seq) None = (client, [])
client_ticked client None asked = (client, [])

-- whether a number is that of the waiting request
abbrev pub waits_for : Option ℕ → ℕ → Bool
waits_for None seq = false
waits_for (Some number) seq = number == seq

-- whether this node and this group were asked last
abbrev pub was_asked : Option (Draw × ℕ) → ℕ → Draw → Bool
was_asked None from group = false
was_asked (Some asked) from group = (asked.1 == from) && same_draw asked.0 group

-- a client after an answer, other than a reply, of the node that was asked: it follows the hint or the route in the answer
abbrev pub redirected : Draw → AnswerBody → Client → ClientStep
redirected group (NotLeader (Some hint)) client = sent_to group (record client { known = preferring group hint client.known })
redirected group (NotLeader None) client = turned_on group client
redirected group (NotMine arc succ) client = request_sent (record client { known = learnt_from_not_mine group arc succ client.known })
redirected group (Gone into) client = request_sent (record client { known = learnt_from_gone group into client.known })
redirected group (Value reply) client = (client, [])
redirected group (Stale last) client = (client, [])

-- a client after an answer to the waiting request: a reply is kept and the next request begun; any other answer counts only from the node that was asked last
abbrev pub answer_taken : ℕ → Draw → ℕ → AnswerBody → Client → ClientStep
answer_taken from group seq (Value reply) client = started (seq + 1) (record client { replies = client.replies ++ reply ∷ [] })
answer_taken from group seq answer client = if was_asked client.asked from group then redirected group answer client else (client, [])

-- a client after a mail: a mail that is no answer to the waiting request is ignored
abbrev pub got : ℕ → MailBody → Client → ClientStep
got from (Answer group seq answer) client = if waits_for client.waiting seq then answer_taken from group seq answer client else (client, [])
got from (Request group to seq op) client = (client, [])
got from (Prepare group ballot from_slot) client = (client, [])
got from (Promise group ballot reports) client = (client, [])
got from (Accept group ballot slot command) client = (client, [])
got from (Accepted group ballot slot) client = (client, [])
got from (Nack group promised) client = (client, [])
got from (Learn group slot command) client = (client, [])
got from (Ask group from_slot) client = (client, [])
got from (Install group slot base sets) client = (client, [])
got from (TxPrepare tx offer) client = (client, [])
got from (TxVote tx coord part vote) client = (client, [])
got from (TxOutcome tx part outcome) client = (client, [])
got from (TxElsewhere tx coord hint) client = (client, [])
got from (TxWatch tx watch) client = (client, [])
got from (TxWatched tx coord part vote) client = (client, [])
got from (ToldMail order result) client = (client, [])

-- the transition table of a client: the client after an input, and the mail that it sends
abbrev pub table : Client → Input Mail OrderLine → ClientStep
table client (Got mail) = got mail.from mail.body client
table client Tick = client_ticked client client.waiting client.asked
table client Go = started 1 client
table client (Told line) = (client, [])
