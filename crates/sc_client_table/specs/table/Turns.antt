-- What holds of a client for every input: at most one request waits at a time.
use Rattle.std.specs.Prelude.{◌≡◌, ℕ, ◌+◌, List, [], ◌∷◌, ◌++◌, Some, None, ◌⊎◌}
use Rattle.sc_base.specs.declared.names.Draw.{Draw}
use Rattle.sc_base.specs.declared.ops.Op.{Op}
use Rattle.sc_base.specs.declared.ops.Reply.{Reply}
use Rattle.sc_actor.specs.declared.rows.Input.{Input}
use Rattle.sc_actor.specs.declared.rows.Input.TheVariants.{Got, Go}
use Rattle.sc_words.specs.declared.commands.orders.OrderLine.{OrderLine}
use Rattle.sc_mail.specs.declared.bodies.Mail.{Mail}
use Rattle.sc_mail.specs.declared.bodies.MailBody.TheVariants.{Answer}
use Rattle.sc_mail.specs.declared.bodies.AnswerBody.TheVariants.{Value}
use Rattle.sc_client_table.specs.table.Client.{Client, waiting_request}
use Rattle.sc_client_table.specs.table.Table.{table, request_of}

-- the mail sent is none, or the waiting request alone
abbrev pub SendsWaiting : Client → List Mail → Type 0
SendsWaiting client mails = (mails ≡ []) ⊎ ((group : Draw) × (target : ℕ) × (request : ℕ × Op) × (waiting_request client ≡ Some request) × (mails ≡ request_of client.me group target request ∷ []))

-- the input is a reply to the request with this number
abbrev pub IsReplyTo : ℕ → Reply → Input Mail OrderLine → Type 0
IsReplyTo seq reply input = (mail : Mail) × (group : Draw) × (input ≡ Got mail) × (mail.body ≡ Answer group seq (Value reply))

-- the request that waited before waits still, and no reply is kept
pub record Waits (before after : Client) : Type 0 where
  pub number : after.waiting ≡ before.waiting
  pub replies : after.replies ≡ before.replies

-- the client starts: the first request waits, or none where it has no requests
pub record Begins (before after : Client) (input : Input Mail OrderLine) : Type 0 where
  pub go : input ≡ Go
  pub number : (after.waiting ≡ Some 1) ⊎ (after.waiting ≡ None)
  pub replies : after.replies ≡ before.replies

-- the reply to the waiting request is kept, and the next request waits, or none where that was the last
pub record TakesReply (before after : Client) (input : Input Mail OrderLine) : Type 0 where
  pub seq : ℕ
  pub reply : Reply
  pub is_reply : IsReplyTo seq reply input
  pub waited : before.waiting ≡ Some seq
  pub number : (after.waiting ≡ Some (seq + 1)) ⊎ (after.waiting ≡ None)
  pub replies : after.replies ≡ before.replies ++ reply ∷ []

-- a client keeps its number and its requests, sends at most the waiting request, and goes on, starts or keeps a reply in turn
pub record InTurn (before after : Client) (input : Input Mail OrderLine) (mails : List Mail) : Type 0 where
  pub me : after.me ≡ before.me
  pub requests : after.requests ≡ before.requests
  pub sends : SendsWaiting after mails
  pub moves : Waits before after ⊎ Begins before after input ⊎ TakesReply before after input

-- every client acts in turn on every input
abbrev pub SendsInTurn : Type 0
SendsInTurn = (client : Client) (input : Input Mail OrderLine) → InTurn client (table client input).0 input (table client input).1
