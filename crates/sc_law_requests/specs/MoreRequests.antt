-- A client with more requests makes the same steps, up to the reply to the last of those that it has without them.
use Rattle.std.specs.Prelude.{◌≡◌, ℕ, ◌<◌, ◌≤◌, List, [], ◌∷◌, ◌++◌, length, Some, ⊤}
use Rattle.sc_base.specs.declared.ops.Op.{Op}
use Rattle.sc_base.specs.declared.ops.Reply.{Reply}
use Rattle.sc_actor.specs.declared.rows.Input.{Input}
use Rattle.sc_actor.specs.declared.rows.Input.TheVariants.{Go}
use Rattle.sc_words.specs.declared.commands.orders.OrderLine.{OrderLine}
use Rattle.sc_words.specs.declared.commands.links.Route.{Route}
use Rattle.sc_mail.specs.declared.bodies.Mail.{Mail}
use Rattle.sc_client_table.specs.table.Client.{Client, born_client}
use Rattle.sc_client_table.specs.table.Table.{ClientStep, table}
use Rattle.sc_client_table.specs.table.Turns.{IsReplyTo}

-- a client with these requests behind its own
abbrev pub with_more : List Op → Client → Client
with_more more client = record client { requests = client.requests ++ more }

-- a step of a client, with these requests behind its own
abbrev pub step_with_more : List Op → ClientStep → ClientStep
step_with_more more step = (with_more more step.0, step.1)

-- the input asks for no request behind the last: it starts the client only where there is a request, and is no reply to the last
pub record IsWithin (client : Client) (input : Input Mail OrderLine) : Type 0 where
  pub begins : input ≡ Go → 1 ≤ length client.requests
  pub replied : (seq : ℕ) (reply : Reply) → client.waiting ≡ Some seq → IsReplyTo seq reply input → seq < length client.requests

-- the request that waits is one of the client's
pub record WaitsForOwn (client : Client) : Type 0 where
  pub least : (seq : ℕ) → client.waiting ≡ Some seq → 1 ≤ seq
  pub most : (seq : ℕ) → client.waiting ≡ Some seq → seq ≤ length client.requests

-- what a client sends at each of some inputs, one after another, and the client afterwards
abbrev pub steps : Client → List (Input Mail OrderLine) → Client × List (List Mail)
steps client [] = (client, [])
steps client (input ∷ inputs) =
    let step = table client input in
    let rest = steps step.0 inputs in
    (rest.0, step.1 ∷ rest.1)

-- each of these inputs asks for no request behind the last
abbrev pub AreWithin : Client → List (Input Mail OrderLine) → Type 0
AreWithin client [] = ⊤
AreWithin client (input ∷ inputs) = IsWithin client input × AreWithin (table client input).0 inputs

-- a step is the same with more requests
abbrev pub StepsAreSame : Type 0
StepsAreSame = (client : Client) (more : List Op) (input : Input Mail OrderLine) → WaitsForOwn client → IsWithin client input
    → table (with_more more client) input ≡ step_with_more more (table client input)

-- from the birth on all steps are the same with more requests: the same mail is sent, and the client is the same but for its requests
abbrev pub SameWithMoreRequests : Type 0
SameWithMoreRequests = (me : ℕ) (ops more : List Op) (first : Route) (inputs : List (Input Mail OrderLine)) → AreWithin (born_client me ops first) inputs
    → steps (born_client me (ops ++ more) first) inputs ≡ (with_more more (steps (born_client me ops first) inputs).0, (steps (born_client me ops first) inputs).1)
