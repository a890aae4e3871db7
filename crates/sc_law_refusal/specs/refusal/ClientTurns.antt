-- A client over a lawful journal: it sends its requests one after another, and ends with the last.
use Rattle.std.specs.Prelude.{◌≡◌, ℕ, ◌+◌, nat_le, List, [], ◌∷◌, ◌++◌, length, Option, Some, None, ◌⊎◌, if◌then◌else◌}
use Rattle.sc_node_table.specs.Values.{Op, Reply, Input, OrderLine, Mail}
use Rattle.sc_actor.specs.declared.rows.Input.TheVariants.{Go}
use Rattle.sc_client_table.specs.table.TableDefinitions.{Client, InTurn, IsReplyTo, Waits}

-- a number, where there is a request with it
abbrev pub number_in : List Op → ℕ → Option ℕ
number_in requests seq = if nat_le seq (length requests) then Some seq else None

-- the first request begins, at `go`, where the client had begun none
pub record Starts (before after : Client) (input : Input Mail OrderLine) : Type 0 where
  pub go : input ≡ Go
  pub fresh : before.waiting ≡ None
  pub unanswered : before.replies ≡ []
  pub number : after.waiting ≡ number_in after.requests 1
  pub replies : after.replies ≡ []

-- the client takes the reply to the waiting request, and the next one begins; none waits after it only where that was the last
pub record GoesOn (before after : Client) (input : Input Mail OrderLine) : Type 0 where
  pub seq : ℕ
  pub reply : Reply
  pub is_reply : IsReplyTo seq reply input
  pub waited : before.waiting ≡ Some seq
  pub number : after.waiting ≡ number_in after.requests (seq + 1)
  pub replies : after.replies ≡ before.replies ++ reply ∷ []

-- what an input makes of a client and its mail in a lawful journal: what it makes of any client; the waiting request has the next number after the replies; and either nothing begins, or the first or the next request does
pub record KeepsTurn (before after : Client) (input : Input Mail OrderLine) (mails : List Mail) : Type 0 where
  pub turn : InTurn before after input mails
  pub rises : (seq : ℕ) → after.waiting ≡ Some seq → seq ≡ length after.replies + 1
  pub moves : Waits before after ⊎ Starts before after input ⊎ GoesOn before after input
