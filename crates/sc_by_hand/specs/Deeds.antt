-- What two nodes and a client do, one event after another.
use Rattle.std.specs.Prelude.{ℕ, ◌+◌, ◌==◌, ◌||◌, Bool, List, [], ◌∷◌, ◌++◌, if◌then◌else◌, take}
use Rattle.sc_base.specs.Limits.{client_actor}
use Rattle.sc_actor.specs.declared.rows.Event.{Event}
use Rattle.sc_actor.specs.declared.rows.Event.TheVariants.{Deliver, Go}
use Rattle.sc_actor.specs.Mail.{mails}
use Rattle.sc_actor.specs.Replay.{Table, acted, input_of}
use Rattle.sc_by_hand.specs.declared.hand.Hand.{Hand}
use Rattle.sc_by_hand.specs.declared.steps.Log.{Log}

-- a deed: an event, with the number of the actor whose event it is
abbrev pub Deed : Type 0 → Type 0
Deed O = ℕ × Event O

-- ---- what a deed makes

module _ {A M O : Type 0} where
  -- what an event makes of an actor by its table, and what the actor sends
  abbrev pub made : Table A M O → A → Hand A M O → Deed O → A × List M
  made table actor hand deed = acted table actor (input_of (mails hand.log.rows) deed.1)

  -- the log with the row of a deed, and the mail of all rows on the wire
  abbrev pub logged : Hand A M O → Deed O → List M → Log M O
  logged hand deed sent =
      let rows = hand.log.rows ++ record { who = deed.0; event = deed.1; sent = sent } ∷ [] in
      record { rows = rows; wire = mails rows }

  -- all actors and the log after an event of node 1
  abbrev pub after_first : Table A M O → Hand A M O → Deed O → Hand A M O
  after_first table hand deed = let done = made table hand.first hand deed in record hand { first = done.0; log = logged hand deed done.1 }

  -- all actors and the log after an event of node 2
  abbrev pub after_second : Table A M O → Hand A M O → Deed O → Hand A M O
  after_second table hand deed = let done = made table hand.second hand deed in record hand { second = done.0; log = logged hand deed done.1 }

  -- all actors and the log after an event of the client
  abbrev pub after_client : Table A M O → Hand A M O → Deed O → Hand A M O
  after_client table hand deed = let done = made table hand.client hand deed in record hand { client = done.0; log = logged hand deed done.1 }

  -- all actors and the log after an event of node 1, of node 2, or else of the client: the actor becomes what its table gives, and the log has one more row
  abbrev pub after_deed : Table A M O → Hand A M O → Deed O → Hand A M O
  after_deed table hand deed = if deed.0 == 1 then after_first table hand deed else if deed.0 == 2 then after_second table hand deed else after_client table hand deed

-- ---- which deeds

-- whether a number is that of one of the two nodes or of the client
abbrev pub is_here : ℕ → Bool
is_here who = (who == 1) || ((who == 2) || (who == client_actor 1))

module _ {M O : Type 0} where
  -- the delivery of a mail to its receiver; a mail for any other receiver, such as the desk, is not delivered
  abbrev pub delivery : (M → ℕ) → ℕ → M → List (Deed O)
  delivery receiver number mail = if is_here (receiver mail) then (receiver mail, Deliver number) ∷ [] else []

  -- the deliveries of these mails, one after another, whose numbers follow `before`
  abbrev pub deliveries : (M → ℕ) → ℕ → List M → List (Deed O)
  deliveries receiver before [] = []
  deliveries receiver before (mail ∷ more) = delivery receiver (before + 1) mail ++ deliveries receiver (before + 1) more

  -- the client starts, and the first `most` mails are delivered
  abbrev pub deeds_of : (M → ℕ) → ℕ → List M → List (Deed O)
  deeds_of receiver most sent = (client_actor 1, Go) ∷ deliveries receiver 0 (take most sent)
