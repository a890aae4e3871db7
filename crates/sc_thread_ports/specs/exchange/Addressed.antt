-- Which rows may stand in a journal, by the receivers of the mail that they deliver.
use Rattle.std.specs.Prelude.{ℕ, ◌==◌, List, [], ◌∷◌, ◌++◌, Bool, true, false, ◌&&◌, Option, None, Some}
use Rattle.sc_actor.specs.declared.rows.Row.{Row}
use Rattle.sc_actor.specs.declared.rows.Event.{Event}
use Rattle.sc_actor.specs.declared.rows.Event.TheVariants.{Deliver, Drop, Again, Tick, Go, Told, Crash}
use Rattle.sc_actor.specs.Definitions.{numbered}

-- Whether there is a mail, and its receiver is the actor `who`.
abbrev pub is_mail_to : {M : Type 0} → (M → ℕ) → ℕ → Option M → Bool
is_mail_to receiver who None = false
is_mail_to receiver who (Some mail) = receiver mail == who

-- Whether a row with this maker and event may stand where the mails `sent` were sent before it: a delivery is of mail that was sent to the maker, and only the network, 0, loses and repeats mail.
abbrev pub is_addressed : {M O : Type 0} → (M → ℕ) → List M → ℕ → Event O → Bool
is_addressed receiver sent who (Deliver number) = is_mail_to receiver who (numbered sent number)
is_addressed receiver sent who (Drop number) = who == 0
is_addressed receiver sent who (Again number) = who == 0
is_addressed receiver sent who Tick = true
is_addressed receiver sent who Go = true
is_addressed receiver sent who (Told order) = true
is_addressed receiver sent who Crash = true

-- Whether each row may stand where it does, by `is_addressed`, where the mails `sent` were sent before the first.
abbrev pub all_addressed : {M O : Type 0} → (M → ℕ) → List M → List (Row M O) → Bool
all_addressed receiver sent [] = true
all_addressed receiver sent (row ∷ rows) = is_addressed receiver sent row.who row.event && all_addressed receiver (sent ++ row.sent) rows
