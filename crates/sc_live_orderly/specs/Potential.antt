-- What actors and pending mail owe: an upper bound of the deliveries that are still to come.
use Rattle.std.specs.Prelude.{◌≡◌, ℕ, ◌+◌, ◌==◌, ◌≤◌, List, [], ◌∷◌, ◌++◌, sum_by, find, true, Some}
use Rattle.sc_base.specs.Definitions.{Each}
use Rattle.sc_actor.specs.declared.actors.Seat.{Seat}
use Rattle.sc_actor.specs.declared.rows.Event.TheVariants.{Deliver, Go}
use Rattle.sc_actor.specs.declared.rows.Input.TheVariants.{Got, Go as GoInput}
use Rattle.sc_actor.specs.declared.rows.Row.{Row}
use Rattle.sc_actor.specs.declared.schedules.Line.{Line}
use Rattle.sc_actor.specs.declared.schedules.Line.TheVariants.{Go as GoLine, Deliver as DeliverLine, Drop as DropLine, Again as AgainLine, Tick as TickLine, Crash as CrashLine, Told as ToldLine, Settle, Free, Storm}
use Rattle.sc_actor.specs.Definitions.{mails, copies, numbered, value, System, row_of, IsLawful}
use Rattle.sc_live_orderly.specs.OrderedRows.{mail_with, is_born}

-- How many deliveries an actor, and a mail, may still cause.
pub record Owing (A M : Type 0) : Type 0 where
  pub actor : A → ℕ
  pub mail : M → ℕ

-- The mails under way to actors of the system, each repeated once for each of its copies.
abbrev pub under_way : {A M O : Type 0} → System A M O → List (Row M O) → List M
under_way s rows = mail_with (λ mail. is_born s (s.receiver mail)) (mails rows) (copies rows)

-- The sum of what all actors owe at birth.
abbrev pub owed_at_birth : {A M O : Type 0} → System A M O → Owing A M → ℕ
owed_at_birth s owing = sum_by (λ seat. owing.actor seat.actor) s.births

-- What is owed after these rows: by all actors, and by the mail under way to actors.
abbrev pub owed : {A M O : Type 0} → System A M O → Owing A M → List (Row M O) → ℕ
owed s owing rows =
    sum_by (λ seat. owing.actor (value s.table seat rows)) s.births + sum_by owing.mail (under_way s rows)

-- What an actor and the mails that it sends owe together.
abbrev pub owed_by : {A M : Type 0} → Owing A M → A × List M → ℕ
owed_by owing acted = owing.actor acted.0 + sum_by owing.mail acted.1

-- In each lawful journal of these lines, each delivery lowers what is owed by at least one, an actor that goes does not raise it, and each mail owes at least one.
pub record Lowers {A M O : Type 0} (s : System A M O) (owing : Owing A M) (lines : List (Line O)) : Type 0 where
  pub delivery : (rows : List (Row M O)) (seat : Seat A) (number : ℕ) (mail : M) →
      find (λ other. other.who == seat.who) s.births ≡ Some seat →
      numbered (mails rows) number ≡ Some mail →
      IsLawful s lines (rows ++ row_of s.table seat rows (Deliver number) ∷ []) →
      1 + owed_by owing (s.table (value s.table seat rows) (Got mail)) ≤ owing.actor (value s.table seat rows) + owing.mail mail
  pub go : (rows : List (Row M O)) (seat : Seat A) →
      find (λ other. other.who == seat.who) s.births ≡ Some seat →
      IsLawful s lines (rows ++ row_of s.table seat rows Go ∷ []) →
      owed_by owing (s.table (value s.table seat rows) GoInput) ≤ owing.actor (value s.table seat rows)
  pub mail : (rows : List (Row M O)) → IsLawful s lines rows → Each (λ mail. 1 ≤ owing.mail mail) (mails rows)

-- Each mail in each lawful journal of these lines has an actor of the system as its receiver.
abbrev pub SendsToActors : {A M O : Type 0} → System A M O → List (Line O) → Type 0
SendsToActors {A} {M} {O} s lines = (rows : List (Row M O)) → IsLawful s lines rows → Each (λ mail. is_born s (s.receiver mail) ≡ true) (mails rows)

-- A `settle` or `free` line may make at least this many deliveries; nothing is asked of other lines.
abbrev pub HasRoom : {O : Type 0} → ℕ → Line O → Type 0
HasRoom deliveries (Settle most) = deliveries ≤ most
HasRoom deliveries (Free most workers) = deliveries ≤ most
HasRoom deliveries (GoLine who) = Unit {0}
HasRoom deliveries (DeliverLine who k) = Unit {0}
HasRoom deliveries (DropLine who k) = Unit {0}
HasRoom deliveries (AgainLine mail) = Unit {0}
HasRoom deliveries (TickLine who) = Unit {0}
HasRoom deliveries (CrashLine who) = Unit {0}
HasRoom deliveries (ToldLine who order) = Unit {0}
HasRoom deliveries (Storm number most) = Unit {0}
