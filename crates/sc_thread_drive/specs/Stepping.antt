-- What a line of one row does to the journal.
use Rattle.std.specs.Prelude.{◌≡◌, ℕ, ◌+◌, ◌<◌, ◌≤◌, List, [], ◌∷◌, ◌++◌, length, slice_index_or, Bool, true, false, Result, Ok, Err, if◌then◌else◌, Option, None, Some}
use Rattle.sc_actor.specs.declared.actors.Actor.{Ghosts}
use Rattle.sc_actor.specs.declared.actors.Parcel.{Ghosts as MailGhosts}
use Rattle.sc_actor.specs.declared.rows.Row.{Row}
use Rattle.sc_actor.specs.Counted.{row_bytes, journal_bytes}
use Rattle.sc_actor.specs.declared.rows.Event.{Event}
use Rattle.sc_actor.specs.Mail.{has_crashed}
use Rattle.sc_actor.specs.System.{System, acts}
use Rattle.sc_thread_ports.specs.declared.exchange.ports.Port.{Port}
use Rattle.sc_thread_ports.specs.exchange.Ports.{seen}
use Rattle.sc_thread_work.specs.declared.shell.shells.Shell.{Shell}
use Rattle.sc_thread_ledger.specs.declared.errors.PostError.{PostError}
use Rattle.sc_thread_ledger.specs.declared.errors.PostError.TheVariants.{JournalFull, OutOfMemory}
use Rattle.sc_thread_workers.specs.Crews.{crew_numbers}
use Rattle.sc_thread_drive.specs.Numbers.{is_in}
use Rattle.sc_thread_drive.specs.Companies.{IsCompany}

module _ {A M O : Type 0} {g : Ghosts A M O} {h : MailGhosts M} where
  -- The outcome of a step that may make the row `may`: with `true` this row was made, within the limit; with `false` there is no such row; with `JournalFull` it would pass the limit; memory runs out only where there is such a row.
  abbrev pub Stepped : System A M O → Option (Row M O) → Port M O h → Port M O h → List (Shell A M O g h) → Result Bool PostError → Type 0
  Stepped s may net next after (Ok true) =
      IsCompany s.births next after × ((row : Row M O) × (may ≡ Some row) × (seen next ≡ seen net ++ row ∷ [])) × (journal_bytes h.weighs (seen next) ≤ net.limit)
  Stepped s may net next after (Ok false) = IsCompany s.births next after × (may ≡ None) × (seen next ≡ seen net)
  Stepped s may net next after (Err (JournalFull bytes)) = ((row : Row M O) × (may ≡ Some row) × (net.limit < journal_bytes h.weighs (seen net) + row_bytes h.weighs row)) × (seen next ≡ seen net)
  Stepped s may net next after (Err OutOfMemory) = (row : Row M O) × (may ≡ Some row)

  -- The shell of the actor `who` is at this place.
  pub record IsPlace (ss : List (Shell A M O g h)) (who place : ℕ) : Type 0 where
    pub inside : place < length ss
    pub number : (d : Shell A M O g h) → (slice_index_or ss place d).port.who ≡ who

  -- The actor `who` has no shell.
  abbrev pub IsNowhere : List (Shell A M O g h) → ℕ → Type 0
  IsNowhere ss who = is_in who (crew_numbers ss) ≡ false

-- The row of an actor's event, unless the actor has crashed.
abbrev pub unless_crashed : {A M O : Type 0} → System A M O → List (Row M O) → ℕ → Event O → Option (Row M O)
unless_crashed s rows who event = if has_crashed rows who then None else acts s rows who event
