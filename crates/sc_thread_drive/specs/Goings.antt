-- How far a driver has come in the walk of a schedule. The walk is the list of tasks that the lines leave to be done.
use Rattle.std.specs.Prelude.{◌≡◌, ℕ, ◌≤◌, List, ◌++◌, Bool, true, false, Option, option_and_then, Result, Ok, Err, ⊤, Contains}
use Rattle.sc_actor.specs.declared.actors.Actor.{Ghosts}
use Rattle.sc_actor.specs.declared.actors.Parcel.{Ghosts as MailGhosts}
use Rattle.sc_actor.specs.declared.actors.Seat.{Seat}
use Rattle.sc_actor.specs.declared.rows.Event.{Event}
use Rattle.sc_actor.specs.declared.rows.Event.TheVariants.{Go as GoEvent}
use Rattle.sc_actor.specs.declared.rows.Row.{Row}
use Rattle.sc_actor.specs.declared.schedules.Line.{Line}
use Rattle.sc_actor.specs.declared.schedules.Line.TheVariants.{Go, Crash, Settle, Free, Storm}
use Rattle.sc_actor.specs.Counted.{journal_bytes, IsFull}
use Rattle.sc_actor.specs.Mail.{has_crashed}
use Rattle.sc_actor.specs.Replay.{values}
use Rattle.sc_actor.specs.System.{System, system, acts, has_started}
use Rattle.sc_actor.specs.Walk.{Task, IsLawful, IsWhole, place_after, onward, line_row, skipped, unsettled, is_quiet}
use Rattle.sc_thread_ports.specs.declared.exchange.ports.Port.{Port}
use Rattle.sc_thread_ports.specs.exchange.Ports.{seen, Stays, IsTrue}
use Rattle.sc_thread_workers.specs.Crews.{AllOf, AllOver, AllSound, IsCrew, crew_numbers}
use Rattle.sc_thread_work.specs.declared.shell.shells.Shell.{Shell}
use Rattle.sc_thread_drive.specs.declared.company.Score.{Score}
use Rattle.sc_thread_ledger.specs.declared.errors.PostError.{PostError}
use Rattle.sc_thread_ledger.specs.declared.errors.PostError.TheVariants.{JournalFull, OutOfMemory}
use Rattle.sc_thread_drive.specs.Numbers.{is_in}
use Rattle.sc_thread_drive.specs.Companies.{IsCompany, seats}
use Rattle.sc_thread_drive.specs.Stepping.{Stepped, unless_crashed}

-- The line makes at most one row, and is no `go` line.
abbrev pub IsCalm : {O : Type 0} → Line O → Type 0
IsCalm (Go who) = ⊥
IsCalm (Settle most) = ⊥
IsCalm (Free most workers) = ⊥
IsCalm (Storm number most) = ⊥
IsCalm line = ⊤

-- No actor that has a `go` line has a `crash` line.
abbrev pub SparesGoers : {O : Type 0} → List (Line O) → Type 0
SparesGoers lines = (who : ℕ) → Contains lines (Go who) → ¬ Contains lines (Crash who)

module _ {A M O : Type 0} {g : Ghosts A M O} {h : MailGhosts M} where
  -- The shells are those of all actors of some births, and the actor `who` has not crashed.
  abbrev pub MayGo : ℕ → Port M O h → List (Shell A M O g h) → Type 0
  MayGo who net ss = (births : List (Seat A)) × IsCompany births net ss × (has_crashed (seen net) who ≡ false)

  -- The outcome of a step that may make the row `may`, for all words and births: the row is made, or there is none, or it would pass the limit (`Stepped`).
  abbrev pub MakesSo : (System A M O → List (Row M O) → Option (Row M O)) → Port M O h → List (Shell A M O g h) → Port M O h → List (Shell A M O g h) → Result Bool PostError → Type 0
  MakesSo may net ss next after step =
      (words : ℕ → ℕ → ℕ × ℕ) (births : List (Seat A)) → IsCompany births net ss → Stepped (system g.table h.receiver words births) (may (system g.table h.receiver words births) (seen net)) net next after step

  -- The outcome of a step that may make the row of this line.
  abbrev pub LineMade : Line O → Port M O h → List (Shell A M O g h) → Port M O h → List (Shell A M O g h) → Result Bool PostError → Type 0
  LineMade line = MakesSo (λ s rows. line_row s rows line)

  -- The outcome of a step that may make the row of this line, if there is a line.
  abbrev pub DeedMade : Option (Line O) → Port M O h → List (Shell A M O g h) → Port M O h → List (Shell A M O g h) → Result Bool PostError → Type 0
  DeedMade line = MakesSo (λ s rows. option_and_then (line_row s rows) line)

  -- The outcome of a step that may make the row of this event of the actor, unless it has crashed.
  abbrev pub EventMade : ℕ → Event O → Port M O h → List (Shell A M O g h) → Port M O h → List (Shell A M O g h) → Result Bool PostError → Type 0
  EventMade who event = MakesSo (λ s rows. unless_crashed s rows who event)

  -- The outcome of a step that may make the row of the actor's Go.
  abbrev pub GoMade : ℕ → Port M O h → List (Shell A M O g h) → Port M O h → List (Shell A M O g h) → Result Bool PostError → Type 0
  GoMade who = MakesSo (λ s rows. acts s rows who GoEvent)

  -- The outcome of a line of one row, where the score has the actors that have a Go row.
  abbrev pub StepsSo : Line O → Port M O h → List (Shell A M O g h) → Score → Port M O h → List (Shell A M O g h) → Result Bool PostError → Type 0
  StepsSo line net ss score next after step =
      (words : ℕ → ℕ → ℕ × ℕ) (births : List (Seat A)) → IsCompany births net ss → ((who : ℕ) → has_started (seen net) who ≡ is_in who score.started.items) → Stepped (system g.table h.receiver words births) (line_row (system g.table h.receiver words births) (seen net) line) net next after step

  -- What the network's port has seen is a lawful journal within the limit; after it the walk has these tasks left, with the counts of the score; and all shells have gathered.
  pub record HasReached (words : ℕ → ℕ → ℕ × ℕ) (births : List (Seat A)) (lines : List (Line O)) (net : Port M O h) (ss : List (Shell A M O g h)) (score : Score) (tasks : List (Task O)) : Type 0 where
    pub lawful : IsLawful (system g.table h.receiver words births) lines (seen net)
    pub place : place_after (system g.table h.receiver words births) lines (seen net) ≡ onward (system g.table h.receiver words births) (seen net) tasks score.skipped score.unsettled
    pub company : IsCompany births net ss
    pub reported : (who : ℕ) → is_in who score.started.items ≡ has_started (seen net) who
    pub within : journal_bytes h.weighs (seen net) ≤ net.limit

  -- The driver has gone on from the tasks `before` to the tasks `left`: wherever it had reached `before` and any further tasks, it has reached `left` and the same further tasks.
  abbrev pub Goes : Port M O h → List (Shell A M O g h) → Score → List (Task O) → Port M O h → List (Shell A M O g h) → Score → List (Task O) → Type 0
  Goes net ss score before next after now left =
      (words : ℕ → ℕ → ℕ × ℕ) (births : List (Seat A)) (lines : List (Line O)) (rest : List (Task O)) → HasReached words births lines net ss score (before ++ rest) → HasReached words births lines next after now (left ++ rest)

  -- The journal is full: wherever the driver had reached the tasks `before` and any further tasks, a row that may come next would pass the limit.
  abbrev pub Fills : Port M O h → List (Shell A M O g h) → Score → List (Task O) → Port M O h → Type 0
  Fills net ss score before next =
      (words : ℕ → ℕ → ℕ × ℕ) (births : List (Seat A)) (lines : List (Line O)) (rest : List (Task O)) → HasReached words births lines net ss score (before ++ rest) → IsFull (system g.table h.receiver words births) h.weighs lines net.limit (seen next)

  -- The shells are of the same actors in the same order and of the same exchange, and no port was split off or joined. The network's port has seen every row that a shell made, and the rows of each number there are those that its port made.
  pub record IsKept (net : Port M O h) (ss : List (Shell A M O g h)) (next : Port M O h) (after : List (Shell A M O g h)) : Type 0 where
    pub stays : Stays net next
    pub exchange : AllOf next after
    pub same : crew_numbers after ≡ crew_numbers ss
    pub over : AllOver next after
    pub rows : IsTrue next

  -- The shells are of the same actors, all have gathered (`IsKept`), and each shell that is spent has posted a Crash.
  pub record IsOn (net : Port M O h) (ss : List (Shell A M O g h)) (next : Port M O h) (after : List (Shell A M O g h)) : Type 0 where
    pub kept : IsKept net ss next after
    pub sound : AllSound after

  -- The network's port and shells of its exchange, all of which have gathered.
  pub record IsTogether (net : Port M O h) (ss : List (Shell A M O g h)) : Type 0 where
    pub crew : IsCrew net ss
    pub over : AllOver net ss
    pub rows : IsTrue net

  -- What is left of the exchange after a line of one row, by the outcome; nothing is said where memory ran out.
  abbrev pub StaysSo : Result Bool PostError → Port M O h → List (Shell A M O g h) → Port M O h → List (Shell A M O g h) → Type 0
  StaysSo (Ok true) net ss next after = IsOn net ss next after
  StaysSo (Ok false) net ss next after = IsOn net ss next after
  StaysSo (Err (JournalFull bytes)) net ss next after = IsKept net ss next after
  StaysSo (Err OutOfMemory) net ss next after = ⊤

  -- The schedule has ended: the journal is lawful, whole and within the limit; `cut`, `skips` and `quiet` are right (whether a line was cut off, how many lines were skipped, whether no mail is pending); and each actor is the replay of its rows.
  pub record HasEnded (words : ℕ → ℕ → ℕ × ℕ) (births : List (Seat A)) (lines : List (Line O)) (net : Port M O h) (ss : List (Shell A M O g h)) (cut quiet : Bool) (skips : ℕ) : Type 0 where
    pub lawful : IsLawful (system g.table h.receiver words births) lines (seen net)
    pub whole : IsWhole (system g.table h.receiver words births) lines (seen net)
    pub within : journal_bytes h.weighs (seen net) ≤ net.limit
    pub cut_is : cut ≡ unsettled (system g.table h.receiver words births) lines (seen net)
    pub quiet_is : quiet ≡ is_quiet (system g.table h.receiver words births) (seen net)
    pub skips_are : skips ≡ skipped (system g.table h.receiver words births) lines (seen net)
    pub left : seats ss ≡ values g.table births (seen net)
