-- A company, which is the network's port, the shells of all actors and the score, before and after a row or a line.
use Rattle.std.specs.Prelude.{◌≡◌, ℕ, ◌-◌, List, [], ◌∷◌, Bool, Option, Result, Ok, Err, ⊤, false}
use Rattle.sc_actor.specs.declared.actors.Actor.{Ghosts}
use Rattle.sc_actor.specs.declared.actors.Parcel.{Ghosts as MailGhosts}
use Rattle.sc_actor.specs.declared.actors.Seat.{Seat}
use Rattle.sc_actor.specs.declared.rows.Event.{Event}
use Rattle.sc_actor.specs.declared.rows.Row.{Row}
use Rattle.sc_actor.specs.Counted.{IsFull}
use Rattle.sc_actor.specs.declared.schedules.Line.{Line}
use Rattle.sc_actor.specs.declared.schedules.Played.{Played}
use Rattle.sc_actor.specs.declared.schedules.Played.TheVariants.{Ended, Full as TooMuch, OutOfMemory as NoRoom}
use Rattle.sc_actor.specs.System.{System, system}
use Rattle.sc_actor.specs.Walk.{Task, Settles}
use Rattle.sc_thread_ports.specs.exchange.Ports.{seen}
use Rattle.sc_thread_ports.specs.declared.exchange.fates.Fate.{Fate}
use Rattle.sc_thread_work.specs.declared.shell.turns.Turn.{Turn}
use Rattle.sc_thread_drive.specs.declared.company.Company.{Company}
use Rattle.sc_thread_ledger.specs.declared.errors.PostError.{PostError}
use Rattle.sc_thread_ledger.specs.declared.errors.PostError.TheVariants.{JournalFull, OutOfMemory}
use Rattle.sc_thread_drive.specs.Acts.{IsEventAnswer, AfterTurnAll, SoundAfter, AfterEventAll}
use Rattle.sc_thread_drive.specs.Changing.{ChangesAll}
use Rattle.sc_thread_drive.specs.Companies.{AtBirth, IsCompany}
use Rattle.sc_thread_drive.specs.Goings.{Fills, Goes, HasEnded, IsKept, IsOn, IsTogether, MakesSo, MayGo, StaysSo}
use Rattle.sc_thread_drive.specs.Lowest.{FindsLowest, Rests}

module _ {A M O : Type 0} {g : Ghosts A M O} {h : MailGhosts M} where
  -- All shells of the company have gathered.
  abbrev pub AreTogether : Company A M O g h → Type 0
  AreTogether c = IsTogether c.net c.shells.items

  -- The shells of the company are those of all actors of some births.
  abbrev pub IsStaffed : Company A M O g h → Type 0
  IsStaffed c = (births : List (Seat A)) × IsCompany births c.net c.shells.items

  -- The shells of the company are those of all actors of some births, and the actor `who` has not crashed.
  abbrev pub MayTakeEvent : ℕ → Company A M O g h → Type 0
  MayTakeEvent who c = MayGo who c.net c.shells.items

  -- The company at the beginning: its actors are at their births, no row was made, and the score is empty.
  pub record HasOpened (births : List (Seat A)) (c : Company A M O g h) : Type 0 where
    pub birth : AtBirth births c.net c.shells.items
    pub none_skipped : c.score.skipped ≡ 0
    pub settled : c.score.unsettled ≡ false
    pub none_started : c.score.started.items ≡ []

  -- The company `d` has the actors of `c` in the same order, and all have gathered.
  abbrev pub StaysWhole : Company A M O g h → Company A M O g h → Type 0
  StaysWhole c d = IsKept c.net c.shells.items d.net d.shells.items

  -- The step that may make the row `may` has ended: `made` says whether there was such a row, which then was made. The score is as before.
  pub record RowEnded (may : System A M O → List (Row M O) → Option (Row M O)) (c d : Company A M O g h) (made : Bool) : Type 0 where
    pub on : IsOn c.net c.shells.items d.net d.shells.items
    pub row : MakesSo may c.net c.shells.items d.net d.shells.items (Ok made)
    pub score : d.score ≡ c.score

  -- The row `may` would pass the limit, and was not made. The score is as before.
  pub record RowRefused (may : System A M O → List (Row M O) → Option (Row M O)) (bytes : ℕ) (c d : Company A M O g h) : Type 0 where
    pub kept : StaysWhole c d
    pub row : MakesSo may c.net c.shells.items d.net d.shells.items (Err (JournalFull bytes))
    pub score : d.score ≡ c.score

  -- The outcome of a step that may make the row `may`; memory runs out only where there is such a row.
  abbrev pub RowEnds : (System A M O → List (Row M O) → Option (Row M O)) → Company A M O g h → Company A M O g h → Result Bool PostError → Type 0
  RowEnds may c d (Ok made) = RowEnded may c d made
  RowEnds may c d (Err (JournalFull bytes)) = RowRefused may bytes c d
  RowEnds may c d (Err OutOfMemory) = MakesSo may c.net c.shells.items d.net d.shells.items (Err OutOfMemory)

  -- The driver went on from the tasks `tasks` to the tasks `left`.
  pub record LineEnded (tasks left : List (Task O)) (c d : Company A M O g h) : Type 0 where
    pub on : IsOn c.net c.shells.items d.net d.shells.items
    pub goes : Goes c.net c.shells.items c.score tasks d.net d.shells.items d.score left

  -- In the tasks `tasks` the driver came to a row that would pass the limit.
  pub record LineRefused (tasks : List (Task O)) (c d : Company A M O g h) : Type 0 where
    pub kept : StaysWhole c d
    pub fills : Fills c.net c.shells.items c.score tasks d.net

  -- An event happened to the actor at this place, and all gathered.
  pub record ActedOnEvent (place : ℕ) (event : Event O) (turn : Turn) (c d : Company A M O g h) : Type 0 where
    pub kept : StaysWhole c d
    pub sound : SoundAfter turn d.shells.items
    pub answer : IsEventAnswer turn
    pub reported : AfterEventAll place event c.net d.net c.shells.items d.shells.items turn
    pub score : d.score ≡ c.score

  -- The actor at this place took a turn, and all gathered.
  pub record ActedByTurn (place k : ℕ) (turn : Turn) (c d : Company A M O g h) : Type 0 where
    pub kept : StaysWhole c d
    pub sound : SoundAfter turn d.shells.items
    pub served : AfterTurnAll place k c.net d.net c.shells.items d.shells.items turn
    pub score : d.score ≡ c.score

  -- The network's port lost or repeated the mail, or not, by the result, and all gathered.
  pub record NetworkActed (fate : Fate) (number : ℕ) (c d : Company A M O g h) (result : Result Bool PostError) : Type 0 where
    pub stands : StaysSo result c.net c.shells.items d.net d.shells.items
    pub changes : ChangesAll fate number c.net d.net c.shells.items d.shells.items result
    pub score : d.score ≡ c.score

  -- All gathered once more, and no row was made.
  pub record HasRested (c d : Company A M O g h) : Type 0 where
    pub on : IsOn c.net c.shells.items d.net d.shells.items
    pub rests : Rests c.net c.shells.items d.net d.shells.items
    pub score : d.score ≡ c.score

  -- All gathered once more, and then the lowest-numbered pending mail goes to the shell at the place `found`, or there is none.
  pub record HasFound (c d : Company A M O g h) (found : Option ℕ) : Type 0 where
    pub rested : HasRested c d
    pub finds : FindsLowest d.net d.shells.items found

  -- One of `left` deliveries of a `settle` line was made, and `found` is the place of the shell that gets the next.
  pub record HasSettledOne (left : ℕ) (c d : Company A M O g h) (found : Option ℕ) : Type 0 where
    pub line : LineEnded (Settles left ∷ []) (Settles (left - 1) ∷ []) c d
    pub staffed : (births : List (Seat A)) → IsCompany births c.net c.shells.items → IsCompany births d.net d.shells.items
    pub finds : FindsLowest d.net d.shells.items found
    pub score : d.score ≡ c.score

  -- The outcome of a schedule. With `Ended` the journal is lawful, whole and within the limit, the lines cut off and skipped are those of the walk, `quiet` says whether no mail is pending, and each actor is the replay of its rows. With `Full` a row that may come next would pass the limit. Where memory ran out nothing is said.
  abbrev pub IsDriven : (ℕ → ℕ → ℕ × ℕ) → List (Seat A) → List (Line O) → ℕ → Company A M O g h → Played → Type 0
  IsDriven words births lines limit c (Ended cut quiet skips) = HasEnded words births lines c.net c.shells.items cut quiet skips
  IsDriven words births lines limit c TooMuch = IsFull (system g.table h.receiver words births) h.weighs lines limit (seen c.net)
  IsDriven words births lines limit c NoRoom = ⊤
