-- How a stage moves along the walk of a schedule.
use Rattle.std.specs.Prelude.{◌≡◌, ℕ, List, [], ◌∷◌, ◌++◌, Bool, true, false}
use Rattle.sc_actor.specs.declared.rows.Row.{Row}
use Rattle.sc_actor.specs.declared.actors.Seat.{Seat}
use Rattle.sc_actor.specs.declared.schedules.Line.{Line}
use Rattle.sc_actor.specs.Mail.{mails}
use Rattle.sc_actor.specs.Replay.{Table, values}
use Rattle.sc_actor.specs.System.{System, system, are_apart}
use Rattle.sc_actor.specs.Walk.{Task, Settles, Frees, IsLawful, place_after, onward}
use Rattle.sc_world_replay.specs.declared.stages.Stage.{Stage}
use Rattle.sc_world_replay.specs.declared.stages.Action.{Action}
use Rattle.sc_world_replay.specs.Stages.{Makes}

-- The rows of the stage are lawful, the walk after them has these tasks left with the counts of the stage, each actor is the replay of its rows, and the numbers of the births differ.
pub record IsStageAt {A M O : Type 0} (s : System A M O) (lines : List (Line O)) (stage : Stage A M O) (tasks : List (Task O)) : Type 0 where
  pub lawful : IsLawful s lines stage.rows
  pub place : place_after s lines stage.rows ≡ onward s stage.rows tasks stage.skipped stage.unsettled
  pub seats : stage.seats.items ≡ values s.table s.births stage.rows
  pub apart : are_apart s.births ≡ true

-- What stays the same in one check: the actors' table, and the receiver of each mail.
pub record Rules (A M O : Type 0) : Type 0 where
  pub table : Table A M O
  pub receiver : M → ℕ

-- The rules made of a table and of the receivers.
abbrev pub rules_of : {A M O : Type 0} → Table A M O → (M → ℕ) → Rules A M O
rules_of table receiver = record { table = table; receiver = receiver }

-- The system of these rules with these storm words and births.
abbrev pub with_births : {A M O : Type 0} → Rules A M O → (ℕ → ℕ → ℕ × ℕ) → List (Seat A) → System A M O
with_births r words births = system r.table r.receiver words births

-- The action was done between the two stages: its row was appended, and the actor has stepped.
pub record Did {A M O : Type 0} (r : Rules A M O) (old new : Stage A M O) (action : Action O) : Type 0 where
  pub row : Row M O
  pub makes : Makes r.table (mails old.rows) old.seats.items new.seats.items action row
  pub rows : new.rows ≡ old.rows ++ row ∷ []
  pub skipped : new.skipped ≡ old.skipped
  pub unsettled : new.unsettled ≡ old.unsettled

-- The stage has gone on from the tasks `before` to the tasks `after`: wherever the walk had reached `before` and any further tasks, it has reached `after` and the same further tasks.
abbrev pub StageGoes : {A M O : Type 0} → Rules A M O → Stage A M O → List (Task O) → Stage A M O → List (Task O) → Type 0
StageGoes {A} {M} {O} r old before new after =
    (words : ℕ → ℕ → ℕ × ℕ) (births : List (Seat A)) (lines : List (Line O)) (rest : List (Task O)) →
    IsStageAt (with_births r words births) lines old (before ++ rest) → IsStageAt (with_births r words births) lines new (after ++ rest)

-- The task of up to `left` deliveries, of a `free` line or of a `settle` line.
abbrev pub many : {O : Type 0} → Bool → ℕ → Task O
many false left = Settles left
many true left = Frees left
