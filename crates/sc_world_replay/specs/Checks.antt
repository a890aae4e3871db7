-- How far given rows agree with the walk of a schedule. A stage is what the check keeps of the rows that it has taken so far.
use Rattle.std.specs.Prelude.{◌≡◌, ℕ, ◌+◌, ◌^◌, ◌<◌, List, [], ◌++◌, length, drop}
use Rattle.sc_actor.specs.declared.rows.Row.{Row}
use Rattle.sc_actor.specs.declared.actors.Seat.{Seat}
use Rattle.sc_actor.specs.declared.schedules.Line.{Line}
use Rattle.sc_actor.specs.Mail.{mails}
use Rattle.sc_actor.specs.Walk.{Task}
use Rattle.sc_world_replay.specs.declared.stages.Stage.{Stage}
use Rattle.sc_world_replay.specs.declared.stages.Action.{Action}
use Rattle.sc_world_replay.specs.declared.checked.Checked.{Checked}
use Rattle.sc_world_replay.specs.declared.checked.Checked.TheVariants.{On, Ended, Wrong}
use Rattle.sc_world_replay.specs.Stages.{IsUpToDate, Makes}
use Rattle.sc_world_replay.specs.Moves.{IsStageAt, Rules, with_births, Did, StageGoes}
use Rattle.sc_world_replay.specs.Replays.{HasReplayed, IsBadRow}

-- The rows `taken` are a prefix of `rows`.
abbrev pub Follows : {M O : Type 0} → List (Row M O) → List (Row M O) → Type 0
Follows taken rows = rows ≡ taken ++ drop (length taken) rows

-- The rows that the stage has taken are a prefix of `rows`; there are fewer than 2^31 rows and mails.
pub record IsTaking {A M O : Type 0} (receiver : M → ℕ) (stage : Stage A M O) (rows : List (Row M O)) : Type 0 where
  pub kept : IsUpToDate receiver stage
  pub follows : Follows stage.rows rows
  pub few_rows_in_all : length rows < 2 ^ 31
  pub few_mails_in_all : length (mails rows) < 2 ^ 31

-- The action was done, and its row is `row`.
pub record DidWithRow {A M O : Type 0} (r : Rules A M O) (old new : Stage A M O) (action : Action O) (row : Row M O) : Type 0 where
  pub did : Did r old new action
  pub same : did.row ≡ row
  pub kept : IsUpToDate r.receiver new

-- The row of the action is another than `row`, and the stage has taken no row.
pub record Misses {A M O : Type 0} (r : Rules A M O) (old new : Stage A M O) (action : Action O) (row : Row M O) : Type 0 where
  pub other : Row M O
  pub seats : List (Seat A)
  pub makes : Makes r.table (mails old.rows) old.seats.items seats action other
  pub differs : other ≡ row → ⊥
  pub rows : new.rows ≡ old.rows

-- Wherever the walk has reached the tasks `before` and any further tasks at the old stage, the rows end here: they are lawful, and the new stage is what they leave.
abbrev pub Ends : {A M O : Type 0} → Rules A M O → Stage A M O → List (Task O) → Stage A M O → List (Row M O) → Type 0
Ends {A} {M} {O} r old before new rows =
    (words : ℕ → ℕ → ℕ × ℕ) (births : List (Seat A)) (lines : List (Line O)) (rest : List (Task O)) →
    IsStageAt (with_births r words births) lines old (before ++ rest) → (new.rows ≡ rows) × HasReplayed (with_births r words births) lines rows new.unsettled new.skipped new.seats.items

-- Wherever the walk has reached the tasks `before` and any further tasks at the old stage, the first row that is not lawful is the one after those that the new stage has taken.
abbrev pub Breaks : {A M O : Type 0} → Rules A M O → Stage A M O → List (Task O) → Stage A M O → List (Row M O) → Type 0
Breaks {A} {M} {O} r old before new rows =
    (words : ℕ → ℕ → ℕ × ℕ) (births : List (Seat A)) (lines : List (Line O)) (rest : List (Task O)) →
    IsStageAt (with_births r words births) lines old (before ++ rest) → IsBadRow (with_births r words births) lines rows (length new.rows + 1)

-- What the answer of a check says: the rows go on behind these tasks (`On`), they end in them (`Ended`), or the next row is not lawful (`Wrong`).
abbrev pub IsChecked : {A M O : Type 0} → Rules A M O → Stage A M O → List (Task O) → Stage A M O → List (Row M O) → Checked → Type 0
IsChecked r old before new rows On = StageGoes r old before new [] × IsTaking r.receiver new rows
IsChecked r old before new rows Ended = Ends r old before new rows × IsTaking r.receiver new rows
IsChecked r old before new rows Wrong = Breaks r old before new rows
