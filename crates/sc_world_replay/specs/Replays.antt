-- The answer of a replay: what the rows leave, or the first that is not lawful.
use Rattle.std.specs.Prelude.{◌≡◌, ◌≤◌, ◌-◌, ℕ, List, length, take, Bool, true, false}
use Rattle.sc_actor.specs.declared.rows.Row.{Row}
use Rattle.sc_actor.specs.declared.actors.Seat.{Seat}
use Rattle.sc_actor.specs.declared.schedules.Line.{Line}
use Rattle.sc_actor.specs.Replay.{values}
use Rattle.sc_actor.specs.System.{System}
use Rattle.sc_actor.specs.Walk.{IsLawful, skipped, unsettled, is_quiet}
use Rattle.sc_world_replay.specs.declared.judging.Replayed.{Replayed}
use Rattle.sc_world_replay.specs.declared.judging.Verdict.{Verdict}
use Rattle.sc_world_replay.specs.declared.judging.Verdict.TheVariants.{Lawful, BadRow}

-- The rows are lawful, the counts of lines cut off and skipped are the walk's, and each actor is the replay of its rows.
pub record HasReplayed {A M O : Type 0} (s : System A M O) (lines : List (Line O)) (rows : List (Row M O)) (cut : Bool) (skips : ℕ) (seats : List (Seat A)) : Type 0 where
  pub lawful : IsLawful s lines rows
  pub cut_is : cut ≡ unsettled s lines rows
  pub skips_are : skips ≡ skipped s lines rows
  pub actors : seats ≡ values s.table s.births rows

-- What lawful rows leave: the counts and actors of `HasReplayed`, and whether no mail is pending.
pub record Leaves {A M O : Type 0} (s : System A M O) (lines : List (Line O)) (rows : List (Row M O)) (left : Replayed A) : Type 0 where
  pub replayed : HasReplayed s lines rows left.unsettled left.skipped left.seats.items
  pub quiet_now : left.quiet ≡ is_quiet s rows

-- The row at the place `at`, from 1, is the first that is not lawful: the rows before it are lawful, and with it they are not.
pub record IsBadRow {A M O : Type 0} (s : System A M O) (lines : List (Line O)) (rows : List (Row M O)) (at : ℕ) : Type 0 where
  pub first : 1 ≤ at
  pub within : at ≤ length rows
  pub before : IsLawful s lines (take (at - 1) rows)
  pub not_with : IsLawful s lines (take at rows) → ⊥

-- The answer of a replay is right: the rows are lawful and leave this, or this row is the first that is not lawful.
abbrev pub IsReplayed : {A M O : Type 0} → System A M O → List (Line O) → List (Row M O) → Verdict A → Type 0
IsReplayed s lines rows (Lawful left) = Leaves s lines rows left
IsReplayed s lines rows (BadRow at) = IsBadRow s lines rows at

-- Whether the answer of a replay is that the rows are lawful.
abbrev pub says_lawful : {A : Type 0} → Verdict A → Bool
says_lawful (Lawful left) = true
says_lawful (BadRow at) = false
