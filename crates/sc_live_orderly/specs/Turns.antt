-- Turns: an actor ticks or starts where no mail is pending, and then all pending mail is delivered, the lowest number first, until none is left.
use Rattle.std.specs.Prelude.{◌≡◌, ℕ, ◌==◌, List, [], ◌∷◌, ◌++◌, find, filter, true, Option, Some, None}
use Rattle.sc_actor.specs.declared.actors.Seat.{Seat}
use Rattle.sc_actor.specs.declared.rows.Event.TheVariants.{Deliver}
use Rattle.sc_actor.specs.declared.rows.Row.{Row}
use Rattle.sc_actor.specs.declared.schedules.Line.{Line}
use Rattle.sc_actor.specs.declared.schedules.Line.TheVariants.{Tick as TickLine, Go as GoLine, Settle}
use Rattle.sc_actor.specs.Definitions.{mails, copies, numbered, may_get, System, numbers_of, row_of, is_quiet, line_row, lowest}
use Rattle.sc_live_orderly.specs.OrderedRows.{mail_with}

-- What begins a turn: the actor ticks, or it starts.
pub data Kick : Type 0 where
  Ticks : Kick
  Starts : Kick

-- A turn of a schedule: the actor ticks or starts, and a `settle` line follows that makes at most `most` deliveries.
pub record Turn : Type 0 where
  pub kick : Kick
  pub who : ℕ
  pub most : ℕ

-- the line that begins a turn
abbrev pub kick_line : {O : Type 0} → Kick → ℕ → Line O
kick_line Ticks who = TickLine who
kick_line Starts who = GoLine who

-- the two lines of a turn
abbrev pub turn_lines : {O : Type 0} → Turn → List (Line O)
turn_lines turn = kick_line turn.kick turn.who ∷ Settle turn.most ∷ []

-- the pending mail of all actors, the lowest number first
abbrev pub pending_mail : {A M O : Type 0} → System A M O → List (Row M O) → List M
pending_mail s rows = mail_with (λ mail. may_get (numbers_of s.births) rows (s.receiver mail)) (mails rows) (copies rows)

-- These rows follow a journal, and deliver pending mail, each the one with the lowest number, until none is left.
abbrev pub AreDelivered : {A M O : Type 0} → System A M O → List (Row M O) → List (Row M O) → Type 0
AreDelivered s rows [] = is_quiet s rows ≡ true
AreDelivered s rows (row ∷ more) = (lowest s rows ≡ Some row) × AreDelivered s (rows ++ row ∷ []) more

-- an option as a list of none or one
abbrev pub as_list : {X : Type 0} → Option X → List X
as_list None = []
as_list (Some x) = x ∷ []

-- One turn, between two journals with no mail pending: the actor's row, or none where its line is skipped, and the deliveries that follow.
pub record IsTurn {A M O : Type 0} (s : System A M O) (before : List (Row M O)) (turn : Turn) (after : List (Row M O)) : Type 0 where
  pub quiet : is_quiet s before ≡ true
  pub first : Option (Row M O)
  pub first_is : line_row s before (kick_line turn.kick turn.who) ≡ first
  pub deliveries : List (Row M O)
  pub delivered : AreDelivered s (before ++ as_list first) deliveries
  pub after_is : after ≡ (before ++ as_list first) ++ deliveries

-- These turns lead from a journal with no mail pending to another one, one after another.
abbrev pub HasTurns : {A M O : Type 0} → System A M O → List (Row M O) → List Turn → List (Row M O) → Type 0
HasTurns s before [] after = (is_quiet s before ≡ true) × (before ≡ after)
HasTurns {A} {M} {O} s before (turn ∷ turns) after = (middle : List (Row M O)) × IsTurn s before turn middle × HasTurns s middle turns after

-- What a delivery of the pending mail with the lowest number does: its receiver takes the first of the pending mail, and what it sends to actors that may get mail is pending behind the others.
pub record TakesLowest {A M O : Type 0} (s : System A M O) (rows : List (Row M O)) (row : Row M O) : Type 0 where
  pub mail : M
  pub others : List M
  pub number : ℕ
  pub sent : numbered (mails rows) number ≡ Some mail
  pub seat : Seat A
  pub born : find (λ other. other.who == s.receiver mail) s.births ≡ Some seat
  pub row_is : row ≡ row_of s.table seat rows (Deliver number)
  pub first : pending_mail s rows ≡ mail ∷ others
  pub then_ : pending_mail s (rows ++ row ∷ []) ≡ others ++ filter (λ m. may_get (numbers_of s.births) rows (s.receiver m)) row.sent
