-- What a turn does to the view of a seat.
use Rattle.std.specs.Prelude.{◌≡◌, ℕ, List, [], length, Bool, true, false}
use Rattle.sc_thread_ports.specs.declared.turn.rule.View.{View}
use Rattle.sc_thread_ports.specs.declared.turn.seat.TurnSeat.{TurnSeat}
use Rattle.sc_thread_ports.specs.turn.TurnDefinitions.{known, OfOneStart, StartsWith, IsTrueOf, entered_with, with_turn, with_row, rows_by}
use Rattle.sc_actor.specs.declared.actors.Parcel.{Ghosts}
use Rattle.sc_actor.specs.declared.rows.Row.{Row}
use Rattle.sc_actor.specs.declared.rows.Event.{Event}
use Rattle.sc_actor.specs.declared.rows.Event.TheVariants.{Drop, Again}
use Rattle.sc_thread_ledger.specs.LedgerDefinitions.{is_pending, may_repeat}
use Rattle.sc_thread_ports.specs.declared.exchange.shared.BareRow.{BareRow}
use Rattle.sc_thread_ports.specs.declared.exchange.shared.Exchange.{Exchange}
use Rattle.sc_thread_ports.specs.declared.exchange.fates.Fate.{Fate}
use Rattle.sc_thread_ports.specs.declared.exchange.fates.Fate.TheVariants.{Lost, Repeated}
use Rattle.sc_thread_ports.specs.exchange.Addressed.{all_addressed}
use Rattle.sc_thread_ports.specs.exchange.BareRows.{bare_rows, rows_from}

-- The network's event for a mail: `Drop` where it is lost, `Again` where it is repeated.
abbrev pub change_event : {O : Type 0} → Fate → ℕ → Event O
change_event Lost number = Drop number
change_event Repeated number = Again number

module _ {M O : Type 0} where
  -- From the view `w` to `v` the seat had a turn at which it found the journal `rows`, and it gave the turn back without a new row.
  pub record Turned (w v : View (BareRow M O)) : Type 0 where
    pub rows : List (Row M O)
    pub view_is : v ≡ with_turn (entered_with w (bare_rows rows)) false
    pub later : StartsWith (bare_rows rows) w.seen
    pub facts : IsTrueOf w (bare_rows rows)

  -- From the view `w` to `v` the seat had a turn at which it found the journal `rows`, and it gave the turn back with one more row, of its own number.
  pub record RowTurned (w v : View (BareRow M O)) (row : Row M O) : Type 0 where
    pub rows : List (Row M O)
    pub view_is : v ≡ with_turn (with_row (entered_with w (bare_rows rows)) (record { event = row.event; sent = row.sent })) false
    pub later : StartsWith (bare_rows rows) w.seen
    pub facts : IsTrueOf w (bare_rows rows)

  -- Whether the mail `number` may be lost (a copy is pending) or repeated (it was sent to an actor that has not crashed) after these rows.
  abbrev pub may_change : Fate → (M → ℕ) → ℕ → List (Row M O) → ℕ → Bool
  may_change Lost receiver actors rows number = is_pending receiver actors rows number
  may_change Repeated receiver actors rows number = may_repeat receiver actors rows number

  -- The network's row that loses or repeats the mail `number`.
  abbrev pub change : Fate → ℕ → Row M O
  change fate number = record { who = 0; event = change_event fate number; sent = [] }

  -- From the view `w` to `v` the network's seat had a turn at which it appended the row that loses or repeats the mail `number`, where this was allowed.
  pub record Changed (receiver : M → ℕ) (actors : ℕ) (fate : Fate) (number : ℕ) (w v : View (BareRow M O)) : Type 0 where
    pub turned : RowTurned w v (change fate number)
    pub may : may_change fate receiver actors turned.rows number ≡ true

module _ {M O : Type 0} {g : Ghosts M} where
  -- The rows of the journal in an exchange.
  abbrev pub rows_in : Exchange M O g → List (Row M O)
  rows_in exchange = exchange.ledger.value.rows.items

  -- A seat has had a turn, and has made no row.
  pub record SeatLooked (s t : TurnSeat (Exchange M O g) (BareRow M O)) : Type 0 where
    -- Before and after, the seat belongs to one start.
    pub start : OfOneStart s t
    -- Each row that the seat has seen may stand where it does.
    pub addressed : all_addressed g.receiver [] (rows_from (known t).seen) ≡ true
    -- The turn was given back with the rows that were found.
    pub turned : Turned (known s) (known t)

  -- A seat has had a turn, at which it made a row or none.
  pub record SeatTurned (s t : TurnSeat (Exchange M O g) (BareRow M O)) : Type 0 where
    -- Before and after, the seat belongs to one start.
    pub start : OfOneStart s t
    -- Each row that the seat has seen may stand where it does.
    pub addressed : all_addressed g.receiver [] (rows_from (known t).seen) ≡ true
    -- The seat has seen as many rows of its number as it has made.
    pub own : length (rows_by (known s).who (known t).seen) ≡ length (known t).made
    -- The seat has split off no other.
    pub given : (known t).given ≡ (known s).given
    -- The seat has joined no other.
    pub joined : (known t).joined ≡ (known s).joined
