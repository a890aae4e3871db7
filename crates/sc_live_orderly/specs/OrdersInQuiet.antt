-- Orders that are given where no mail is pending, and what is owed between them.
use Rattle.std.specs.Prelude.{◌≡◌, ℕ, ◌+◌, ◌≤◌, ◌++◌, List, [], ◌∷◌, Bool, true, false, count_by, if◌then◌else◌}
use Rattle.sc_base.specs.Definitions.{Each}
use Rattle.sc_actor.specs.declared.rows.Event.{Event}
use Rattle.sc_actor.specs.declared.rows.Event.TheVariants.{Deliver, Tick, Go, Told, Crash, Drop, Again}
use Rattle.sc_actor.specs.declared.rows.Row.{Row}
use Rattle.sc_actor.specs.declared.schedules.Line.{Line}
use Rattle.sc_actor.specs.declared.schedules.Line.TheVariants.{Go as GoLine, Deliver as DeliverLine, Drop as DropLine, Again as AgainLine, Tick as TickLine, Crash as CrashLine, Told as ToldLine, Settle, Free, Storm}
use Rattle.sc_actor.specs.Definitions.{is_delivery, System, IsLawful, is_quiet}
use Rattle.sc_live_orderly.specs.OrderedRows.{IsCalmRow, is_told, deliveries}

-- What the lines since the last line of deliveries (`settle` or `free`) did: nothing, started actors, or gave an order.
pub data Said : Type 0 where
  Nothing : Said
  Goes : Said
  AnOrder : Said

-- An actor may be started, unless an order was given since the last line of deliveries.
abbrev pub MayGo : Said → Type 0
MayGo Nothing = Unit {0}
MayGo Goes = Unit {0}
MayGo AnOrder = ⊥

-- An order may be given, if there was no line since the last line of deliveries.
abbrev pub MayOrder : Said → Type 0
MayOrder Nothing = Unit {0}
MayOrder Goes = ⊥
MayOrder AnOrder = ⊥

-- Calm lines, with a line of deliveries between each order and every other order or `go` line; the first argument says what stands before them.
abbrev pub AreSpaced : {O : Type 0} → Said → List (Line O) → Type 0
AreSpaced said [] = Unit {0}
AreSpaced said (Settle most ∷ lines) = AreSpaced Nothing lines
AreSpaced said (Free most workers ∷ lines) = AreSpaced Nothing lines
AreSpaced said (GoLine who ∷ lines) = MayGo said × AreSpaced Goes lines
AreSpaced said (ToldLine who order ∷ lines) = MayOrder said × AreSpaced AnOrder lines
AreSpaced said (DeliverLine who k ∷ lines) = (k ≡ 1) × AreSpaced said lines
AreSpaced said (DropLine who k ∷ lines) = ⊥
AreSpaced said (AgainLine mail ∷ lines) = ⊥
AreSpaced said (TickLine who ∷ lines) = ⊥
AreSpaced said (CrashLine who ∷ lines) = ⊥
AreSpaced said (Storm number most ∷ lines) = ⊥

-- The journal was quiet (no mail pending) after some prefix of these rows, and no row since then gives an order.
pub record IsClear {A M O : Type 0} (s : System A M O) (rows : List (Row M O)) : Type 0 where
  pub before : List (Row M O)
  pub after : List (Row M O)
  pub rows_are : rows ≡ before ++ after
  pub quiet : is_quiet s before ≡ true
  pub untold : Each (λ row. is_told row.event ≡ false) after

-- The event comes in time after these rows: an order is given only in a quiet journal, and an actor goes only where no order is under way.
abbrev pub ComesInTime : {A M O : Type 0} → System A M O → List (Row M O) → Event O → Type 0
ComesInTime s rows (Told order) = is_quiet s rows ≡ true
ComesInTime s rows Go = IsClear s rows
ComesInTime s rows (Deliver number) = Unit {0}
ComesInTime s rows Tick = Unit {0}
ComesInTime s rows Crash = Unit {0}
ComesInTime s rows (Drop mail) = Unit {0}
ComesInTime s rows (Again mail) = Unit {0}

-- Each row is calm and comes in time after the rows before it.
abbrev pub AreInTime : {A M O : Type 0} → System A M O → List (Row M O) → Type 0
AreInTime {A} {M} {O} s rows =
    (before : List (Row M O)) (row : Row M O) (after : List (Row M O)) → rows ≡ before ++ row ∷ after
    → IsCalmRow s before row × ComesInTime s before row.event

-- Whether a line gives an order.
abbrev pub gives_order : {O : Type 0} → Line O → Bool
gives_order (ToldLine who order) = true
gives_order (GoLine who) = false
gives_order (Settle most) = false
gives_order (Free most workers) = false
gives_order (DeliverLine who k) = false
gives_order (DropLine who k) = false
gives_order (AgainLine mail) = false
gives_order (TickLine who) = false
gives_order (CrashLine who) = false
gives_order (Storm number most) = false

-- How many lines give an order.
abbrev pub orders_given : {O : Type 0} → List (Line O) → ℕ
orders_given lines = count_by gives_order lines

-- If the event gives an order, this order may be given to this actor; nothing is asked of other events.
abbrev pub GivesAllowedOrder : {O : Type 0} → (ℕ → O → Bool) → ℕ → Event O → Type 0
GivesAllowedOrder allowed who (Told order) = allowed who order ≡ true
GivesAllowedOrder allowed who (Deliver number) = Unit {0}
GivesAllowedOrder allowed who Tick = Unit {0}
GivesAllowedOrder allowed who Go = Unit {0}
GivesAllowedOrder allowed who Crash = Unit {0}
GivesAllowedOrder allowed who (Drop mail) = Unit {0}
GivesAllowedOrder allowed who (Again mail) = Unit {0}

-- Each order that one of these rows gives is one that may be given to its actor.
abbrev pub GiveAllowedOrders : {M O : Type 0} → (ℕ → O → Bool) → List (Row M O) → Type 0
GiveAllowedOrders allowed rows = Each (λ row. GivesAllowedOrder allowed row.who row.event) rows

-- If the line gives an order, this order may be given to this actor; nothing is asked of other lines.
abbrev pub LineGivesAllowedOrder : {O : Type 0} → (ℕ → O → Bool) → Line O → Type 0
LineGivesAllowedOrder allowed (ToldLine who order) = allowed who order ≡ true
LineGivesAllowedOrder allowed (GoLine who) = Unit {0}
LineGivesAllowedOrder allowed (Settle most) = Unit {0}
LineGivesAllowedOrder allowed (Free most workers) = Unit {0}
LineGivesAllowedOrder allowed (DeliverLine who k) = Unit {0}
LineGivesAllowedOrder allowed (DropLine who k) = Unit {0}
LineGivesAllowedOrder allowed (AgainLine mail) = Unit {0}
LineGivesAllowedOrder allowed (TickLine who) = Unit {0}
LineGivesAllowedOrder allowed (CrashLine who) = Unit {0}
LineGivesAllowedOrder allowed (Storm number most) = Unit {0}

-- Each order that one of these lines gives is one that may be given to its actor.
abbrev pub LinesGiveAllowedOrders : {O : Type 0} → (ℕ → O → Bool) → List (Line O) → Type 0
LinesGiveAllowedOrders allowed lines = Each (LineGivesAllowedOrder allowed) lines

-- `owed` measures what is owed after each lawful journal of rows in time that has at most `most` deliveries.
-- Each delivery lowers it by at least 1, an order raises it by at most `raise`, and no other row raises it.
-- It is at least 1 where mail is pending, and at most `still` where none is.
pub record IsMeasure {A M O : Type 0} (s : System A M O) (lines : List (Line O)) (most : ℕ) (owed : List (Row M O) → ℕ) (still raise : ℕ) : Type 0 where
  pub lowers : (rows : List (Row M O)) (row : Row M O) → IsLawful s lines (rows ++ row ∷ []) → AreInTime s (rows ++ row ∷ []) → deliveries rows ≤ most →
      owed (rows ++ row ∷ []) + (if is_delivery row.event then 1 else 0) ≤ owed rows + (if is_told row.event then raise else 0)
  pub some : (rows : List (Row M O)) → IsLawful s lines rows → AreInTime s rows → deliveries rows ≤ most → is_quiet s rows ≡ false → 1 ≤ owed rows
  pub quiet : (rows : List (Row M O)) → IsLawful s lines rows → AreInTime s rows → deliveries rows ≤ most → is_quiet s rows ≡ true → owed rows ≤ still
