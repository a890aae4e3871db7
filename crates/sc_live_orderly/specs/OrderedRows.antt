-- Rows that come in order: each actor takes its mail in ascending order of number.
use Rattle.std.specs.Prelude.{◌≡◌, ℕ, ◌==◌, ◌≤◌, ◌&&◌, ◌++◌, List, [], ◌∷◌, Bool, true, false, if◌then◌else◌, find, filter, replicate, count_by, Some}
use Rattle.std.specs.List.{list_any}
use Rattle.sc_base.specs.Definitions.{Each}
use Rattle.sc_actor.specs.declared.actors.Seat.{Seat}
use Rattle.sc_actor.specs.declared.rows.Event.{Event}
use Rattle.sc_actor.specs.declared.rows.Event.TheVariants.{Deliver, Tick, Go, Told, Crash, Drop, Again}
use Rattle.sc_actor.specs.declared.rows.Row.{Row}
use Rattle.sc_actor.specs.declared.schedules.Line.{Line}
use Rattle.sc_actor.specs.declared.schedules.Line.TheVariants.{Go as GoLine, Deliver as DeliverLine, Drop as DropLine, Again as AgainLine, Tick as TickLine, Crash as CrashLine, Told as ToldLine, Settle, Free, Storm}
use Rattle.sc_actor.specs.Definitions.{mails, copies, has_crashed, is_delivery, System, numbers_of, row_of, waiting, kth, has_started, is_go}

-- A plain line starts an actor, delivers the first pending mail of one actor, or delivers pending mail of all.
abbrev pub IsPlainLine : {O : Type 0} → Line O → Type 0
IsPlainLine (GoLine who) = Unit {0}
IsPlainLine (Settle most) = Unit {0}
IsPlainLine (Free most workers) = Unit {0}
IsPlainLine (DeliverLine who k) = k ≡ 1
IsPlainLine (DropLine who k) = ⊥
IsPlainLine (AgainLine mail) = ⊥
IsPlainLine (TickLine who) = ⊥
IsPlainLine (CrashLine who) = ⊥
IsPlainLine (ToldLine who order) = ⊥
IsPlainLine (Storm number most) = ⊥

-- A calm line is a plain one, or gives an order.
abbrev pub IsCalmLine : {O : Type 0} → Line O → Type 0
IsCalmLine (GoLine who) = Unit {0}
IsCalmLine (ToldLine who order) = Unit {0}
IsCalmLine (Settle most) = Unit {0}
IsCalmLine (Free most workers) = Unit {0}
IsCalmLine (DeliverLine who k) = k ≡ 1
IsCalmLine (DropLine who k) = ⊥
IsCalmLine (AgainLine mail) = ⊥
IsCalmLine (TickLine who) = ⊥
IsCalmLine (CrashLine who) = ⊥
IsCalmLine (Storm number most) = ⊥

-- The event is in order after these rows: an actor goes that has not gone, or an actor takes its pending mail with the lowest number.
abbrev pub IsInOrder : {A M O : Type 0} → System A M O → List (Row M O) → ℕ → Event O → Type 0
IsInOrder s rows who Go = has_started rows who ≡ false
IsInOrder s rows who (Deliver number) = kth (waiting s rows (Some who)) 1 ≡ Some number
IsInOrder s rows who Tick = ⊥
IsInOrder s rows who (Told order) = ⊥
IsInOrder s rows who Crash = ⊥
IsInOrder s rows who (Drop mail) = ⊥
IsInOrder s rows who (Again mail) = ⊥

-- A row that is in order after these rows, and sends what the actor's table gives.
pub record IsOrderly {A M O : Type 0} (s : System A M O) (rows : List (Row M O)) (row : Row M O) : Type 0 where
  pub seat : Seat A
  pub born : find (λ other. other.who == seat.who) s.births ≡ Some seat
  pub event : Event O
  pub row_is : row ≡ row_of s.table seat rows event
  pub in_order : IsInOrder s rows seat.who event

-- The event is calm after these rows: it is in order, or it gives an order.
abbrev pub IsCalmEvent : {A M O : Type 0} → System A M O → List (Row M O) → ℕ → Event O → Type 0
IsCalmEvent s rows who Go = has_started rows who ≡ false
IsCalmEvent s rows who (Deliver number) = kth (waiting s rows (Some who)) 1 ≡ Some number
IsCalmEvent s rows who (Told order) = Unit {0}
IsCalmEvent s rows who Tick = ⊥
IsCalmEvent s rows who Crash = ⊥
IsCalmEvent s rows who (Drop mail) = ⊥
IsCalmEvent s rows who (Again mail) = ⊥

-- A row that is in order after these rows or gives an order, and sends what the actor's table gives.
pub record IsCalmRow {A M O : Type 0} (s : System A M O) (rows : List (Row M O)) (row : Row M O) : Type 0 where
  pub seat : Seat A
  pub born : find (λ other. other.who == seat.who) s.births ≡ Some seat
  pub event : Event O
  pub row_is : row ≡ row_of s.table seat rows event
  pub calm : IsCalmEvent s rows seat.who event

-- Whether an event gives an order.
abbrev pub is_told : {O : Type 0} → Event O → Bool
is_told (Told order) = true
is_told (Deliver mail) = false
is_told Tick = false
is_told Go = false
is_told Crash = false
is_told (Drop mail) = false
is_told (Again mail) = false

-- No mail has more than one copy under way, and no actor has crashed.
pub record IsTidy {M O : Type 0} (rows : List (Row M O)) : Type 0 where
  pub copies : Each (λ count. count ≤ 1) (copies rows)
  pub alive : (who : ℕ) → has_crashed rows who ≡ false

-- The mails that pass the test, each repeated once for each of its copies under way.
abbrev pub mail_with : {M : Type 0} → (M → Bool) → List M → List ℕ → List M
mail_with test [] counts = []
mail_with test (mail ∷ sent) [] = []
mail_with test (mail ∷ sent) (count ∷ counts) = (if test mail then replicate count mail else []) ++ mail_with test sent counts

-- The mails under way to an actor, in ascending order of number.
abbrev pub rest : {A M O : Type 0} → System A M O → List (Row M O) → ℕ → List M
rest s rows who = mail_with (λ mail. s.receiver mail == who) (mails rows) (copies rows)

-- Those of the mails sent whose receiver is this actor.
abbrev pub mail_for : {A M O : Type 0} → System A M O → ℕ → List M → List M
mail_for s who sent = filter (λ mail. s.receiver mail == who) sent

-- Whether the system has an actor with this number.
abbrev pub is_born : {A M O : Type 0} → System A M O → ℕ → Bool
is_born s who = list_any (λ actor. actor == who) (numbers_of s.births)

-- How many mails an actor takes by a row: 1 where the row delivers to it, else 0.
abbrev pub taken : {M O : Type 0} → ℕ → Row M O → ℕ
taken who row = if row.who == who && is_delivery row.event then 1 else 0

-- How many rows are deliveries.
abbrev pub deliveries : {M O : Type 0} → List (Row M O) → ℕ
deliveries rows = count_by (λ row. is_delivery row.event) rows

-- How many rows start an actor.
abbrev pub goes : {M O : Type 0} → List (Row M O) → ℕ
goes rows = count_by (λ row. is_go row.event) rows

-- How many rows give an order.
abbrev pub orders : {M O : Type 0} → List (Row M O) → ℕ
orders rows = count_by (λ row. is_told row.event) rows
