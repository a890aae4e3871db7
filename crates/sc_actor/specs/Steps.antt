-- One row that may come after others, whatever the schedule.
use Rattle.std.specs.Prelude.{◌≡◌, ℕ, ◌-◌, ◌==◌, ◌<◌, List, find, true, false, Some, slice_index, ◌⊎◌}
use Rattle.sc_actor.specs.declared.rows.Row.{Row}
use Rattle.sc_actor.specs.declared.actors.Seat.{Seat}
use Rattle.sc_actor.specs.declared.rows.Event.{Event}
use Rattle.sc_actor.specs.declared.rows.Event.TheVariants.{Deliver, Tick, Go, Told, Crash, Drop, Again}
use Rattle.sc_actor.specs.Mail.{mails, numbered, has_crashed, may_get, copies}
use Rattle.sc_actor.specs.System.{System, numbers_of, row_of, network, has_started}

-- the mail with this number was sent to an actor that has not crashed, and a copy of it is under way
pub record IsUnderWay {A M O : Type 0} (s : System A M O) (rows : List (Row M O)) (number : ℕ) (mail : M) : Type 0 where
  pub sent : numbered (mails rows) number ≡ Some mail
  pub may : may_get (numbers_of s.births) rows (s.receiver mail) ≡ true
  pub copy : 0 < slice_index (copies rows) (number - 1)

-- an event that an actor may have now: a delivery only of mail to it of which a copy is under way, a start only once, and a tick, a crash or an order only before it has crashed
abbrev pub IsOpen : {A M O : Type 0} → System A M O → List (Row M O) → ℕ → Event O → Type 0
IsOpen {A} {M} {O} s rows who (Deliver number) = (mail : M) × IsUnderWay s rows number mail × (s.receiver mail ≡ who)
IsOpen s rows who Go = has_started rows who ≡ false
IsOpen s rows who Tick = has_crashed rows who ≡ false
IsOpen s rows who Crash = has_crashed rows who ≡ false
IsOpen s rows who (Told order) = has_crashed rows who ≡ false
IsOpen s rows who (Drop number) = ⊥
IsOpen s rows who (Again number) = ⊥

-- an event that the network may have now: it loses a copy that is under way, or repeats mail that was sent to an actor that has not crashed
abbrev pub IsLoose : {A M O : Type 0} → System A M O → List (Row M O) → Event O → Type 0
IsLoose {A} {M} {O} s rows (Drop number) = (mail : M) × IsUnderWay s rows number mail
IsLoose {A} {M} {O} s rows (Again number) = (mail : M) × (numbered (mails rows) number ≡ Some mail) × (may_get (numbers_of s.births) rows (s.receiver mail) ≡ true)
IsLoose s rows (Deliver number) = ⊥
IsLoose s rows Go = ⊥
IsLoose s rows Tick = ⊥
IsLoose s rows Crash = ⊥
IsLoose s rows (Told order) = ⊥

-- a row of an actor: the event is open to it, and it sends what its table gives
pub record ActorStep {A M O : Type 0} (s : System A M O) (rows : List (Row M O)) (row : Row M O) : Type 0 where
  pub seat : Seat A
  pub born : find (λ other. other.who == seat.who) s.births ≡ Some seat
  pub event : Event O
  pub row_is : row ≡ row_of s.table seat rows event
  pub open_ : IsOpen s rows seat.who event

-- a row of the network: the event is open to it, and nothing is sent
pub record NetworkStep {A M O : Type 0} (s : System A M O) (rows : List (Row M O)) (row : Row M O) : Type 0 where
  pub event : Event O
  pub row_is : row ≡ network event
  pub loose : IsLoose s rows event

-- a row of an actor or of the network
abbrev pub IsStep : {A M O : Type 0} → System A M O → List (Row M O) → Row M O → Type 0
IsStep s rows row = ActorStep s rows row ⊎ NetworkStep s rows row
