-- The actors of a system, and the rows that they and the network make.
use Rattle.std.specs.Prelude.{ℕ, ◌==◌, List, [], map, find, Bool, true, false, ◌&&◌, not, ◌∷◌, Option}
use Rattle.std.specs.Option.{option_map}
use Rattle.std.specs.List.{list_any}
use Rattle.sc_actor.specs.declared.rows.Row.{Row}
use Rattle.sc_actor.specs.declared.actors.Seat.{Seat}
use Rattle.sc_actor.specs.declared.rows.Event.{Event}
use Rattle.sc_actor.specs.declared.rows.Event.TheVariants.{Deliver, Tick, Go, Told, Crash, Drop, Again}
use Rattle.sc_actor.specs.Mail.{mails, numbered, pending}
use Rattle.sc_actor.specs.Replay.{Table, input_of, acted, value}

-- a system: the transition table of its actors, the receiver of each mail, the two words that each step of each storm draws, and the actors with their first states
pub record System (A M O : Type 0) : Type 0 where
  pub table : Table A M O
  pub receiver : M → ℕ
  pub words : ℕ → ℕ → ℕ × ℕ
  pub births : List (Seat A)  -- in the order of the actors

-- the system with these parts
abbrev pub system : {A M O : Type 0} → Table A M O → (M → ℕ) → (ℕ → ℕ → ℕ × ℕ) → List (Seat A) → System A M O
system table receiver words births = record { table = table; receiver = receiver; words = words; births = births }

-- storm words for a schedule without storms
abbrev pub no_words : ℕ → ℕ → ℕ × ℕ
no_words number step = (0, 0)

-- the numbers of the actors
abbrev pub numbers_of : {A : Type 0} → List (Seat A) → List ℕ
numbers_of seats = map (λ seat. seat.who) seats

-- whether no two seats have the same number
abbrev pub are_apart : {A : Type 0} → List (Seat A) → Bool
are_apart [] = true
are_apart (seat ∷ seats) = not (list_any (λ other. other.who == seat.who) seats) && are_apart seats

-- the numbers of the pending mail of one actor, or of all actors for None
abbrev pub waiting : {A M O : Type 0} → System A M O → List (Row M O) → Option ℕ → List ℕ
waiting s rows whose = pending s.receiver (numbers_of s.births) rows whose

-- the row of an actor's event: it sends what the table gives for the actor's state before the event
abbrev pub row_of : {A M O : Type 0} → Table A M O → Seat A → List (Row M O) → Event O → Row M O
row_of table seat rows event =
    record { who = seat.who; event = event; sent = (acted table (value table seat rows) (input_of (mails rows) event)).1 }

-- the row of an event of the actor with this number, or None where there is no such actor
abbrev pub acts : {A M O : Type 0} → System A M O → List (Row M O) → ℕ → Event O → Option (Row M O)
acts s rows who event = option_map (λ seat. row_of s.table seat rows event) (find (λ seat. seat.who == who) s.births)

-- the row of an event of the network, which sends nothing
abbrev pub network : {M O : Type 0} → Event O → Row M O
network event = record { who = 0; event = event; sent = [] }

-- the k-th number of a list, from 1
abbrev pub kth : List ℕ → ℕ → Option ℕ
kth xs k = numbered xs k

-- whether an event is the start of a client
abbrev pub is_go : {O : Type 0} → Event O → Bool
is_go Go = true
is_go (Deliver mail) = false
is_go Tick = false
is_go (Told order) = false
is_go Crash = false
is_go (Drop mail) = false
is_go (Again mail) = false

-- whether an actor has started
abbrev pub has_started : {M O : Type 0} → List (Row M O) → ℕ → Bool
has_started rows who = list_any (λ row. row.who == who && is_go row.event) rows
