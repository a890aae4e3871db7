-- The state of an actor after its rows.
use Rattle.std.specs.Prelude.{ℕ, ◌==◌, List, [], ◌∷◌, ◌++◌, map, if◌then◌else◌, Option, None, Some}
use Rattle.std.specs.Option.{option_map}
use Rattle.sc_actor.specs.declared.rows.Row.{Row}
use Rattle.sc_actor.specs.declared.actors.Seat.{Seat}
use Rattle.sc_actor.specs.declared.rows.Event.{Event}
use Rattle.sc_actor.specs.declared.rows.Event.TheVariants.{Deliver, Tick, Go, Told, Crash, Drop, Again}
use Rattle.sc_actor.specs.declared.rows.Input.{Input}
use Rattle.sc_actor.specs.declared.rows.Input.TheVariants.{Got, Tick as TickInput, Go as GoInput, Told as ToldInput}
use Rattle.sc_actor.specs.Mail.{mails, numbered}

-- an actor's transition table: the actor after an input, and the mail that it sends
abbrev pub Table : Type 0 → Type 0 → Type 0 → Type 0
Table A M O = A → Input M O → A × List M

-- the input that an event gives to its actor, where `sent` is the mail sent before it; none for a crash and for events of the network
abbrev pub input_of : {M O : Type 0} → List M → Event O → Option (Input M O)
input_of sent (Deliver mail) = option_map Got (numbered sent mail)
input_of sent Tick = Some TickInput
input_of sent Go = Some GoInput
input_of sent (Told order) = Some (ToldInput order)
input_of sent Crash = None
input_of sent (Drop mail) = None
input_of sent (Again mail) = None

-- the actor and its mail after an input; without an input the actor stays as it is and sends nothing
abbrev pub acted : {A M O : Type 0} → Table A M O → A → Option (Input M O) → A × List M
acted table actor None = (actor, [])
acted table actor (Some input) = table actor input

-- the actor after these rows, where `sent` is the mail sent before them
abbrev pub replay : {A M O : Type 0} → Table A M O → ℕ → A → List M → List (Row M O) → A
replay table who actor sent [] = actor
replay table who actor sent (row ∷ rows) =
    replay table who
    (if row.who == who then (acted table actor (input_of sent row.event)).0 else actor)
    (sent ++ row.sent) rows

-- the actor after a journal, from its state at the start
abbrev pub value : {A M O : Type 0} → Table A M O → Seat A → List (Row M O) → A
value table seat rows = replay table seat.who seat.actor [] rows

-- all actors after a journal
abbrev pub values : {A M O : Type 0} → Table A M O → List (Seat A) → List (Row M O) → List (Seat A)
values table seats rows = map (λ seat. record { who = seat.who; actor = value table seat rows }) seats

-- the actor after a journal and one more row
abbrev pub value_after : {A M O : Type 0} → Table A M O → Seat A → List (Row M O) → Row M O → A
value_after table seat rows row =
    if row.who == seat.who then (acted table (value table seat rows) (input_of (mails rows) row.event)).0 else value table seat rows
