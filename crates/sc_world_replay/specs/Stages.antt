-- What a stage keeps beside its rows, and what an action makes of the actors.
use Rattle.std.specs.Prelude.{◌≡◌, ℕ, suc, ◌^◌, ◌==◌, ◌<◌, List, [], ◌∷◌, true, false, if◌then◌else◌, Option, None, Some, length, slice_get, slice_set}
use Rattle.std.specs.List.{list_any}
use Rattle.std.specs.Option.{option_map}
use Rattle.sc_actor.specs.declared.rows.Row.{Row}
use Rattle.sc_actor.specs.declared.actors.Seat.{Seat}
use Rattle.sc_actor.specs.declared.rows.Event.{Event}
use Rattle.sc_actor.specs.Mail.{mails, has_crashed}
use Rattle.sc_actor.specs.Replay.{Table, input_of, acted}
use Rattle.sc_actor.specs.System.{network, numbers_of, has_started}
use Rattle.sc_world_replay.specs.declared.stages.Stage.{Stage}
use Rattle.sc_world_replay.specs.declared.stages.Action.{Action}
use Rattle.sc_world_replay.specs.Actions.{is_of_network}
use Rattle.sc_world_replay.specs.Opens.{opens_of}

-- What the stage keeps (the mails, the pending copies, the actors that have gone or crashed) is that of its rows, which are fewer than 2^31, as the mails are.
pub record IsUpToDate {A M O : Type 0} (receiver : M → ℕ) (stage : Stage A M O) : Type 0 where
  pub all_mails : stage.mails.items ≡ mails stage.rows
  pub all_pending : stage.pending.items ≡ opens_of receiver (numbers_of stage.seats.items) stage.rows
  pub all_started : (who : ℕ) → list_any (λ number. number == who) stage.started.items ≡ has_started stage.rows who
  pub all_crashed : (who : ℕ) → list_any (λ number. number == who) stage.crashed.items ≡ has_crashed stage.rows who
  pub few_rows : length stage.rows < 2 ^ 31
  pub few_mails : length (mails stage.rows) < 2 ^ 31

-- The place of the first seat with this number, from 0. A seat is an actor with its number.
abbrev pub place_of : {A : Type 0} → List (Seat A) → ℕ → Option ℕ
place_of [] who = None
place_of (seat ∷ seats) who = if seat.who == who then Some 0 else option_map suc (place_of seats who)

-- The row of an event of the actor in this seat, where the mails `sent` were sent before it.
abbrev pub row_in : {A M O : Type 0} → Table A M O → Seat A → List M → Event O → Row M O
row_in table seat sent event = record { who = seat.who; event = event; sent = (acted table seat.actor (input_of sent event)).1 }

-- The seat after an event of its actor, where the mails `sent` were sent before it.
abbrev pub seat_after : {A M O : Type 0} → Table A M O → Seat A → List M → Event O → Seat A
seat_after table seat sent event = record { who = seat.who; actor = (acted table seat.actor (input_of sent event)).0 }

-- The seats and the row after an action, where the mails `sent` were sent before it: an action of the network changes no seat, one of an actor steps it.
pub record Makes {A M O : Type 0} (table : Table A M O) (sent : List M) (old new : List (Seat A)) (action : Action O) (row : Row M O) : Type 0 where
  pub by_network : is_of_network action.event ≡ true → (row ≡ network action.event) × (new ≡ old)
  pub by_actor : is_of_network action.event ≡ false → (place : ℕ) (seat : Seat A) → place_of old action.who ≡ Some place → slice_get old place ≡ Some seat →
      (row ≡ row_in table seat sent action.event) × (new ≡ slice_set old place (seat_after table seat sent action.event))
