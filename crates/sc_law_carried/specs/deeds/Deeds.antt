-- Deeds: what actors do that each run for themselves, as time goes by.
use Rattle.std.specs.Prelude.{ℕ, ◌==◌, ◌&&◌, Bool, true, false, List, fold, if◌then◌else◌}
use Rattle.std.specs.List.{flat_map, list_any}
use Rattle.sc_actor.specs.declared.actors.Seat.{Seat}
use Rattle.sc_actor.specs.declared.rows.Event.{Event}
use Rattle.sc_actor.specs.declared.rows.Event.TheVariants.{Deliver, Tick, Go, Told}
use Rattle.sc_actor.specs.declared.rows.Input.{Input}
use Rattle.sc_actor.specs.declared.rows.Input.TheVariants as an
use Rattle.sc_actor.specs.Definitions.{Table}

-- a mail that came, with its number: the place of its sending, from 1, in all mail that was sent
pub record Came (M : Type 0) : Type 0 where
  pub number : ℕ
  pub mail : M

-- a deed: an actor took an input, and sent this mail
pub record Deed (M O : Type 0) : Type 0 where
  pub who : ℕ
  pub input : Input (Came M) O
  pub sent : List M

-- all mail that was sent, in order
abbrev pub sent_in : {M O : Type 0} → List (Deed M O) → List M
sent_in deeds = flat_map (λ deed. deed.sent) deeds

-- an input as the actor gets it
abbrev pub input_got : {M O : Type 0} → Input (Came M) O → Input M O
input_got (an.Got came) = an.Got came.mail
input_got an.Tick = an.Tick
input_got an.Go = an.Go
input_got (an.Told order) = an.Told order

-- an actor after deeds, from its birth: it takes its own, one after another
abbrev pub actor_after : {A M O : Type 0} → Table A M O → Seat A → List (Deed M O) → A
actor_after table seat deeds = fold (λ actor deed. if deed.who == seat.who then (table actor (input_got deed.input)).0 else actor) seat.actor deeds

-- whether an input is the start of a client
abbrev pub is_start : {M O : Type 0} → Input M O → Bool
is_start an.Go = true
is_start (an.Got mail) = false
is_start an.Tick = false
is_start (an.Told order) = false

-- whether an actor has started
abbrev pub has_begun : {M O : Type 0} → List (Deed M O) → ℕ → Bool
has_begun deeds who = list_any (λ deed. deed.who == who && is_start deed.input) deeds

-- the event of an input
abbrev pub event_of : {M O : Type 0} → Input (Came M) O → Event O
event_of (an.Got came) = Deliver came.number
event_of an.Tick = Tick
event_of an.Go = Go
event_of (an.Told order) = Told order
