-- The action that a line or a step allows next, which is an actor and an event, by the numbers of the actors and the rows alone.
use Rattle.std.specs.Prelude.{ℕ, zero, suc, ◌+◌, ◌%◌, ◌==◌, List, length, slice_get, Bool, true, false, ◌&&◌, ◌||◌, not, if◌then◌else◌, Option, None, Some, option_and_then}
use Rattle.std.specs.Option.{option_map}
use Rattle.std.specs.List.{list_any}
use Rattle.sc_actor.specs.declared.rows.Row.{Row}
use Rattle.sc_actor.specs.declared.rows.Event.{Event}
use Rattle.sc_actor.specs.declared.rows.Event.TheVariants.{Deliver, Tick, Go, Told, Crash, Drop, Again}
use Rattle.sc_actor.specs.declared.schedules.Line.{Line}
use Rattle.sc_actor.specs.declared.schedules.Line.TheVariants.{Go as GoLine, Deliver as DeliverLine, Drop as DropLine, Again as AgainLine, Tick as TickLine, Crash as CrashLine, Told as ToldLine, Settle, Free, Storm}
use Rattle.sc_actor.specs.Mail.{mails, numbered, may_get, pending}
use Rattle.sc_actor.specs.System.{System, acts, network, kth, has_started}
use Rattle.sc_world_replay.specs.declared.stages.Action.{Action}

-- Whether the event is one of the network: a drop or a repeat.
abbrev pub is_of_network : {O : Type 0} → Event O → Bool
is_of_network (Drop mail) = true
is_of_network (Again mail) = true
is_of_network (Deliver mail) = false
is_of_network Tick = false
is_of_network Go = false
is_of_network (Told order) = false
is_of_network Crash = false

-- Whether there is an actor with this number.
abbrev pub is_number : List ℕ → ℕ → Bool
is_number numbers who = list_any (λ number. number == who) numbers

-- Whether the action is one of the network, or of an actor that there is.
abbrev pub can_act : {O : Type 0} → List ℕ → Action O → Bool
can_act numbers action = is_of_network action.event || is_number numbers action.who

-- The row that an action makes after these rows.
abbrev pub row_made : {A M O : Type 0} → System A M O → List (Row M O) → Action O → Option (Row M O)
row_made s rows action = if is_of_network action.event then Some (network action.event) else acts s rows action.who action.event

-- The action with this actor and this event.
abbrev pub action : {O : Type 0} → ℕ → Event O → Action O
action who event = record { who = who; event = event }

-- Whether there is a value, and the test holds of it.
abbrev pub holds_of : {M : Type 0} → (M → Bool) → Option M → Bool
holds_of test None = false
holds_of test (Some mail) = test mail

-- Whether the mail with this number was sent to an actor that has not crashed.
abbrev pub may_come_again : {M O : Type 0} → (M → ℕ) → List ℕ → List (Row M O) → ℕ → Bool
may_come_again receiver numbers rows mail = holds_of (λ m. may_get numbers rows (receiver m)) (numbered (mails rows) mail)

-- The value, if the test holds.
abbrev pub when : {X : Type 0} → Bool → X → Option X
when b x = if b then Some x else None

-- The action of a line of one row after these rows, or none where the line makes no row or is one of many.
abbrev pub line_action : {M O : Type 0} → (M → ℕ) → List ℕ → List (Row M O) → Line O → Option (Action O)
line_action receiver numbers rows (GoLine who) = when (is_number numbers who && not (has_started rows who)) (action who Go)
line_action receiver numbers rows (DeliverLine who k) = option_map (λ mail. action who (Deliver mail)) (kth (pending receiver numbers rows (Some who)) k)
line_action receiver numbers rows (DropLine who k) = option_map (λ mail. action 0 (Drop mail)) (kth (pending receiver numbers rows (Some who)) k)
line_action receiver numbers rows (AgainLine mail) = when (may_come_again receiver numbers rows mail) (action 0 (Again mail))
line_action receiver numbers rows (TickLine who) = when (may_get numbers rows who) (action who Tick)
line_action receiver numbers rows (CrashLine who) = when (may_get numbers rows who) (action who Crash)
line_action receiver numbers rows (ToldLine who order) = when (may_get numbers rows who) (action who (Told order))
line_action receiver numbers rows (Settle most) = None
line_action receiver numbers rows (Free most workers) = None
line_action receiver numbers rows (Storm number most) = None

-- The delivery of the mail with this number to its receiver.
abbrev pub delivery_action : {M O : Type 0} → (M → ℕ) → List (Row M O) → ℕ → Option (Action O)
delivery_action receiver rows mail = option_map (λ m. action (receiver m) (Deliver mail)) (numbered (mails rows) mail)

-- The delivery of the lowest-numbered pending mail of all actors.
abbrev pub lowest_action : {M O : Type 0} → (M → ℕ) → List ℕ → List (Row M O) → Option (Action O)
lowest_action receiver numbers rows = option_and_then (delivery_action receiver rows) (kth (pending receiver numbers rows None) 1)

-- The delivery that a line of many may make next: for a `settle` line the lowest-numbered of all, for a `free` line the first of the actor `who`.
abbrev pub chosen_action : {M O : Type 0} → (M → ℕ) → List ℕ → List (Row M O) → Bool → ℕ → Option (Action O)
chosen_action receiver numbers rows true who = line_action receiver numbers rows (DeliverLine who 1)
chosen_action receiver numbers rows false who = lowest_action receiver numbers rows

-- The number of the pending mail at the place `v` modulo their number, from 0.
abbrev pub picked_mail : {M O : Type 0} → (M → ℕ) → List ℕ → List (Row M O) → ℕ → Option ℕ
picked_mail receiver numbers rows v = slice_get (pending receiver numbers rows None) (v % length (pending receiver numbers rows None))

-- The tick of an actor that has not crashed.
abbrev pub tick_action : {M O : Type 0} → List ℕ → List (Row M O) → ℕ → Option (Action O)
tick_action numbers rows who = when (may_get numbers rows who) (action who Tick)

-- The action of a step of a storm, by the first word modulo 16 (0 drops, 1 repeats, 2 ticks, others deliver) and by the second, which picks the mail or the actor.
abbrev pub storm_action : {M O : Type 0} → (M → ℕ) → List ℕ → List (Row M O) → ℕ → ℕ → Option (Action O)
storm_action receiver numbers rows zero v = option_map (λ mail. action 0 (Drop mail)) (picked_mail receiver numbers rows v)
storm_action receiver numbers rows (suc zero) v = line_action receiver numbers rows (AgainLine (1 + v % length (mails rows)))
storm_action receiver numbers rows (suc (suc zero)) v = option_and_then (tick_action numbers rows) (slice_get numbers (v % length numbers))
storm_action receiver numbers rows (suc (suc (suc more))) v = option_and_then (delivery_action receiver rows) (picked_mail receiver numbers rows v)
