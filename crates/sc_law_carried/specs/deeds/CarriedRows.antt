-- The rows of deeds: one for each, and a repeat by the network before a delivery of a mail of which no copy is under way.
use Rattle.std.specs.Prelude.{◌-◌, ◌==◌, Bool, true, false, List, [], ◌∷◌, ◌++◌, fold, if◌then◌else◌, slice_index}
use Rattle.sc_actor.specs.declared.rows.Event.{Event}
use Rattle.sc_actor.specs.declared.rows.Event.TheVariants.{Deliver, Tick, Go, Told, Crash, Drop, Again}
use Rattle.sc_actor.specs.declared.rows.Input.{Input}
use Rattle.sc_actor.specs.declared.rows.Input.TheVariants as an
use Rattle.sc_actor.specs.declared.rows.Row.{Row}
use Rattle.sc_actor.specs.Definitions.{copies, network}
use Rattle.sc_law_carried.specs.deeds.Deeds.{Came, Deed, event_of}

-- the row of a deed
abbrev pub deed_row : {M O : Type 0} → Deed M O → Row M O
deed_row deed = record { who = deed.who; event = event_of deed.input; sent = deed.sent }

-- the repeat that an input needs after these rows: one of its mail, where no copy of it is under way
abbrev pub repeat_before : {M O : Type 0} → List (Row M O) → Input (Came M) O → List (Row M O)
repeat_before rows (an.Got came) = if slice_index (copies rows) (came.number - 1) == 0 then network (Again came.number) ∷ [] else []
repeat_before rows an.Tick = []
repeat_before rows an.Go = []
repeat_before rows (an.Told order) = []

-- the rows with those of one more deed
abbrev pub with_deed : {M O : Type 0} → List (Row M O) → Deed M O → List (Row M O)
with_deed rows deed = (rows ++ repeat_before rows deed.input) ++ deed_row deed ∷ []

-- the rows of deeds
abbrev pub rows_of : {M O : Type 0} → List (Deed M O) → List (Row M O)
rows_of deeds = fold with_deed [] deeds

-- whether an event is a repeat
abbrev pub is_repeat : {O : Type 0} → Event O → Bool
is_repeat (Again number) = true
is_repeat (Deliver number) = false
is_repeat Tick = false
is_repeat Go = false
is_repeat (Told order) = false
is_repeat Crash = false
is_repeat (Drop number) = false
