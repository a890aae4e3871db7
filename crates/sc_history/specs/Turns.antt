-- What a process may do next, and why an act is refused.
use Rattle.std.specs.Prelude.{◌≡◌, ℕ, nat_eq, not, ◌&&◌, Bool, true, false, List, Option, Some, None, if◌then◌else◌}
use Rattle.std.specs.HashMap.{HashMap, get}
use Rattle.std.specs.Option.{option_map}
use Rattle.sc_history.specs.Histories.{is_conditional, last_act}
use Rattle.sc_history.specs.declared.events.Act.{Act}
use Rattle.sc_history.specs.declared.events.Act.TheVariants.{Begin, End}
use Rattle.sc_history.specs.declared.events.End as end
use Rattle.sc_history.specs.declared.events.End.TheVariants.{Absent, Value, Done, No, Fail, Lost}
use Rattle.sc_history.specs.declared.events.Event.{Event}
use Rattle.sc_history.specs.declared.reasons.HistoryReason.{HistoryReason}
use Rattle.sc_history.specs.declared.reasons.HistoryReason.TheVariants.{UnknownLine, HasRequest, HasNone, IsLost}
use Rattle.sc_history.specs.declared.turns.Turn.{Turn}
use Rattle.sc_history.specs.declared.turns.Turn.TheVariants.{Waits, Rests, Gone}

-- whether a process is told `lost`
abbrev pub is_lost : end.End → Bool
is_lost Absent = false
is_lost (Value value) = false
is_lost Done = false
is_lost No = false
is_lost Fail = false
is_lost Lost = true

-- whether a process is told `no`
abbrev pub is_no : end.End → Bool
is_no Absent = false
is_no (Value value) = false
is_no Done = false
is_no No = true
is_no Fail = false
is_no Lost = false

-- what a process may do next after an act
abbrev pub turn_after : Act → Turn
turn_after (Begin op) = Waits (is_conditional op)
turn_after (End told) = if is_lost told then Gone else Rests

-- why a process may not begin a request, if so; one that did nothing may
abbrev pub begin_error : Option Turn → Option HistoryReason
begin_error None = None
begin_error (Some (Waits conditional)) = Some HasRequest
begin_error (Some Rests) = None
begin_error (Some Gone) = Some IsLost

-- why a request of a process may not end so, if so
abbrev pub end_error : Option Turn → end.End → Option HistoryReason
end_error None told = Some HasNone
end_error (Some (Waits conditional)) told = if is_no told && not conditional then Some UnknownLine else None
end_error (Some Rests) told = Some HasNone
end_error (Some Gone) told = Some IsLost

-- why a process may not act so, if so
abbrev pub turn_error : Option Turn → Act → Option HistoryReason
turn_error turn (Begin op) = begin_error turn
turn_error turn (End told) = end_error turn told

-- a map has what each process may do next after these events
abbrev pub AreTurns : {S : Type 0} → HashMap ℕ Turn S → List Event → Type 0
AreTurns turns events = (process : ℕ) → get nat_eq turns process ≡ option_map turn_after (last_act process events)
