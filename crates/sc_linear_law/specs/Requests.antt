-- The requests of a history, and what each one's end says.
use Rattle.std.specs.Prelude.{ℕ, Bool, true, false, not, ◌&&◌, List, [], ◌∷◌, ◌++◌, Option, Some, None, map, fold, filter, nat_eq, nat_le, nat_lt, is_none, is_some, ◌==◌, if◌then◌else◌}
use Rattle.std.specs.Cmp.Lexicographic.{pointwise}
use Rattle.sc_base.specs.declared.ops.Op.{Op}
use Rattle.sc_base.specs.declared.ops.Op.TheVariants.{Get, Put, Del, Add, Cas}
use Rattle.sc_words.specs.ideal.IdealDefinitions.{key_of, was}
use Rattle.sc_history.specs.declared.events.Event.{Event}
use Rattle.sc_linear_law.specs.declared.requests.Request.{Request}
use Rattle.sc_history.specs.declared.events.Act.{Act}
use Rattle.sc_history.specs.declared.events.Act.TheVariants.{Begin, End}
use Rattle.sc_history.specs.declared.events.End as told
use Rattle.sc_history.specs.declared.events.End.TheVariants.{Absent, Value, Done, No, Fail, Lost}

-- how a request ended, and on which line, if it did
abbrev pub Ending : Type 0
Ending = Option (ℕ × told.End)

-- the request, ended on this line if it is of this process and under way
abbrev pub ended_by : ℕ → ℕ → told.End → Request → Request
ended_by line process how request = if (request.process == process) && is_none request.ending then record request { ending = Some (line, how) } else request

-- the requests after one more act of a process
abbrev pub with_act : ℕ → ℕ → Act → List Request → List Request
with_act line process (Begin op) requests = requests ++ (record { begun = line; process = process; op = op; ending = None }) ∷ []
with_act line process (End how) requests = map (ended_by line process how) requests

-- the requests of a history, in the order in which they began
abbrev pub requests_of : List Event → List Request
requests_of = fold (λ requests event. with_act event.line event.process event.act requests) []

-- the line on which a request was answered, if it is done: one that failed or is lost is not
abbrev pub answer_line : Ending → Option ℕ
answer_line None = None
answer_line (Some (line, Absent)) = Some line
answer_line (Some (line, Value value)) = Some line
answer_line (Some (line, Done)) = Some line
answer_line (Some (line, No)) = Some line
answer_line (Some (line, Fail)) = None
answer_line (Some (line, Lost)) = None

-- whether a request was answered before this line
abbrev pub is_before : Option ℕ → ℕ → Bool
is_before None line = false
is_before (Some answered) line = nat_lt answered line

-- whether an operation that is refused by its condition met this: an `add` a value, a `cas` another value than the expected one, or none
abbrev pub is_refused : Op → Option (List ℕ) → Bool
is_refused (Get key) old = false
is_refused (Put key value) old = false
is_refused (Del key) old = false
is_refused (Add key value) old = is_some old
is_refused (Cas key expect value) old = not (was expect old)

-- whether an ending allows that the request's key had this value before it: one that failed took no effect at all
abbrev pub fits : Ending → Op → Option (List ℕ) → Bool
fits None op old = true
fits (Some (line, Absent)) op old = is_none old
fits (Some (line, Value value)) op old = was value old
fits (Some (line, Done)) op old = true
fits (Some (line, No)) op old = is_refused op old
fits (Some (line, Fail)) op old = false
fits (Some (line, Lost)) op old = true

-- the value of a key after an operation on it, which met this value
abbrev pub value_after : Op → Option (List ℕ) → Option (List ℕ)
value_after (Get key) old = old
value_after (Put key value) old = Some value
value_after (Del key) old = None
value_after (Add key value) old = if is_none old then Some value else old
value_after (Cas key expect value) old = if was expect old then Some value else old

-- whether a request is on this key
abbrev pub is_on : List ℕ → Request → Bool
is_on key request = pointwise nat_eq (key_of request.op) key

-- the requests on one key
abbrev pub of_key : List ℕ → List Request → List Request
of_key key = filter (is_on key)

-- an ending as it stands after this line: one on a later line is not known yet
abbrev pub known_by : ℕ → Ending → Ending
known_by line None = None
known_by line (Some (ended, how)) = if nat_le ended line then Some (ended, how) else None

-- a request as it stands after this line
abbrev pub until_line : ℕ → Request → Request
until_line line request = record request { ending = known_by line request.ending }

-- the requests of the history's prefix up to this line
abbrev pub up_to : ℕ → List Request → List Request
up_to line requests = map (until_line line) (filter (λ request. nat_le request.begun line) requests)
