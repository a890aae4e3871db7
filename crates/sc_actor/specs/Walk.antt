-- Which journals a schedule allows.
use Rattle.std.specs.Prelude.{◌≡◌, ℕ, zero, suc, ◌+◌, ◌-◌, ◌%◌, ◌==◌, List, [], ◌∷◌, ◌++◌, length, fold, ⊤, Bool, false, ◌||◌, not, if◌then◌else◌, Option, None, Some, is_none, slice_get, option_and_then}
use Rattle.std.specs.Option.{option_map}
use Rattle.std.specs.List.{flat_map}
use Rattle.sc_actor.specs.declared.rows.Row.{Row}
use Rattle.sc_actor.specs.declared.rows.Event.TheVariants.{Deliver, Tick, Go, Told, Crash, Drop, Again}
use Rattle.sc_actor.specs.declared.schedules.Line.{Line}
use Rattle.sc_actor.specs.declared.schedules.Line.TheVariants.{Go as GoLine, Deliver as DeliverLine, Drop as DropLine, Again as AgainLine, Tick as TickLine, Crash as CrashLine, Told as ToldLine, Settle, Free, Storm}
use Rattle.sc_actor.specs.Mail.{mails, numbered, has_crashed, may_get}
use Rattle.sc_actor.specs.System.{System, numbers_of, waiting, acts, network, kth, has_started}

-- a unit of work of a schedule: a line that makes one row, the deliveries that a `Settle` or `Free` line may still make, or one step of a storm with its two words
pub data Task (O : Type 0) : Type 0 where
  Once : (line : Line O) → Task O
  Settles : (left : ℕ) → Task O
  Frees : (left : ℕ) → Task O
  Storms : (words : ℕ × ℕ) → Task O

-- the next `left` steps of a storm, from step number `step` on
abbrev pub storm_steps : {O : Type 0} → (ℕ → ℕ × ℕ) → ℕ → ℕ → List (Task O)
storm_steps words step zero = []
storm_steps words step (suc left) = Storms (words step) ∷ storm_steps words (suc step) left

-- the tasks of a line
abbrev pub tasks_of : {O : Type 0} → (ℕ → ℕ → ℕ × ℕ) → Line O → List (Task O)
tasks_of words (Settle most) = Settles most ∷ []
tasks_of words (Free most workers) = Frees most ∷ []
tasks_of words (Storm number most) = storm_steps (words number) 0 most
tasks_of words (GoLine who) = Once (GoLine who) ∷ []
tasks_of words (DeliverLine who k) = Once (DeliverLine who k) ∷ []
tasks_of words (DropLine who k) = Once (DropLine who k) ∷ []
tasks_of words (AgainLine mail) = Once (AgainLine mail) ∷ []
tasks_of words (TickLine who) = Once (TickLine who) ∷ []
tasks_of words (CrashLine who) = Once (CrashLine who) ∷ []
tasks_of words (ToldLine who order) = Once (ToldLine who order) ∷ []

-- the row that delivers this mail to its receiver, or None where there is none
abbrev pub delivery : {A M O : Type 0} → System A M O → List (Row M O) → ℕ → Option (Row M O)
delivery s rows mail = option_and_then (λ m. acts s rows (s.receiver m) (Deliver mail)) (numbered (mails rows) mail)

-- the row that repeats this mail, if it was sent to an actor that has not crashed
abbrev pub repeat_of : {A M O : Type 0} → System A M O → List (Row M O) → ℕ → Option (Row M O)
repeat_of s rows mail =
    option_and_then (λ m. if may_get (numbers_of s.births) rows (s.receiver m) then Some (network (Again mail)) else None) (numbered (mails rows) mail)

-- the row that a line of one row makes, or None where the line is skipped
abbrev pub line_row : {A M O : Type 0} → System A M O → List (Row M O) → Line O → Option (Row M O)
line_row s rows (GoLine who) = if has_started rows who then None else acts s rows who Go
line_row s rows (DeliverLine who k) = option_and_then (λ mail. acts s rows who (Deliver mail)) (kth (waiting s rows (Some who)) k)
line_row s rows (DropLine who k) = option_map (λ mail. network (Drop mail)) (kth (waiting s rows (Some who)) k)
line_row s rows (AgainLine mail) = repeat_of s rows mail
line_row s rows (TickLine who) = if has_crashed rows who then None else acts s rows who Tick
line_row s rows (CrashLine who) = if has_crashed rows who then None else acts s rows who Crash
line_row s rows (ToldLine who order) = if has_crashed rows who then None else acts s rows who (Told order)
line_row s rows (Settle most) = None
line_row s rows (Free most workers) = None
line_row s rows (Storm number most) = None

-- the delivery of the pending mail with the lowest number of all
abbrev pub lowest : {A M O : Type 0} → System A M O → List (Row M O) → Option (Row M O)
lowest s rows = option_and_then (delivery s rows) (kth (waiting s rows None) 1)

-- the delivery of the first pending mail of an actor
abbrev pub first_of : {A M O : Type 0} → System A M O → List (Row M O) → ℕ → Option (Row M O)
first_of s rows who = option_and_then (λ mail. acts s rows who (Deliver mail)) (kth (waiting s rows (Some who)) 1)

-- the number of the pending mail at place `v` modulo how many are pending
abbrev pub picked : {A M O : Type 0} → System A M O → List (Row M O) → ℕ → Option ℕ
picked s rows v = slice_get (waiting s rows None) (v % length (waiting s rows None))

-- the row of a step of a storm, chosen by the first word modulo 16: 0 loses a mail, 1 repeats one, 2 lets a clock tick, and all others deliver a mail; the second word picks which
abbrev pub storm_row : {A M O : Type 0} → System A M O → List (Row M O) → ℕ → ℕ → Option (Row M O)
storm_row s rows zero v = option_map (λ mail. network (Drop mail)) (picked s rows v)
storm_row s rows (suc zero) v = repeat_of s rows (1 + v % length (mails rows))
storm_row s rows (suc (suc zero)) v =
    option_and_then (λ who. if has_crashed rows who then None else acts s rows who Tick) (slice_get (numbers_of s.births) (v % length (numbers_of s.births)))
storm_row s rows (suc (suc (suc more))) v = option_and_then (delivery s rows) (picked s rows v)

-- the walk through the schedule may add this row next, where this task is the first one left; only a `Free` line leaves a choice
abbrev pub Allows : {A M O : Type 0} → System A M O → List (Row M O) → Task O → Row M O → Type 0
Allows s rows (Once line) row = line_row s rows line ≡ Some row
Allows s rows (Settles left) row = lowest s rows ≡ Some row
Allows s rows (Frees left) row = first_of s rows row.who ≡ Some row
Allows s rows (Storms words) row = storm_row s rows (words.0 % 16) words.1 ≡ Some row

-- whether no mail is pending
abbrev pub is_quiet : {A M O : Type 0} → System A M O → List (Row M O) → Bool
is_quiet s rows = is_none (kth (waiting s rows None) 1)

-- whether a task makes no further row
abbrev pub is_over : {A M O : Type 0} → System A M O → List (Row M O) → Task O → Bool
is_over s rows (Once line) = is_none (line_row s rows line)
is_over s rows (Settles left) = left == 0 || is_quiet s rows
is_over s rows (Frees left) = left == 0 || is_quiet s rows
is_over s rows (Storms words) = is_none (storm_row s rows (words.0 % 16) words.1)

-- how many skipped lines a task that is over counts as: 1 for a line of one row, which made none, and 0 for any other task
abbrev pub skips : {O : Type 0} → Task O → ℕ
skips (Once line) = 1
skips (Settles left) = 0
skips (Frees left) = 0
skips (Storms words) = 0

-- whether a task that is over was cut off, with mail still pending
abbrev pub cuts : {A M O : Type 0} → System A M O → List (Row M O) → Task O → Bool
cuts s rows (Once line) = false
cuts s rows (Settles left) = not (is_quiet s rows)
cuts s rows (Frees left) = not (is_quiet s rows)
cuts s rows (Storms words) = false

-- what is left of a task after one row of it
abbrev pub rest_of_task : {O : Type 0} → Task O → List (Task O)
rest_of_task (Once line) = []
rest_of_task (Settles left) = Settles (left - 1) ∷ []
rest_of_task (Frees left) = Frees (left - 1) ∷ []
rest_of_task (Storms words) = []

-- a place in the walk through a schedule: the tasks left, the first of which makes a row, the rows so far, the number of skipped lines, and whether a line was cut off
pub record WalkPlace (M O : Type 0) : Type 0 where
  pub tasks : List (Task O)
  pub rows : List (Row M O)
  pub skipped : ℕ
  pub unsettled : Bool

-- the place of the walk after it has passed the tasks that make no row
abbrev pub onward : {A M O : Type 0} → System A M O → List (Row M O) → List (Task O) → ℕ → Bool → WalkPlace M O
onward s rows [] skipped unsettled = record { tasks = []; rows = rows; skipped = skipped; unsettled = unsettled }
onward s rows (task ∷ tasks) skipped unsettled =
    if is_over s rows task
    then onward s rows tasks (skipped + skips task) (unsettled || cuts s rows task)
    else record { tasks = task ∷ tasks; rows = rows; skipped = skipped; unsettled = unsettled }

-- the place of the walk before the first row
abbrev pub start : {A M O : Type 0} → System A M O → List (Line O) → WalkPlace M O
start s lines = onward s [] (flat_map (tasks_of s.words) lines) 0 false

-- the tasks that are left after one more row
abbrev pub rest_of_all : {O : Type 0} → List (Task O) → List (Task O)
rest_of_all [] = []
rest_of_all (task ∷ tasks) = rest_of_task task ++ tasks

-- the place of the walk after one more row
abbrev pub after_row : {A M O : Type 0} → System A M O → WalkPlace M O → Row M O → WalkPlace M O
after_row s place row = onward s (place.rows ++ row ∷ []) (rest_of_all place.tasks) place.skipped place.unsettled

-- the walk may add this row next
abbrev pub MayAdd : {A M O : Type 0} → System A M O → List (Row M O) → List (Task O) → Row M O → Type 0
MayAdd s rows [] row = ⊥
MayAdd s rows (task ∷ tasks) row = Allows s rows task row

-- the walk may add these rows, one after another
abbrev pub IsWalk : {A M O : Type 0} → System A M O → WalkPlace M O → List (Row M O) → Type 0
IsWalk s place [] = ⊤
IsWalk s place (row ∷ rows) = MayAdd s place.rows place.tasks row × IsWalk s (after_row s place row) rows

-- a journal is lawful: the walk through the schedule can make it, row by row
abbrev pub IsLawful : {A M O : Type 0} → System A M O → List (Line O) → List (Row M O) → Type 0
IsLawful s lines journal = IsWalk s (start s lines) journal

-- the place of the walk after a journal
abbrev pub place_after : {A M O : Type 0} → System A M O → List (Line O) → List (Row M O) → WalkPlace M O
place_after s lines journal = fold (after_row s) (start s lines) journal

-- a journal is whole: after it the walk has passed the last line
abbrev pub IsWhole : {A M O : Type 0} → System A M O → List (Line O) → List (Row M O) → Type 0
IsWhole s lines journal = (place_after s lines journal).tasks ≡ []

-- how many lines were skipped, since they made no row
abbrev pub skipped : {A M O : Type 0} → System A M O → List (Line O) → List (Row M O) → ℕ
skipped s lines journal = (place_after s lines journal).skipped

-- whether a `Settle` or `Free` line ended with mail pending
abbrev pub unsettled : {A M O : Type 0} → System A M O → List (Line O) → List (Row M O) → Bool
unsettled s lines journal = (place_after s lines journal).unsettled

-- a row that may come next after a journal
abbrev pub IsNext : {A M O : Type 0} → System A M O → List (Line O) → List (Row M O) → Row M O → Type 0
IsNext s lines journal row = MayAdd s journal (place_after s lines journal).tasks row
