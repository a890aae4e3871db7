-- The rule of the turn, and what a seat knows after each atomic step.
use Rattle.std.specs.Prelude.{◌≡◌, ◌≢◌, ℕ, Bool, true, false, ◌==◌, nat_lt, if◌then◌else◌, ◌≤◌, List, [], ◌∷◌, ◌++◌, ◌⊎◌, map, drop, length, Contains, Option, Some}
use mathlib.Core.Option.{some}
use lib.ListN.{get_elem?}
use Rattle.atomic_table.specs.Table.{State, Me, Step, rest}
use Rattle.sc_thread_ports.specs.declared.turn.rule.View.{View}

-- The list `ys` is a prefix of `xs`.
abbrev pub StartsWith : {E : Type 0} → List E → List E → Type 0
StartsWith {E} xs ys = (rest : List E) × (xs ≡ ys ++ rest)

-- The longer of two lists, the first where both have one length.
abbrev pub longer : {E : Type 0} → List E → List E → List E
longer xs ys = if nat_lt (length xs) (length ys) then ys else xs

-- The shorter of two lists, the second where both have one length.
abbrev pub shorter : {E : Type 0} → List E → List E → List E
shorter xs ys = if nat_lt (length xs) (length ys) then xs else ys

-- The rows of the list whose maker has the number `n`, in their order.
abbrev pub rows_by : {E : Type 0} → ℕ → List (E × ℕ) → List E
rows_by n [] = []
rows_by n (r ∷ rs) = if r.1 == n then r.0 ∷ rows_by n rs else rows_by n rs

-- The state of a number: no seat was made with it; the view at this place carries it; or its seat was joined, and had made these rows.
pub data Status (E : Type 0) : Type 0 where
  unused : Status E
  carried : ℕ → Status E
  settled : List E → Status E

-- The function `f` with the value `x` at `k`.
abbrev pub put_status : {E : Type 0} → (ℕ → Status E) → ℕ → Status E → ℕ → Status E
put_status f k x n = if n == k then x else f n

-- Who has the turn: nobody, or the seat at this place among the views.
pub data TurnHolder : Type 0 where
  free : TurnHolder
  held : ℕ → TurnHolder

-- The value of word 0 of the table for this holder: 0 while the turn is free, 1 while a seat has it.
abbrev pub turn_word : TurnHolder → ℕ
turn_word free = 0
turn_word (held h) = 1

-- A view made of its fields.
abbrev pub view : {E : Type 0} → ℕ → Bool → Bool → List (E × ℕ) → List (E × ℕ) → List E → List ℕ → List (ℕ × List E) → View E
view who live turn seen received made given joined = record { who = who; live = live; turn = turn; seen = seen; received = received; made = made; given = given; joined = joined }

module _ {E : Type 0} where
  -- The view of the first seat at the start: number 0, no rows.
  abbrev pub opener : View E
  opener = view 0 true false [] [] [] [] []

  -- The view of a new seat of the number `who`, which has seen the rows `seen` and made none.
  abbrev pub newcomer : ℕ → List (E × ℕ) → View E
  newcomer who seen = view who true false seen [] [] [] []

  -- The view of a note: it carries the rows `seen` from one seat to another, and no number.
  abbrev pub note : List (E × ℕ) → View E
  note seen = view 0 false false seen [] [] [] []

  -- The view with `turn` as whether its seat has the turn.
  abbrev pub with_turn : View E → Bool → View E
  with_turn v turn = view v.who v.live turn v.seen v.received v.made v.given v.joined

  -- The view that has seen the rows `seen`, with no received rows left to compare.
  abbrev pub with_seen : View E → List (E × ℕ) → View E
  with_seen v seen = view v.who v.live v.turn seen [] v.made v.given v.joined

  -- The view once its seat has made `row`: the row is the last that it has seen and the last that it has made.
  abbrev pub with_row : View E → E → View E
  with_row v row = view v.who v.live v.turn (v.seen ++ (row, v.who) ∷ []) v.received (v.made ++ row ∷ []) v.given v.joined

  -- The view once the number `who` is split off.
  abbrev pub with_given : View E → ℕ → View E
  with_given v who = view v.who v.live v.turn v.seen v.received v.made (v.given ++ who ∷ []) v.joined

  -- The view `v` once it has received what `w` has seen.
  abbrev pub informed : View E → View E → View E
  informed v w = view v.who v.live v.turn v.seen w.seen v.made v.given v.joined

  -- The view `v` once it has taken in `w`: it has seen the longer of the two lists, holds the shorter as received, and keeps the number of `w` with the rows that `w` made.
  abbrev pub merged : View E → View E → View E
  merged v w = view v.who v.live v.turn (longer v.seen w.seen) (shorter v.seen w.seen) v.made v.given (v.joined ++ (w.who, w.made) ∷ [])

  -- The view `merged v w` once the count was read: no received rows are left.
  abbrev pub merged_seen : View E → View E → View E
  merged_seen v w = with_seen (merged v w) (longer v.seen w.seen)

  -- The view that has the turn and has seen the rows `rows`.
  abbrev pub entered_with : View E → List (E × ℕ) → View E
  entered_with v rows = view v.who v.live true rows v.received v.made v.given v.joined

  -- The view once the rows `rows` are counted: it has seen all of them, and has made those behind the rows that it had seen before.
  abbrev pub with_counted : View E → List (E × ℕ) → View E
  with_counted v rows = view v.who v.live v.turn rows v.received (v.made ++ map (λ r. r.0) (drop (length v.seen) rows)) v.given v.joined

  -- The view once its seat has given the turn back with the rows `rows`.
  abbrev pub left_with : View E → List (E × ℕ) → View E
  left_with v rows = with_turn (with_counted v rows) false

  -- The rows with which the turn may be given back: those that the seat has seen, or those and one more with the seat's number.
  abbrev pub CanLeave : View E → List (E × ℕ) → Type 0
  CanLeave v rows = (rows ≡ v.seen) ⊎ ((row : E) × (rows ≡ v.seen ++ (row, v.who) ∷ []))

  -- What holds of a view that carries a number: the number is carried at this place, its rows in the list are those that the view has made, and the first seat (number 0) knows which numbers are unused and what each joined number had made.
  pub record OwnsNumber (log : List (E × ℕ)) (status : ℕ → Status E) (place : ℕ) (v : View E) : Type 0 where
    pub carries : status v.who ≡ carried place
    pub made : rows_by v.who log ≡ v.made
    pub others : v.who ≡ 0 → (n : ℕ) → n ≢ 0 → ¬ Contains v.given n → status n ≡ unused
    pub joined : v.who ≡ 0 → (k : ℕ × List E) → Contains v.joined k → status k.0 ≡ settled k.1

  -- A view agrees with the list, the numbers and the turn: what it has seen and what it has received are prefixes of the list, it has the turn only where it is the holder, and a live view owns its number.
  pub record Fits (log : List (E × ℕ)) (status : ℕ → Status E) (turn : TurnHolder) (place : ℕ) (v : View E) : Type 0 where
    pub seen : StartsWith log v.seen
    pub received : StartsWith log v.received
    pub has_turn : v.turn ≡ true → turn ≡ held place
    pub number : v.live ≡ true → OwnsNumber log status place v

  -- The view at the place `h` has the turn, and has seen the whole list.
  pub record HasTurn (log : List (E × ℕ)) (views : List (View E)) (h : ℕ) : Type 0 where
    pub holder : View E
    pub there : get_elem? views h ≡ some holder
    pub has : holder.turn ≡ true
    pub whole : holder.seen ≡ log

  -- In the list `log`, the rows of the view's number are those that it has made. For the first seat (number 0), the rows of each joined number are those recorded at the join, and a number that was not split off has no row.
  pub record IsTrueOf (v : View E) (log : List (E × ℕ)) : Type 0 where
    pub own : rows_by v.who log ≡ v.made
    pub joined : v.who ≡ 0 → (k : ℕ × List E) → Contains v.joined k → rows_by k.0 log ≡ k.1
    pub others : v.who ≡ 0 → (n : ℕ) → n ≢ 0 → ¬ Contains v.given n → rows_by n log ≡ []

  -- There is a list that begins with what the view has seen, and the view's facts are true of it.
  pub record IsTrueLater (v : View E) : Type 0 where
    pub list : List (E × ℕ)
    pub later : StartsWith list v.seen
    pub facts : IsTrueOf v list

  -- There is one list that begins both with what the view has seen and with the rows `rows`, and the view's facts are true of it.
  pub record IsTrueOver (v : View E) (rows : List (E × ℕ)) : Type 0 where
    pub list : List (E × ℕ)
    pub later : StartsWith list v.seen
    pub over : StartsWith list rows
    pub facts : IsTrueOf v list

module _ {T E : Type 0} (entries : T → List (E × ℕ)) where
  -- The rule that every step keeps, whatever seat takes it. There is one list, and word 1 is its length. While the turn is free the slot has a value that stands for the list; while it is held, the holder has seen the whole list. Each view fits the list, an unused number has no row, and a settled number has the rows that its seat had made.
  pub record Kept (s : State (Option T) (View E)) : Type 0 where
    pub log : List (E × ℕ)
    pub status : ℕ → Status E
    pub turn : TurnHolder
    pub words : s.words ≡ turn_word turn ∷ length log ∷ []
    pub at_home : turn ≡ free → (x : T) × (s.homes ≡ some (Some x) ∷ []) × (entries x ≡ log)
    pub taken : (h : ℕ) → turn ≡ held h → HasTurn log s.views h
    pub each : (i : ℕ) (v : View E) → get_elem? s.views i ≡ some v → Fits log status turn i v
    pub unmade : (n : ℕ) → status n ≡ unused → rows_by n log ≡ []
    pub ended : (n : ℕ) (rows : List E) → status n ≡ settled rows → rows_by n log ≡ rows

  -- A seat's view with the slots that the seat has taken out of the table.
  abbrev Sat : Type 0
  Sat = Me (Option T) (View E)

  -- The seat takes the turn, and the value out of the slot: it has seen the value's whole list, which begins with what it had seen before.
  pub record GetsTurn (m m' : Sat) : Type 0 where
    pub value : T
    pub slot : m'.1 ≡ (0, Some value) ∷ m.1
    pub view_is : m'.0 ≡ entered_with m.0 (entries value)
    pub later : StartsWith (entries value) m.0.seen
    pub facts : m.0.live ≡ true → IsTrueOf m.0 (entries value)

  -- The outcome of an attempt to take the turn: with 0 the seat has it, with another result nothing changes.
  abbrev pub acquire_returns : Step (Option T) → Sat → ℕ → Sat → Type 0
  acquire_returns st m r m' = (r ≡ 0 → GetsTurn m m') × (r ≢ 0 → m' ≡ m)

  -- The seat has seen every row that is counted so far. The list begins with what it had seen and with what it had received.
  pub record Looks (m m' : Sat) : Type 0 where
    pub slots : m'.1 ≡ m.1
    pub view_is : m'.0 ≡ with_seen m.0 m'.0.seen
    pub later : StartsWith m'.0.seen m.0.seen
    pub received : StartsWith m'.0.seen m.0.received
    pub facts : m.0.live ≡ true → IsTrueOf m.0 m'.0.seen

  -- The outcome of a load of the count at which the seat sees every row.
  abbrev pub look_returns : Step (Option T) → Sat → ℕ → Sat → Type 0
  look_returns st m r m' = Looks m m'

  -- The count is `r`, and the view is as before without the rows that it had received. What it has seen and what it had received are prefixes of one list.
  pub record ReadsCount (m : Sat) (r : ℕ) (m' : Sat) : Type 0 where
    pub same : m' ≡ (with_seen m.0 m.0.seen, m.1)
    pub count : m.0.turn ≡ true → r ≡ length m.0.seen
    pub received : length m.0.received ≤ length m.0.seen → StartsWith m.0.seen m.0.received
    pub facts : m.0.live ≡ true → IsTrueLater m.0
    pub over : m.0.live ≡ true → IsTrueOver m.0 m.0.received

  -- The outcome of a load of the count at which the seat sees no further row.
  abbrev pub read_returns : Step (Option T) → Sat → ℕ → Sat → Type 0
  read_returns st m r m' = ReadsCount m r m'

  -- The value in the slot has one row more than the seat had seen; the row is counted now, as one of this seat.
  pub record Appends (m m' : Sat) : Type 0 where
    pub row : E
    pub slots : m'.1 ≡ m.1
    pub view_is : m'.0 ≡ with_row m.0 row
    pub whole : (x : T) → m.1 ≡ (0, Some x) ∷ [] → entries x ≡ m'.0.seen

  -- The outcome of the step that adds 1 to the count.
  abbrev pub append_returns : Step (Option T) → Sat → ℕ → Sat → Type 0
  append_returns st m r m' = Appends m m'

  -- The outcome of the step that sets the turn word to 0: the seat has the turn no more, and the slot is back in the table.
  abbrev pub release_returns : Step (Option T) → Sat → ℕ → Sat → Type 0
  release_returns st m r m' = m' ≡ (with_turn m.0 false, rest m.1)
