-- How a stage goes on.
use Rattle.std.proofs.Common.{◌≡◌, ℕ, ◌+◌, ◌<◌, ◌≤◌, List, [], ◌∷◌, ◌++◌, length, Bool, true, false, ◌||◌, not, cond, eqb, refl, sym, ◌∙◌, ap, subst, set, get_or, drop, add-zero, None, Some}
use Rattle.std.specs.Prelude.{slice_get, is_none, option_and_then}
use Rattle.std.specs.List.{flat_map}
use Rattle.std.specs.Option.{option_map}
use Rattle.std.proofs.Math.ListN.{drop_of_length-le}
use Rattle.std.proofs.lemmas.Bool.{false≢true}
use Rattle.sc_base.proofs.CommonLemmas.{cond-same}
use Rattle.sc_actor.specs.declared.rows.Row.{Row}
use Rattle.sc_actor.specs.declared.actors.Seat.{Seat}
use Rattle.sc_actor.specs.declared.rows.Event.{Event}
use Rattle.sc_actor.specs.declared.rows.Event.TheVariants.{Deliver, Tick, Go, Told, Crash, Drop, Again}
use Rattle.sc_actor.specs.declared.schedules.Line.{Line}
use Rattle.sc_actor.specs.Mail.{mails}
use Rattle.sc_actor.specs.Replay.{Table, input_of, acted, value, values}
use Rattle.sc_actor.specs.System.{System, are_apart, numbers_of, row_of, network}
use Rattle.sc_actor.specs.Walk.{Task, Once, Allows, is_over, is_quiet, skips, cuts, rest_of_task, line_row, tasks_of}
use Rattle.sc_actor.proofs.ReplayLemmas.{value-snoc}
use Rattle.sc_actor.proofs.TaskLemmas.{split}
use Rattle.sc_actor.proofs.WalkLemmas.{Stands-begin, Stands-over, Stands-row}
use Rattle.sc_world_replay.specs.declared.stages.Stage.{Stage}
use Rattle.sc_world_replay.specs.declared.stages.Action.{Action}
use Rattle.sc_world_replay.specs.Actions.{is_of_network, is_number, can_act, row_made, line_action, lowest_action}
use Rattle.sc_world_replay.specs.Stages.{Makes, place_of, seat_after}
use Rattle.sc_world_replay.specs.Moves.{IsStageAt, Rules, with_births, Did, StageGoes, many}
use Rattle.sc_world_replay.proofs.Seats.{found_at, has_place, place_of-values, values-snoc, slice_get-values, numbers_of-values}
use Rattle.sc_world_replay.proofs.ActionLemmas.{line_row-action, line_action-can, quiet_is}

-- a row of the network leaves each actor as it is
network-nothing : {M O : Type 0} (sent : List M) (event : Event O) → is_of_network event ≡ true → input_of sent event ≡ None
network-nothing sent (Drop mail) e = refl
network-nothing sent (Again mail) e = refl
network-nothing sent (Deliver mail) e = absurd (false≢true e)
network-nothing sent Tick e = absurd (false≢true e)
network-nothing sent Go e = absurd (false≢true e)
network-nothing sent (Told order) e = absurd (false≢true e)
network-nothing sent Crash e = absurd (false≢true e)

module _ {A M O : Type 0} (table : Table A M O) where
  value-network : (seat : Seat A) (rows : List (Row M O)) (event : Event O) → is_of_network event ≡ true → value table seat (rows ++ network event ∷ []) ≡ value table seat rows
  value-network seat rows event own =
      value-snoc table seat rows (network event)
      ∙ ap (λ input. cond (eqb 0 seat.who) (acted table (value table seat rows) input).0 (value table seat rows)) (network-nothing (mails rows) event own)
      ∙ cond-same (eqb 0 seat.who) (value table seat rows)

  values-network : (seats : List (Seat A)) (rows : List (Row M O)) (event : Event O) → is_of_network event ≡ true → values table seats (rows ++ network event ∷ []) ≡ values table seats rows
  values-network [] rows event own = refl
  values-network (s ∷ ss) rows event own =
      let head = value-network s rows event own in
      let rest = values-network ss rows event own in
      rw (head, rest) refl

  values-none : (births : List (Seat A)) → values {A = A} {M = M} {O = O} table births [] ≡ births
  values-none [] = refl
  values-none (s ∷ ss) = ap (λ xs. s ∷ xs) (values-none ss)

-- What an action makes is the row of the walk, and the actors after it.
pub record Made {A M O : Type 0} (s : System A M O) (rows : List (Row M O)) (seats : List (Seat A)) (action : Action O) (row : Row M O) : Type 0 where
  pub row_is : row_made s rows action ≡ Some row
  pub seats_are : seats ≡ values s.table s.births (rows ++ row ∷ [])

-- of two of which one holds and not the first, the second
pub or_is : (a b : Bool) → a ≡ false → (a || b) ≡ true → b ≡ true
or_is true b e h = absurd (false≢true (sym e))
or_is false b e h = h

module _ {A M O : Type 0} (s : System A M O) (rows : List (Row M O)) (old new : List (Seat A)) (action : Action O) (row : Row M O) (seats : old ≡ values s.table s.births rows) (apart : are_apart s.births ≡ true) (makes : Makes s.table (mails rows) old new action row) where
  made_by_network : is_of_network action.event ≡ true → Made s rows new action row
  made_by_network own =
      let did = makes.by_network own in
      record {
        row_is = rw (own, did.0) refl;
        seats_are = did.1 ∙ seats ∙ sym (values-network s.table s.births rows action.event own) ∙ ap (λ r. values s.table s.births (rows ++ r ∷ [])) (sym did.0);
      }

  made_by_actor : is_of_network action.event ≡ false → is_number (numbers_of old) action.who ≡ true → Made s rows new action row
  made_by_actor own number =
      let there = has_place old action.who number in
      let birth_placed : place_of s.births action.who ≡ Some there.0 = sym (place_of-values s.table s.births rows action.who) ∙ ap (λ xs. place_of xs action.who) (sym seats) ∙ there.1 in
      let birth = found_at s.births action.who there.0 birth_placed in
      let now : Seat A = record { who = birth.0.who; actor = value s.table birth.0 rows } in
      let now_at : slice_get old there.0 ≡ Some now = ap (λ xs. slice_get xs there.0) seats ∙ slice_get-values s.table s.births rows there.0 birth.0 birth.1.at in
      let did = makes.by_actor own there.0 now there.1 now_at in
      record {
        row_is = rw own (ap (option_map (λ seat. row_of s.table seat rows action.event)) birth.1.found ∙ ap Some (sym did.0));
        seats_are =
            did.1
            ∙ ap (λ xs. set xs there.0 (seat_after s.table now (mails rows) action.event)) seats
            ∙ sym (values-snoc s.table s.births rows (row_of s.table birth.0 rows action.event) there.0 birth.0 apart birth.1.at refl)
            ∙ ap (λ r. values s.table s.births (rows ++ r ∷ [])) (sym did.0);
      }

  made_cases : (b : Bool) → is_of_network action.event ≡ b → can_act (numbers_of old) action ≡ true → Made s rows new action row
  made_cases true own can = made_by_network own
  made_cases false own can = made_by_actor own (or_is (is_of_network action.event) (is_number (numbers_of old) action.who) own can)

  -- what an action makes is the row of the walk
  pub made : can_act (numbers_of old) action ≡ true → Made s rows new action row
  made can = made_cases (is_of_network action.event) refl can

-- two stages that differ in what they count
pub record SameJournal {A M O : Type 0} (old new : Stage A M O) : Type 0 where
  pub rows : new.rows ≡ old.rows
  pub seats : new.seats.items ≡ old.seats.items

-- An action that a task allows: the task is not over, and its row is that of the action.
abbrev pub Fits : {A M O : Type 0} → System A M O → List (Row M O) → Task O → Action O → Type 0
Fits {A} {M} {O} s rows task action = (row : Row M O) → row_made s rows action ≡ Some row → (is_over s rows task ≡ false) × Allows s rows task row

module _ {A M O : Type 0} (r : Rules A M O) (words : ℕ → ℕ → ℕ × ℕ) (births : List (Seat A)) (lines : List (Line O)) (old new : Stage A M O) (task : Task O) (rest : List (Task O)) (at : IsStageAt (with_births r words births) lines old (task ∷ rest)) where
  -- a task that makes no row any more
  pub IsStageAt-over : SameJournal old new → is_over (with_births r words births) old.rows task ≡ true → new.skipped ≡ old.skipped + skips task → new.unsettled ≡ (old.unsettled || cuts (with_births r words births) old.rows task) → IsStageAt (with_births r words births) lines new rest
  IsStageAt-over same over skips_ cut =
      let s = with_births r words births in
      let stands = Stands-over s lines old.rows task rest old.skipped old.unsettled (record { lawful = at.lawful; place = at.place }) over in
      record {
        lawful = rw same.rows stands.lawful;
        place = rw (same.rows, skips_, cut) stands.place;
        seats = rw (same.rows, same.seats) at.seats;
        apart = at.apart;
      }

  -- a row of the first task
  pub IsStageAt-did : (action : Action O) → can_act (numbers_of old.seats.items) action ≡ true → Did r old new action → Fits (with_births r words births) old.rows task action → IsStageAt (with_births r words births) lines new (rest_of_task task ++ rest)
  IsStageAt-did action can did fits =
      let s = with_births r words births in
      let m = made s old.rows old.seats.items new.seats.items action did.row at.seats at.apart did.makes can in
      let stands = Stands-row s lines old.rows task rest old.skipped old.unsettled did.row (record { lawful = at.lawful; place = at.place }) (fits did.row m.row_is).0 (fits did.row m.row_is).1 in
      record {
        lawful = rw did.rows stands.lawful;
        place = rw (did.rows, did.skipped, did.unsettled) stands.place;
        seats = rw did.rows m.seats_are;
        apart = at.apart;
      }

or_true : (b : Bool) → (b || true) ≡ true
or_true true = refl
or_true false = refl

pub or_false : (b : Bool) → (b || false) ≡ b
or_false true = refl
or_false false = refl

module _ {A M O : Type 0} (s : System A M O) (rows : List (Row M O)) where
  pub fits_line : (line : Line O) (action : Action O) → line_action s.receiver (numbers_of s.births) rows line ≡ Some action → Fits s rows (Once line) action
  fits_line line action is row made_row =
      let same : line_row s rows line ≡ Some row = line_row-action s rows line ∙ ap (option_and_then (row_made s rows)) is ∙ made_row in
      (ap is_none same, same)

module _ {A M O : Type 0} (r : Rules A M O) (old new : Stage A M O) where
  -- the actors of a stage have the numbers of the births
  pub numbers-at : (words : ℕ → ℕ → ℕ × ℕ) (births : List (Seat A)) (lines : List (Line O)) (tasks : List (Task O)) → IsStageAt (with_births r words births) lines old tasks → numbers_of old.seats.items ≡ numbers_of births
  numbers-at words births lines tasks at = ap numbers_of at.seats ∙ numbers_of-values r.table births old.rows

  module _ (line : Line O) where
    -- a line has the same action by the births and by the actors as they are
    pub line-at : (words : ℕ → ℕ → ℕ × ℕ) (births : List (Seat A)) (lines : List (Line O)) (tasks : List (Task O)) → IsStageAt (with_births r words births) lines old tasks → line_action r.receiver (numbers_of births) old.rows line ≡ line_action r.receiver (numbers_of old.seats.items) old.rows line
    line-at words births lines tasks at = ap (λ numbers. line_action r.receiver numbers old.rows line) (sym (numbers-at words births lines tasks at))

    -- a line that is skipped
    pub StageGoes-skip : line_action r.receiver (numbers_of old.seats.items) old.rows line ≡ None → SameJournal old new → new.skipped ≡ old.skipped + 1 → new.unsettled ≡ old.unsettled → StageGoes r old (Once line ∷ []) new []
    StageGoes-skip none same skips_ cut = λ words births lines rest at.
        let s = with_births r words births in
        let row_is : line_row s old.rows line ≡ None = line_row-action s old.rows line ∙ ap (option_and_then (row_made s old.rows)) (line-at words births lines (Once line ∷ rest) at ∙ none) in
        IsStageAt-over r words births lines old new (Once line) rest at same (ap is_none row_is) skips_ (cut ∙ sym (or_false old.unsettled))

    -- a line that makes its row
    pub StageGoes-line : (action : Action O) → line_action r.receiver (numbers_of old.seats.items) old.rows line ≡ Some action → Did r old new action → StageGoes r old (Once line ∷ []) new []
    StageGoes-line action is did = λ words births lines rest at.
        IsStageAt-did r words births lines old new (Once line) rest at action (line_action-can r.receiver old.seats.items old.rows line action is) did
        (fits_line (with_births r words births) old.rows line action (line-at words births lines (Once line ∷ rest) at ∙ is))

  -- the lowest delivery is the same by the births and by the actors as they are
  pub lowest-at : (words : ℕ → ℕ → ℕ × ℕ) (births : List (Seat A)) (lines : List (Line O)) (tasks : List (Task O)) → IsStageAt (with_births r words births) lines old tasks → lowest_action {O = O} r.receiver (numbers_of births) old.rows ≡ lowest_action r.receiver (numbers_of old.seats.items) old.rows
  lowest-at words births lines tasks at = ap (λ numbers. lowest_action r.receiver numbers old.rows) (sym (numbers-at words births lines tasks at))

  quiet-at : (words : ℕ → ℕ → ℕ × ℕ) (births : List (Seat A)) (lines : List (Line O)) (tasks : List (Task O)) → IsStageAt (with_births r words births) lines old tasks → is_quiet (with_births r words births) old.rows ≡ is_none (lowest_action {O = O} r.receiver (numbers_of old.seats.items) old.rows)
  quiet-at words births lines tasks at = quiet_is {O = O} r.receiver births old.rows ∙ ap is_none (lowest-at words births lines tasks at)

  many_over : (s : System A M O) (free : Bool) (left : ℕ) → (eqb left 0 || is_quiet s old.rows) ≡ true → is_over s old.rows (many free left) ≡ true
  many_over s true left e = e
  many_over s false left e = e

  many_skips : (free : Bool) (left : ℕ) → skips {O = O} (many free left) ≡ 0
  many_skips true left = refl
  many_skips false left = refl

  many_cuts : (s : System A M O) (free : Bool) (left : ℕ) → cuts s old.rows (many free left) ≡ not (is_quiet s old.rows)
  many_cuts s true left = refl
  many_cuts s false left = refl

  -- no mail is pending
  pub StageGoes-quiet : (free : Bool) (left : ℕ) → lowest_action {O = O} r.receiver (numbers_of old.seats.items) old.rows ≡ None → SameJournal old new → new.skipped ≡ old.skipped → new.unsettled ≡ old.unsettled → StageGoes r old (many free left ∷ []) new []
  StageGoes-quiet free left none same skips_ cut = λ words births lines rest at.
      let s = with_births r words births in
      let quiet : is_quiet s old.rows ≡ true = quiet-at words births lines (many free left ∷ rest) at ∙ ap is_none none in
      IsStageAt-over r words births lines old new (many free left) rest at same (many_over s free left (rw quiet (or_true (eqb left 0))))
      (skips_ ∙ sym (add-zero old.skipped) ∙ ap (λ n. old.skipped + n) (sym (many_skips free left)))
      (rw (many_cuts s free left, quiet) (cut ∙ sym (or_false old.unsettled)))

  -- no delivery is left
  pub StageGoes-close : (free : Bool) → SameJournal old new → new.skipped ≡ old.skipped → new.unsettled ≡ (old.unsettled || not (is_none (lowest_action {O = O} r.receiver (numbers_of old.seats.items) old.rows))) → StageGoes r old (many free 0 ∷ []) new []
  StageGoes-close free same skips_ cut = λ words births lines rest at.
      let s = with_births r words births in
      IsStageAt-over r words births lines old new (many free 0) rest at same (many_over s free 0 refl)
      (skips_ ∙ sym (add-zero old.skipped) ∙ ap (λ n. old.skipped + n) (sym (many_skips free 0)))
      (rw (many_cuts s free 0, quiet-at words births lines (many free 0 ∷ rest) at) cut)

module _ {A M O : Type 0} (r : Rules A M O) where
  -- two moves make one
  pub StageGoes-then : (first second third : Stage A M O) (a b c : List (Task O)) → StageGoes r first a second b → StageGoes r second b third c → StageGoes r first a third c
  StageGoes-then first second third a b c p q = λ words births lines rest at. q words births lines rest (p words births lines rest at)

  -- a move by equal counts
  pub StageGoes-count : (old new : Stage A M O) (free : Bool) (m n n' : ℕ) → n ≡ n' → StageGoes r old (many free m ∷ []) new (many free n ∷ []) → StageGoes r old (many free m ∷ []) new (many free n' ∷ [])
  StageGoes-count old new free m n n' e p = subst (λ x. StageGoes r old (many free m ∷ []) new (many free x ∷ [])) e p

module _ {A M O : Type 0} (r : Rules A M O) (words : ℕ → ℕ → ℕ × ℕ) (births : List (Seat A)) (lines : List (Line O)) where
  -- the walk begins at the births
  pub IsStageAt-begin : (stage : Stage A M O) → are_apart births ≡ true → stage.seats.items ≡ births → stage.rows ≡ [] → stage.skipped ≡ 0 → stage.unsettled ≡ false →
      IsStageAt (with_births r words births) lines stage (flat_map (tasks_of words) (drop 0 lines))
  IsStageAt-begin stage apart seats rows skips_ cut =
      let stands = Stands-begin (with_births r words births) lines in
      record {
        lawful = rw rows stands.lawful;
        place = rw (rows, skips_, cut) stands.place;
        seats = rw rows (seats ∙ sym (values-none r.table births));
        apart = apart;
      }

  -- past a line
  pub IsStageAt-line : (old new : Stage A M O) (i : ℕ) (line : Line O) → i < length lines → line ≡ get_or lines i line → IsStageAt (with_births r words births) lines old (flat_map (tasks_of words) (drop i lines)) → StageGoes r old (tasks_of words line) new [] →
      IsStageAt (with_births r words births) lines new (flat_map (tasks_of words) (drop (i + 1) lines))
  IsStageAt-line old new i line lt is at goes =
      goes words births lines (flat_map (tasks_of words) (drop (i + 1) lines)) (subst (λ ts. IsStageAt (with_births r words births) lines old ts) (split words lines i line lt is) at)

  -- past the last line
  pub IsStageAt-end : (stage : Stage A M O) (i : ℕ) → length lines ≤ i → IsStageAt (with_births r words births) lines stage (flat_map (tasks_of words) (drop i lines)) → IsStageAt (with_births r words births) lines stage []
  IsStageAt-end stage i le at = subst (λ ts. IsStageAt (with_births r words births) lines stage (flat_map (tasks_of words) ts)) (drop_of_length-le lines le) at
