-- How given rows stand with the walk.
use Rattle.std.proofs.Common.{◌≡◌, ℕ, suc, ◌+◌, ◌-◌, ◌<◌, ◌≤◌, ◌^◌, List, [], ◌∷◌, ◌++◌, length, Bool, true, false, not, cond, eqb, take, drop, drop-cons, get_or, refl, sym, ◌∙◌, ap, subst, arith, add-one, append-nil, append_assoc, length-append, Option, None, Some, ◌||◌}
use Rattle.std.specs.Prelude.{is_none, option_and_then, slice_get}
use Rattle.std.proofs.Math.ListN.{drop_of_length-le}
use Rattle.std.proofs.Math.Seq.{take-append_seam}
use Rattle.std.proofs.lemmas.Bool.{ne_eqb, false≢true}
use Rattle.std.proofs.lemmas.Option.{none-some, same_Some, slice_get-get_or, slice_get_past}
use Rattle.sc_actor.specs.declared.rows.Row.{Row}
use Rattle.sc_actor.specs.declared.actors.Seat.{Seat}
use Rattle.sc_actor.specs.declared.schedules.Line.{Line}
use Rattle.std.specs.List.{list_any}
use Rattle.sc_actor.specs.Mail.{mails, has_crashed}
use Rattle.sc_actor.specs.System.{System, acts, numbers_of, waiting, kth, network, has_started}
use Rattle.sc_actor.specs.Walk.{Task, Once, WalkPlace, Allows, IsLawful, IsNext, is_over, is_quiet, rest_of_task, line_row, first_of}
use Rattle.sc_actor.proofs.ReplayLemmas.{mails-append}
use Rattle.sc_actor.proofs.WalkLemmas.{Stands-at, Stands-allows, Stands-ended, Stands-whole, lawful-last}
use Rattle.sc_world_replay.specs.declared.stages.Stage.{Stage}
use Rattle.sc_world_replay.specs.declared.stages.Action.{Action}
use Rattle.sc_world_replay.specs.Actions.{is_of_network, is_number, can_act, row_made, line_action, lowest_action, chosen_action}
use Rattle.sc_world_replay.specs.Opens.{opens_of}
use Rattle.sc_world_replay.specs.Moves.{IsStageAt, Rules, with_births, StageGoes, many}
use Rattle.sc_world_replay.specs.Checks.{Follows, IsTaking, DidWithRow, Misses, Ends, Breaks}
use Rattle.sc_world_replay.specs.Replays.{HasReplayed, IsBadRow}
use Rattle.sc_world_replay.proofs.ActionLemmas.{acts-some, line_row-action, line_action-can, lowest-action, quiet_is, of_delivery}
use Rattle.sc_world_replay.proofs.Steps.{IsStageAt-did, made, or_is, line-at, lowest-at, numbers-at}

-- the rows split at the first that was not taken
pub split_rows : {M O : Type 0} (taken rows : List (Row M O)) (row : Row M O) → Follows taken rows → length taken < length rows → row ≡ get_or rows (length taken) row → rows ≡ (taken ++ row ∷ []) ++ drop (length taken + 1) rows
split_rows taken rows row follows lt is =
    follows
    ∙ ap (λ xs. taken ++ xs) (drop-cons rows (length taken) row lt)
    ∙ ap (λ x. taken ++ (x ∷ drop (suc (length taken)) rows)) (sym is)
    ∙ sym (append_assoc taken (row ∷ []) (drop (suc (length taken)) rows))
    ∙ ap (λ n. (taken ++ row ∷ []) ++ drop n rows) (sym (add-one (length taken)))

-- one more row was taken
pub follows_next : {M O : Type 0} (taken rows new : List (Row M O)) (row : Row M O) → Follows taken rows → length taken < length rows → row ≡ get_or rows (length taken) row → new ≡ taken ++ row ∷ [] → Follows new rows
follows_next taken rows new row follows lt is e =
    let whole = split_rows taken rows row follows lt is in
    let rest : drop (length new) rows ≡ drop (length taken + 1) rows =
    ap (λ xs. drop (length xs) rows) e ∙ ap (λ n. drop n rows) (length-append taken (row ∷ [])) in
    whole ∙ ap (λ xs. (taken ++ row ∷ []) ++ xs) (sym rest) ∙ ap (λ xs. xs ++ drop (length new) rows) (sym e)

-- all rows were taken
pub follows_all : {M O : Type 0} (taken rows : List (Row M O)) → Follows taken rows → length rows ≤ length taken → rows ≡ taken
follows_all taken rows follows le = follows ∙ ap (λ xs. taken ++ xs) (drop_of_length-le rows le) ∙ append-nil taken

-- there is room for the next row
pub room_mails : {M O : Type 0} (taken rows : List (Row M O)) (row : Row M O) → Follows taken rows → length taken < length rows → row ≡ get_or rows (length taken) row → length (mails rows) < 2 ^ 31 → length (mails taken) + length row.sent < 2 ^ 31
room_mails taken rows row follows lt is few =
    let whole = split_rows taken rows row follows lt is in
    let rest = drop (length taken + 1) rows in
    let all : length (mails rows) ≡ length (mails (taken ++ row ∷ [])) + length (mails rest) = ap (λ xs. length (mails xs)) whole ∙ ap length (mails-append (taken ++ row ∷ []) rest) ∙ length-append (mails (taken ++ row ∷ [])) (mails rest) in
    let first : length (mails (taken ++ row ∷ [])) ≡ length (mails taken) + length (mails (row ∷ [])) = ap length (mails-append taken (row ∷ [])) ∙ length-append (mails taken) (mails (row ∷ [])) in
    let last : length (mails (row ∷ [])) ≡ length row.sent = ap length (append-nil row.sent) in
    omega (arith, all, first, last, few)

-- the next row is the first that is not lawful, where it may not come next
bad_next : {A M O : Type 0} (s : System A M O) (lines : List (Line O)) (taken rows : List (Row M O)) (row : Row M O) → Follows taken rows → length taken < length rows → row ≡ get_or rows (length taken) row → IsLawful s lines taken → (IsNext s lines taken row → ⊥) →
    IsBadRow s lines rows (length taken + 1)
bad_next s lines taken rows row follows lt is lawful never =
    let whole = split_rows taken rows row follows lt is in
    let before : take (length taken) rows ≡ taken = ap (take (length taken)) follows ∙ take-append_seam taken (drop (length taken) rows) in
    let one_more : length (taken ++ row ∷ []) ≡ length taken + 1 = length-append taken (row ∷ []) in
    let with : take (length taken + 1) rows ≡ taken ++ row ∷ [] =
    ap (λ n. take n rows) (sym one_more) ∙ ap (take (length (taken ++ row ∷ []))) whole ∙ take-append_seam (taken ++ row ∷ []) (drop (length taken + 1) rows) in
    let places : length taken ≡ length taken + 1 - 1 = omega arith in
    record {
      first = omega arith;
      within = omega (arith, lt);
      before = subst (λ n. IsLawful s lines (take n rows)) places (subst (IsLawful s lines) (sym before) lawful);
      not_with = λ more. never (lawful-last s lines taken row (subst (IsLawful s lines) with more));
    }

module _ {A M O : Type 0} (r : Rules A M O) (words : ℕ → ℕ → ℕ × ℕ) (births : List (Seat A)) (lines : List (Line O)) (old : Stage A M O) (rows : List (Row M O)) where
  -- the rows end before the first task makes its row
  pub IsStageAt-open : (task : Task O) (rest : List (Task O)) → IsStageAt (with_births r words births) lines old (task ∷ rest) → is_over (with_births r words births) old.rows task ≡ false → Follows old.rows rows → length rows ≤ length old.rows → (old.rows ≡ rows) × HasReplayed (with_births r words births) lines rows old.unsettled old.skipped old.seats.items
  IsStageAt-open task rest at opens follows le =
      let s = with_births r words births in
      let here = Stands-at s lines old.rows task rest old.skipped old.unsettled (record { lawful = at.lawful; place = at.place }) opens in
      let all = sym (follows_all old.rows rows follows le) in (
        all,
        subst (λ xs. HasReplayed s lines xs old.unsettled old.skipped old.seats.items) all (record {
          lawful = at.lawful;
          cut_is = ap (λ (p : WalkPlace M O). p.unsettled) (sym here);
          skips_are = ap (λ (p : WalkPlace M O). p.skipped) (sym here);
          actors = at.seats;
        }),
      )

  -- they end with the last task
  pub IsStageAt-all : IsStageAt (with_births r words births) lines old [] → old.rows ≡ rows → HasReplayed (with_births r words births) lines rows old.unsettled old.skipped old.seats.items
  IsStageAt-all at all =
      let s = with_births r words births in
      let whole = Stands-whole s lines old.rows old.skipped old.unsettled (record { lawful = at.lawful; place = at.place }) in
      subst (λ xs. HasReplayed s lines xs old.unsettled old.skipped old.seats.items) all (record { lawful = at.lawful; cut_is = sym whole.2; skips_are = sym whole.1; actors = at.seats })

  -- a row that the first task does not allow
  IsStageAt-wrong : (task : Task O) (rest : List (Task O)) (row : Row M O) → IsStageAt (with_births r words births) lines old (task ∷ rest) → is_over (with_births r words births) old.rows task ≡ false → Follows old.rows rows → length old.rows < length rows → row ≡ get_or rows (length old.rows) row →
      (Allows (with_births r words births) old.rows task row → ⊥) → IsBadRow (with_births r words births) lines rows (length old.rows + 1)
  IsStageAt-wrong task rest row at opens follows lt is never =
      let s = with_births r words births in
      bad_next s lines old.rows rows row follows lt is at.lawful (λ next. never (Stands-allows s lines old.rows task rest old.skipped old.unsettled row (record { lawful = at.lawful; place = at.place }) opens next))

  -- rows after the end
  pub IsStageAt-late : (row : Row M O) → IsStageAt (with_births r words births) lines old [] → Follows old.rows rows → length old.rows < length rows → row ≡ get_or rows (length old.rows) row → IsBadRow (with_births r words births) lines rows (length old.rows + 1)
  IsStageAt-late row at follows lt is =
      let s = with_births r words births in
      bad_next s lines old.rows rows row follows lt is at.lawful (λ next. Stands-ended s lines old.rows old.skipped old.unsettled row (record { lawful = at.lawful; place = at.place }) next)

  -- the row of the task's action is another one
  pub IsStageAt-misses : (new : Stage A M O) (task : Task O) (rest : List (Task O)) (d : Action O) (row : Row M O) → IsStageAt (with_births r words births) lines old (task ∷ rest) → can_act (numbers_of old.seats.items) d ≡ true → Misses r old new d row →
      ((x : Row M O) → row_made (with_births r words births) old.rows d ≡ Some x → is_over (with_births r words births) old.rows task ≡ false) →
      (Allows (with_births r words births) old.rows task row → row_made (with_births r words births) old.rows d ≡ Some row) →
      Follows old.rows rows → length old.rows < length rows → row ≡ get_or rows (length old.rows) row → IsBadRow (with_births r words births) lines rows (length new.rows + 1)
  IsStageAt-misses new task rest d row at can misses opens decides follows lt is =
      let s = with_births r words births in
      let m = made s old.rows old.seats.items misses.seats d misses.other at.seats at.apart misses.makes can in
      subst (λ xs. IsBadRow s lines rows (length xs + 1)) (sym misses.rows)
      (IsStageAt-wrong task rest row at (opens misses.other m.row_is) follows lt is (λ allows. misses.differs (same_Some misses.other row (sym m.row_is ∙ decides allows))))

module _ {A M O : Type 0} (s : System A M O) (rows : List (Row M O)) where
  not_over : (free : Bool) (left : ℕ) → 0 < left → is_quiet s rows ≡ false → is_over s rows (many free left) ≡ false
  not_over free left more loud = by free (rw (ne_eqb left 0 (λ e. absurd (omega arith)), loud) refl)
    where
      by : (free : Bool) → (eqb left 0 || is_quiet s rows) ≡ false → is_over s rows (many free left) ≡ false
      by true e = e
      by false e = e

  -- what a line of many allows is the chosen delivery
  pub chosen_decides : (free : Bool) (left : ℕ) (row : Row M O) → Allows s rows (many free left) row → option_and_then (row_made s rows) (chosen_action s.receiver (numbers_of s.births) rows free row.who) ≡ Some row
  chosen_decides true left row e = sym (of_delivery s rows row.who (kth (waiting s rows (Some row.who)) 1)) ∙ e
  chosen_decides false left row e = sym (lowest-action s rows) ∙ e

  chosen_allows : (free : Bool) (left who : ℕ) (row : Row M O) → row.who ≡ who → option_and_then (row_made s rows) (chosen_action s.receiver (numbers_of s.births) rows free who) ≡ Some row → Allows s rows (many free left) row
  chosen_allows true left who row e is = ap (first_of s rows) e ∙ of_delivery s rows who (kth (waiting s rows (Some who)) 1) ∙ is
  chosen_allows false left who row e is = lowest-action s rows ∙ is

module _ {A M O : Type 0} (r : Rules A M O) (old new : Stage A M O) (rows : List (Row M O)) where
  chosen-at : (words : ℕ → ℕ → ℕ × ℕ) (births : List (Seat A)) (lines : List (Line O)) (tasks : List (Task O)) (free : Bool) (who : ℕ) → IsStageAt (with_births r words births) lines old tasks → chosen_action {O = O} r.receiver (numbers_of births) old.rows free who ≡ chosen_action r.receiver (numbers_of old.seats.items) old.rows free who
  chosen-at words births lines tasks free who at = ap (λ numbers. chosen_action r.receiver numbers old.rows free who) (sym (numbers-at r old old words births lines tasks at))

  loud-at : (words : ℕ → ℕ → ℕ × ℕ) (births : List (Seat A)) (lines : List (Line O)) (tasks : List (Task O)) → IsStageAt (with_births r words births) lines old tasks → is_none (lowest_action {O = O} r.receiver (numbers_of old.seats.items) old.rows) ≡ false → is_quiet (with_births r words births) old.rows ≡ false
  loud-at words births lines tasks at loud = quiet_is {O = O} r.receiver births old.rows ∙ ap is_none (lowest-at r old old words births lines tasks at) ∙ loud

  -- the row of an action that can be done
  pub can_row : (s : System A M O) (d : Action O) → can_act (numbers_of s.births) d ≡ true → (row : Row M O) × (row_made s old.rows d ≡ Some row)
  can_row s d can = by (is_of_network d.event) refl
    where
      by : (b : Bool) → is_of_network d.event ≡ b → (row : Row M O) × (row_made s old.rows d ≡ Some row)
      by true own = (network d.event, ap (λ b. cond b (Some (network d.event)) (acts s old.rows d.who d.event)) own)
      by false own =
          let there = acts-some s old.rows d.who d.event (or_is (is_of_network d.event) (is_number (numbers_of s.births) d.who) own can) in
          (there.0, ap (λ b. cond b (Some (network d.event)) (acts s old.rows d.who d.event)) own ∙ there.1)

  -- rows that end before a line of one row
  pub Ends-line : (line : Line O) (d : Action O) → line_action r.receiver (numbers_of old.seats.items) old.rows line ≡ Some d → Follows old.rows rows → length rows ≤ length old.rows → Ends r old (Once line ∷ []) old rows
  Ends-line line d is follows le = λ words births lines rest at.
      let s = with_births r words births in
      let here : line_action r.receiver (numbers_of births) old.rows line ≡ Some d = line-at r old old line words births lines (Once line ∷ rest) at ∙ is in
      let row = can_row s d (line_action-can r.receiver births old.rows line d here) in
      let made_row : line_row s old.rows line ≡ Some row.0 = line_row-action s old.rows line ∙ ap (option_and_then (row_made s old.rows)) here ∙ row.1 in
      IsStageAt-open r words births lines old rows (Once line) rest at (ap is_none made_row) follows le

  -- rows that end within a line of many
  pub Ends-many : (free : Bool) (left : ℕ) → 0 < left → is_none (lowest_action {O = O} r.receiver (numbers_of old.seats.items) old.rows) ≡ false → Follows old.rows rows → length rows ≤ length old.rows → Ends r old (many free left ∷ []) old rows
  Ends-many free left more loud follows le = λ words births lines rest at.
      let s = with_births r words births in
      IsStageAt-open r words births lines old rows (many free left) rest at (not_over s old.rows free left more (loud-at words births lines (many free left ∷ rest) at loud)) follows le

  -- a line of one row
  pub Breaks-line : (line : Line O) (d : Action O) (row : Row M O) → line_action r.receiver (numbers_of old.seats.items) old.rows line ≡ Some d → Misses r old new d row → Follows old.rows rows → length old.rows < length rows → row ≡ get_or rows (length old.rows) row → Breaks r old (Once line ∷ []) new rows
  Breaks-line line d row is misses follows lt at_row = λ words births lines rest at.
      let s = with_births r words births in
      let here : line_action r.receiver (numbers_of births) old.rows line ≡ Some d = line-at r old old line words births lines (Once line ∷ rest) at ∙ is in
      let same : line_row s old.rows line ≡ row_made s old.rows d = line_row-action s old.rows line ∙ ap (option_and_then (row_made s old.rows)) here in
      IsStageAt-misses r words births lines old rows new (Once line) rest d row at (line_action-can r.receiver old.seats.items old.rows line d is) misses
      (λ x made_x. ap is_none (same ∙ made_x)) (λ allows. sym same ∙ allows) follows lt at_row

  -- a line of many deliveries
  pub Breaks-many : (free : Bool) (left : ℕ) (d : Action O) (row : Row M O) → chosen_action r.receiver (numbers_of old.seats.items) old.rows free row.who ≡ Some d → can_act (numbers_of old.seats.items) d ≡ true → 0 < left → is_none (lowest_action {O = O} r.receiver (numbers_of old.seats.items) old.rows) ≡ false → Misses r old new d row → Follows old.rows rows → length old.rows < length rows → row ≡ get_or rows (length old.rows) row → Breaks r old (many free left ∷ []) new rows
  Breaks-many free left d row is can more loud misses follows lt at_row = λ words births lines rest at.
      let s = with_births r words births in
      IsStageAt-misses r words births lines old rows new (many free left) rest d row at can misses
      (λ x made_x. not_over s old.rows free left more (loud-at words births lines (many free left ∷ rest) at loud))
      (λ allows. sym (ap (option_and_then (row_made s old.rows)) (chosen-at words births lines (many free left ∷ rest) free row.who at ∙ is)) ∙ chosen_decides s old.rows free left row allows) follows lt at_row

  -- a row where the line of many has none to make
  pub Breaks-none : (free : Bool) (left : ℕ) (row : Row M O) → chosen_action {O = O} r.receiver (numbers_of old.seats.items) old.rows free row.who ≡ None → 0 < left → is_none (lowest_action {O = O} r.receiver (numbers_of old.seats.items) old.rows) ≡ false → Follows old.rows rows → length old.rows < length rows → row ≡ get_or rows (length old.rows) row → Breaks r old (many free left ∷ []) old rows
  Breaks-none free left row none more loud follows lt at_row = λ words births lines rest at.
      let s = with_births r words births in
      IsStageAt-wrong r words births lines old rows (many free left) rest row at (not_over s old.rows free left more (loud-at words births lines (many free left ∷ rest) at loud)) follows lt at_row
      (λ allows. let h : None ≡ Some row = sym (ap (option_and_then (row_made s old.rows)) (chosen-at words births lines (many free left ∷ rest) free row.who at ∙ none)) ∙ chosen_decides s old.rows free left row allows in no_row row h)
    where
      no_row : (row : Row M O) → None ≡ Some row → ⊥
      no_row row e = cc

  -- the chosen delivery was made
  pub StageGoes-chosen : (free : Bool) (left : ℕ) (d : Action O) (row : Row M O) → chosen_action r.receiver (numbers_of old.seats.items) old.rows free row.who ≡ Some d → can_act (numbers_of old.seats.items) d ≡ true → 0 < left → is_none (lowest_action {O = O} r.receiver (numbers_of old.seats.items) old.rows) ≡ false → DidWithRow r old new d row → StageGoes r old (many free left ∷ []) new (many free (left - 1) ∷ [])
  StageGoes-chosen free left d row is can more loud took = λ words births lines rest at.
      let s = with_births r words births in
      let m = made s old.rows old.seats.items new.seats.items d took.did.row at.seats at.apart took.did.makes can in
      let chosen : option_and_then (row_made s old.rows) (chosen_action r.receiver (numbers_of births) old.rows free row.who) ≡ row_made s old.rows d = ap (option_and_then (row_made s old.rows)) (chosen-at words births lines (many free left ∷ rest) free row.who at ∙ is) in
      subst (λ ts. IsStageAt s lines new (ts ++ rest)) (rest_many free)
      (IsStageAt-did r words births lines old new (many free left) rest at d can took.did
      (λ x made_x. (
        not_over s old.rows free left more (loud-at words births lines (many free left ∷ rest) at loud),
        chosen_allows s old.rows free left row.who x (ap (λ y. y.who) (same_Some x took.did.row (sym made_x ∙ m.row_is) ∙ took.same)) (chosen ∙ made_x),
      )))
    where
      rest_many : (free : Bool) → rest_of_task {O = O} (many free left) ≡ many free (left - 1) ∷ []
      rest_many true = refl
      rest_many false = refl

module _ {A M O : Type 0} (r : Rules A M O) where
  -- what ends after a move ends before it
  pub Ends-then : (first second third : Stage A M O) (a b : List (Task O)) (rows : List (Row M O)) → StageGoes r first a second b → Ends r second b third rows → Ends r first a third rows
  Ends-then first second third a b rows p q = λ words births lines rest at. q words births lines rest (p words births lines rest at)

  -- what breaks after a move breaks before it
  pub Breaks-then : (first second third : Stage A M O) (a b : List (Task O)) (rows : List (Row M O)) → StageGoes r first a second b → Breaks r second b third rows → Breaks r first a third rows
  Breaks-then first second third a b rows p q = λ words births lines rest at. q words births lines rest (p words births lines rest at)

-- the stage after one more row
pub taking_next : {A M O : Type 0} (r : Rules A M O) (old new : Stage A M O) (d : Action O) (row : Row M O) (rows : List (Row M O)) → IsTaking r.receiver old rows → length old.rows < length rows → row ≡ get_or rows (length old.rows) row → DidWithRow r old new d row → IsTaking r.receiver new rows
taking_next r old new d row rows taking lt is took =
    record {
      kept = took.kept;
      follows = follows_next old.rows rows new.rows row taking.follows lt is (took.did.rows ∙ ap (λ x. old.rows ++ x ∷ []) took.same);
      few_rows_in_all = taking.few_rows_in_all;
      few_mails_in_all = taking.few_mails_in_all;
    }

-- two stages that differ in what they count
pub record SameKept {A M O : Type 0} (old new : Stage A M O) : Type 0 where
  pub rows : new.rows ≡ old.rows
  pub seats : new.seats.items ≡ old.seats.items
  pub mails : new.mails.items ≡ old.mails.items
  pub pending : new.pending.items ≡ old.pending.items
  pub started : new.started.items ≡ old.started.items
  pub crashed : new.crashed.items ≡ old.crashed.items

pub taking_same : {A M O : Type 0} (receiver : M → ℕ) (old new : Stage A M O) (rows : List (Row M O)) → SameKept old new → IsTaking receiver old rows → IsTaking receiver new rows
taking_same receiver old new rows same taking =
    record {
      kept = record {
        all_mails = same.mails ∙ taking.kept.all_mails ∙ ap mails (sym same.rows);
        all_pending =
            same.pending
            ∙ taking.kept.all_pending
            ∙ ap (λ seats. opens_of receiver (numbers_of seats) old.rows) (sym same.seats)
            ∙ ap (opens_of receiver (numbers_of new.seats.items)) (sym same.rows);
        all_started = λ who. ap (list_any (λ number. eqb number who)) same.started ∙ taking.kept.all_started who ∙ ap (λ xs. has_started xs who) (sym same.rows);
        all_crashed = λ who. ap (list_any (λ number. eqb number who)) same.crashed ∙ taking.kept.all_crashed who ∙ ap (λ xs. has_crashed xs who) (sym same.rows);
        few_rows = subst (λ xs. length xs < 2 ^ 31) (sym same.rows) taking.kept.few_rows;
        few_mails = subst (λ xs. length (mails xs) < 2 ^ 31) (sym same.rows) taking.kept.few_mails;
      };
      follows = subst (λ xs. Follows xs rows) (sym same.rows) taking.follows;
      few_rows_in_all = taking.few_rows_in_all;
      few_mails_in_all = taking.few_mails_in_all;
    }

-- an option that is none
pub none_if : {X : Type 0} (o : Option X) → is_none o ≡ true → o ≡ None
none_if None e = refl
none_if (Some x) e = absurd (false≢true e)

-- the row at the number of those that were taken
pub record IsNextRow {M O : Type 0} (taken rows : List (Row M O)) (row : Row M O) : Type 0 where
  pub more : length taken < length rows
  pub row_is : row ≡ get_or rows (length taken) row

-- the row at the end of those taken is the next
pub next_row : {M O : Type 0} (taken rows : List (Row M O)) (row : Row M O) (at : ℕ) → at ≡ length taken → at < length rows → row ≡ get_or rows at row → IsNextRow taken rows row
next_row taken rows row at e lt is = record { more = subst (λ n. n < length rows) e lt; row_is = subst (λ n. row ≡ get_or rows n row) e is }

-- the rows end where all are taken
pub no_row_next : {M O : Type 0} (taken rows : List (Row M O)) (row : Row M O) → length taken ≡ length rows → slice_get rows (length taken) ≡ Some row → ⊥
no_row_next taken rows row ended is = none-some row (sym (slice_get_past rows (length taken) (omega (arith, ended))) ∙ is)

-- a line of many does nothing where it can make no delivery at the next row
pub chooses_none : {A M O : Type 0} (receiver : M → ℕ) (old stage : Stage A M O) (rows : List (Row M O)) (free : Bool) (row : Row M O) (action : Action O)
    → ((next : Row M O) → slice_get rows (length old.rows) ≡ Some next → chosen_action receiver (numbers_of old.seats.items) old.rows free next.who ≡ None) → stage ≡ old
    → IsNextRow stage.rows rows row → Some action ≡ chosen_action receiver (numbers_of stage.seats.items) stage.rows free row.who → ⊥
chooses_none {A} {M} {O} receiver old stage rows free row action never same next chosen =
    let here : slice_get rows (length old.rows) ≡ Some row =
    ap (λ (s : Stage A M O). slice_get rows (length s.rows)) (sym same) ∙ slice_get-get_or rows (length stage.rows) row next.more ∙ ap Some (sym next.row_is) in
    none-some action (sym (chosen ∙ ap (λ (s : Stage A M O). chosen_action receiver (numbers_of s.seats.items) s.rows free row.who) same ∙ never row here))

-- a stage begins with no row taken
pub taking_begin : {A M O : Type 0} (receiver : M → ℕ) (stage : Stage A M O) (rows : List (Row M O)) → stage.rows ≡ [] → stage.mails.items ≡ [] → stage.pending.items ≡ [] → stage.started.items ≡ [] → stage.crashed.items ≡ [] → length rows < 2 ^ 31 → length (mails rows) < 2 ^ 31 → IsTaking receiver stage rows
taking_begin receiver stage rows none no_mails no_copies no_gone no_crashed few_rows few_mails =
    record {
      kept = record {
        all_mails = rw none no_mails;
        all_pending = rw none no_copies;
        all_started = λ who. rw (none, no_gone) refl;
        all_crashed = λ who. rw (none, no_crashed) refl;
        few_rows = rw none (omega arith);
        few_mails = rw none (omega arith);
      };
      follows = rw none refl;
      few_rows_in_all = few_rows;
      few_mails_in_all = few_mails;
    }

-- a line of many that is cut off is noted
pub loud_off : (cut quiet : Bool) → quiet ≡ false → true ≡ (cut || not quiet)
loud_off true false e = refl
loud_off false false e = refl
loud_off cut true e = absurd (false≢true (sym e))

-- a line of many that ends quietly changes no note
pub quiet_off : (cut quiet : Bool) → quiet ≡ true → cut ≡ (cut || not quiet)
quiet_off true true e = refl
quiet_off false true e = refl
quiet_off cut false e = absurd (false≢true e)
