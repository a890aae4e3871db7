-- How a stage goes on by the steps of a storm.
use Rattle.std.proofs.Common.{◌≡◌, ℕ, zero, suc, ◌+◌, ◌-◌, ◌%◌, ◌<◌, ◌≤◌, List, [], ◌∷◌, ◌++◌, length, true, cond, get_or, refl, sym, ◌∙◌, ap, subst, arith, add-zero, Option, None, Some}
use Rattle.std.specs.Prelude.{slice_get, is_none, option_and_then}
use Rattle.std.specs.Option.{option_map}
use Rattle.sc_actor.specs.declared.rows.Row.{Row}
use Rattle.sc_actor.specs.declared.rows.Event.TheVariants.{Deliver, Tick, Drop}
use Rattle.sc_actor.specs.declared.actors.Seat.{Seat}
use Rattle.sc_actor.specs.declared.schedules.Line.{Line}
use Rattle.sc_actor.specs.declared.schedules.Line.TheVariants.{Again as AgainLine, Tick as TickLine}
use Rattle.sc_actor.specs.Mail.{mails, has_crashed, pending}
use Rattle.sc_actor.specs.System.{System, numbers_of, acts}
use Rattle.sc_actor.specs.Walk.{Task, Storms, storm_row, storm_steps, picked}
use Rattle.sc_actor.proofs.PendingLemmas.{waiting_at}
use Rattle.sc_actor.proofs.TaskLemmas.{steps_left}
use Rattle.sc_world_replay.specs.declared.stages.Stage.{Stage}
use Rattle.sc_world_replay.specs.declared.stages.Action.{Action}
use Rattle.sc_world_replay.specs.Actions.{can_act, row_made, action, delivery_action, tick_action, storm_action, picked_mail}
use Rattle.sc_world_replay.specs.Moves.{IsStageAt, Rules, with_births, Did, StageGoes}
use Rattle.sc_world_replay.specs.Checks.{Follows, Misses, Ends, Breaks}
use Rattle.sc_world_replay.proofs.ActionLemmas.{line_row-action, line_action-can, lowest_of, of_drop, map-can, own, any_system}
use Rattle.sc_world_replay.proofs.Steps.{IsStageAt-did, IsStageAt-over, numbers-at, or_false}
use Rattle.sc_world_replay.proofs.Checks.{IsStageAt-open, IsStageAt-misses, can_row}

module _ {A M O : Type 0} (s : System A M O) (rows : List (Row M O)) where
  tick_of : (o : Option ℕ) → option_and_then (λ who. cond (has_crashed rows who) None (acts s rows who Tick)) o ≡ option_and_then (row_made s rows) (option_and_then (tick_action (numbers_of s.births) rows) o)
  tick_of None = refl
  tick_of (Some who) = line_row-action s rows (TickLine who)

  -- a step of a storm makes the row of its action
  storm_row-action : (kind v : ℕ) → storm_row s rows kind v ≡ option_and_then (row_made s rows) (storm_action s.receiver (numbers_of s.births) rows kind v)
  storm_row-action zero v = of_drop s rows (picked s rows v)
  storm_row-action (suc zero) v = line_row-action s rows (AgainLine (1 + v % length (mails rows)))
  storm_row-action (suc (suc zero)) v = tick_of (slice_get (numbers_of s.births) (v % length (numbers_of s.births)))
  storm_row-action (suc (suc (suc more))) v = lowest_of s rows (picked s rows v)

module _ {A M O : Type 0} (receiver : M → ℕ) (seats : List (Seat A)) (rows : List (Row M O)) where
  tick-can : (o : Option ℕ) (d : Action O) → option_and_then (tick_action (numbers_of seats) rows) o ≡ Some d → can_act (numbers_of seats) d ≡ true
  tick-can None d e = cc
  tick-can (Some who) d e = line_action-can receiver seats rows (TickLine who) d e

  delivery-can : (place : ℕ) (o : Option ℕ) (d : Action O) → slice_get (pending receiver (numbers_of seats) rows None) place ≡ o → option_and_then (delivery_action receiver rows) o ≡ Some d → can_act (numbers_of seats) d ≡ true
  delivery-can place None d is e = cc
  delivery-can place (Some number) d is e =
      let under = waiting_at (any_system receiver seats rows) rows place number is in
      let here : action (receiver under.0) (Deliver number) ≡ d = (let some : Some (action (receiver under.0) (Deliver number)) ≡ Some d = ap (option_map (λ m. action (receiver m) (Deliver number))) (sym under.1.sent) ∙ e in cc) in
      subst (λ x. can_act (numbers_of seats) x ≡ true) here (own receiver seats rows (receiver under.0) under.1.may)

  -- the action of a step of a storm can be done
  pub storm_action-can : (kind v : ℕ) (d : Action O) → storm_action receiver (numbers_of seats) rows kind v ≡ Some d → can_act (numbers_of seats) d ≡ true
  storm_action-can zero v d e = map-can receiver seats rows 0 Drop (picked_mail receiver (numbers_of seats) rows v) d (λ mail is. refl) e
  storm_action-can (suc zero) v d e = line_action-can receiver seats rows (AgainLine (1 + v % length (mails rows))) d e
  storm_action-can (suc (suc zero)) v d e = tick-can (slice_get (numbers_of seats) (v % length (numbers_of seats))) d e
  storm_action-can (suc (suc (suc more))) v d e =
      delivery-can (v % length (pending receiver (numbers_of seats) rows None)) (picked_mail receiver (numbers_of seats) rows v) d refl e

module _ {A M O : Type 0} (r : Rules A M O) (old new : Stage A M O) (rows : List (Row M O)) (step : ℕ × ℕ) where
  -- the action of the step, by the actors as they are
  abbrev pub action_now : Option (Action O)
  action_now = storm_action r.receiver (numbers_of old.seats.items) old.rows (step.0 % 16) step.1

  row_at : (words : ℕ → ℕ → ℕ × ℕ) (births : List (Seat A)) (lines : List (Line O)) (tasks : List (Task O)) → IsStageAt (with_births r words births) lines old tasks →
      storm_row (with_births r words births) old.rows (step.0 % 16) step.1 ≡ option_and_then (row_made (with_births r words births) old.rows) action_now
  row_at words births lines tasks at =
      let s = with_births r words births in
      storm_row-action s old.rows (step.0 % 16) step.1
      ∙ ap (λ numbers. option_and_then (row_made s old.rows) (storm_action r.receiver numbers old.rows (step.0 % 16) step.1)) (sym (numbers-at r old old words births lines tasks at))

  -- a step that makes no row
  pub StageGoes-pass : action_now ≡ None → StageGoes r old (Storms step ∷ []) old []
  StageGoes-pass none = λ words births lines rest at.
      let s = with_births r words births in
      let row_is : storm_row s old.rows (step.0 % 16) step.1 ≡ None = row_at words births lines (Storms step ∷ rest) at ∙ ap (option_and_then (row_made s old.rows)) none in
      IsStageAt-over r words births lines old old (Storms step) rest at (record { rows = refl; seats = refl }) (ap is_none row_is) (sym (add-zero old.skipped)) (sym (or_false old.unsettled))

  module _ (d : Action O) (is : action_now ≡ Some d) where
    can : can_act (numbers_of old.seats.items) d ≡ true
    can = storm_action-can r.receiver old.seats.items old.rows (step.0 % 16) step.1 d is

    same_row : (words : ℕ → ℕ → ℕ × ℕ) (births : List (Seat A)) (lines : List (Line O)) (tasks : List (Task O)) → IsStageAt (with_births r words births) lines old tasks →
        storm_row (with_births r words births) old.rows (step.0 % 16) step.1 ≡ row_made (with_births r words births) old.rows d
    same_row words births lines tasks at = row_at words births lines tasks at ∙ ap (option_and_then (row_made (with_births r words births) old.rows)) is

    -- a step that makes its row
    pub StageGoes-step : Did r old new d → StageGoes r old (Storms step ∷ []) new []
    StageGoes-step did = λ words births lines rest at.
        let same = same_row words births lines (Storms step ∷ rest) at in
        IsStageAt-did r words births lines old new (Storms step) rest at d can did (λ row made_row. (ap is_none (same ∙ made_row), same ∙ made_row))

    -- rows that end before a step
    pub Ends-step : Follows old.rows rows → length rows ≤ length old.rows → Ends r old (Storms step ∷ []) old rows
    Ends-step follows le = λ words births lines rest at.
        let s = with_births r words births in
        let numbers : numbers_of old.seats.items ≡ numbers_of births = numbers-at r old old words births lines (Storms step ∷ rest) at in
        let row = can_row r old new rows s d (subst (λ ns. can_act ns d ≡ true) numbers can) in
        IsStageAt-open r words births lines old rows (Storms step) rest at (ap is_none (same_row words births lines (Storms step ∷ rest) at ∙ row.1)) follows le

    -- a row that is not that of the step
    pub Breaks-step : (row : Row M O) → Misses r old new d row → Follows old.rows rows → length old.rows < length rows → row ≡ get_or rows (length old.rows) row → Breaks r old (Storms step ∷ []) new rows
    Breaks-step row misses follows lt at_row = λ words births lines rest at.
        let same = same_row words births lines (Storms step ∷ rest) at in
        IsStageAt-misses r words births lines old rows new (Storms step) rest d row at can misses
        (λ x made_x. ap is_none (same ∙ made_x)) (λ allows. sym same ∙ allows) follows lt at_row

module _ {A M O : Type 0} (r : Rules A M O) (first old new : Stage A M O) (rows : List (Row M O)) (words : ℕ → ℕ × ℕ) (most done : ℕ) (lt : done < most)
    (goes : StageGoes r first (storm_steps words 0 most) old (storm_steps words done (most - done))) where
  -- a storm goes on by a step
  pub StageGoes-storm : StageGoes r old (Storms (words done) ∷ []) new [] → StageGoes r first (storm_steps words 0 most) new (storm_steps words (done + 1) (most - (done + 1)))
  StageGoes-storm step = λ draws births lines rest at.
      step draws births lines (storm_steps words (done + 1) (most - (done + 1)) ++ rest)
      (subst (λ ts. IsStageAt (with_births r draws births) lines old (ts ++ rest)) (steps_left words most done lt) (goes draws births lines rest at))

  -- the rows end in a step
  pub Ends-storm : Ends r old (Storms (words done) ∷ []) new rows → Ends r first (storm_steps words 0 most) new rows
  Ends-storm step = λ draws births lines rest at.
      step draws births lines (storm_steps words (done + 1) (most - (done + 1)) ++ rest)
      (subst (λ ts. IsStageAt (with_births r draws births) lines old (ts ++ rest)) (steps_left words most done lt) (goes draws births lines rest at))

  -- a step's row is another one
  pub Breaks-storm : Breaks r old (Storms (words done) ∷ []) new rows → Breaks r first (storm_steps words 0 most) new rows
  Breaks-storm step = λ draws births lines rest at.
      step draws births lines (storm_steps words (done + 1) (most - (done + 1)) ++ rest)
      (subst (λ ts. IsStageAt (with_births r draws births) lines old (ts ++ rest)) (steps_left words most done lt) (goes draws births lines rest at))

module _ {A M O : Type 0} (r : Rules A M O) (first : Stage A M O) (words : ℕ → ℕ × ℕ) (most : ℕ) where
  -- a storm begins
  pub StageGoes-begin : StageGoes r first (storm_steps words 0 most) first (storm_steps words 0 (most - 0))
  StageGoes-begin = λ draws births lines rest at.
      let all : most ≡ most - 0 = omega arith in
      subst (λ n. IsStageAt (with_births r draws births) lines first (storm_steps words 0 n ++ rest)) all at

  -- after its last step nothing of it is left
  pub StageGoes-end : (last : Stage A M O) (done : ℕ) → most ≤ done → StageGoes r first (storm_steps words 0 most) last (storm_steps words done (most - done)) → StageGoes r first (storm_steps words 0 most) last []
  StageGoes-end last done le goes = λ draws births lines rest at.
      let none : most - done ≡ 0 = omega (arith, le) in
      subst (λ n. IsStageAt (with_births r draws births) lines last (storm_steps words done n ++ rest)) none (goes draws births lines rest at)
