-- A journal of spaced lines in which no line was cut off comes in time: each order begins where nothing is under way.
use Rattle.std.proofs.Common.{◌≡◌, ℕ, ◌+◌, ◌-◌, List, [], ◌∷◌, ◌++◌, Bool, true, false, true≢false, ◌||◌, not, refl, sym, ◌∙◌, ap, subst, arith}
use Rattle.std.specs.List.{flat_map}
use Rattle.std.proofs.lemmas.Bool.{cond_both}
use Rattle.std.proofs.lemmas.List.Sums.{fold-append}
use Rattle.sc_base.specs.Definitions.{Each}
use Rattle.sc_actor.specs.declared.rows.Row.{Row}
use Rattle.sc_actor.specs.declared.rows.Event.{Event}
use Rattle.sc_actor.specs.declared.rows.Event.TheVariants.{Go, Told}
use Rattle.sc_actor.specs.declared.schedules.Line.{Line}
use Rattle.sc_actor.specs.declared.schedules.Line.TheVariants.{Go as GoLine, Deliver as DeliverLine, Drop as DropLine, Again as AgainLine, Tick as TickLine, Crash as CrashLine, Told as ToldLine, Settle, Free, Storm}
use Rattle.sc_actor.specs.Definitions.{has_crashed, System, acts, has_started, Task, Once, Settles, Frees, Storms, WalkPlace, MayAdd, IsLawful, onward, is_over, is_quiet, after_row, place_after, rest_of_all, tasks_of, unsettled}
use Rattle.sc_actor.proofs.Lemmas.{lawful-last, place_after-rows, unless-some}
use Rattle.sc_live_orderly.specs.OrderlyDefinitions.{is_told, HasRoom, Said, Nothing, Goes, AnOrder, AreSpaced, AreInTime}
use Rattle.sc_live_orderly.proofs.RowsOfSchedules.{allows_calm, by_rows}
use Rattle.sc_live_orderly.proofs.QuietLineEnds.{acts-event, delivery-event, free-event, deliver-event}
use Rattle.sc_live_orderly.proofs.RowsInTime.{in_time_row, timely_by, clear_row, delivery_in_time, none_in_time}
use Rattle.sc_live_orderly.proofs.SpacedTasks.{AreTasksSpaced, lines_spaced, Knows, Stands, may_go, may_order, knows_delivery}
use Rattle.sc_live_orderly.proofs.UncutPrefixes.{onward_cut, uncut_before}

-- each line has room for no delivery
any_room : {O : Type 0} (lines : List (Line O)) → Each (HasRoom 0) lines
any_room [] = tt
any_room (Settle most ∷ lines) = (omega arith, any_room lines)
any_room (Free most workers ∷ lines) = (omega arith, any_room lines)
any_room (GoLine who ∷ lines) = (tt, any_room lines)
any_room (DeliverLine who k ∷ lines) = (tt, any_room lines)
any_room (DropLine who k ∷ lines) = (tt, any_room lines)
any_room (AgainLine mail ∷ lines) = (tt, any_room lines)
any_room (TickLine who ∷ lines) = (tt, any_room lines)
any_room (CrashLine who ∷ lines) = (tt, any_room lines)
any_room (ToldLine who order ∷ lines) = (tt, any_room lines)
any_room (Storm number most ∷ lines) = (tt, any_room lines)

module _ {A M O : Type 0} (s : System A M O) where
  -- where no line was cut off, the walk stands at tasks that are spaced
  abbrev IsFine : List (Row M O) → WalkPlace M O → Type 0
  IsFine rows place = place.unsettled ≡ false → Stands s 0 0 rows place.tasks

  -- past a line of many deliveries it is quiet, or the line was cut off
  past_many : (rows : List (Row M O)) (tasks : List (Task O)) (skipped : ℕ) → (is_quiet s rows ≡ true → IsFine rows (onward s rows tasks skipped false)) → IsFine rows (onward s rows tasks skipped (false || not (is_quiet s rows)))
  past_many rows tasks skipped more = by (is_quiet s rows) refl
    where
      by : (b : Bool) → is_quiet s rows ≡ b → IsFine rows (onward s rows tasks skipped (false || not b))
      by true quiet = more quiet
      by false some = λ none. absurd (true≢false (onward_cut s rows tasks skipped true none))

  passes : (rows : List (Row M O)) (said : Said) (tasks : List (Task O)) (skipped : ℕ) → AreTasksSpaced 0 said tasks → Knows s said rows → IsFine rows (onward s rows tasks skipped false)
  passes rows said [] skipped apart known = λ none. tt
  passes rows said (Once (GoLine who) ∷ tasks) skipped apart known =
      let clear = may_go s said rows apart.0 known in
      cond_both (is_over s rows (Once (GoLine who))) _ _ (IsFine rows) (λ _. passes rows Goes tasks (skipped + 1) apart.1 clear) (λ _ none. (clear, apart.1))
  passes rows said (Once (ToldLine who order) ∷ tasks) skipped apart known =
      let quiet = may_order s said rows apart.0 known in
      cond_both (is_over s rows (Once (ToldLine who order))) _ _ (IsFine rows) (λ _. passes rows AnOrder tasks (skipped + 1) apart.1 tt) (λ _ none. (quiet, apart.1))
  passes rows said (Once (DeliverLine who k) ∷ tasks) skipped apart known =
      cond_both (is_over s rows (Once (DeliverLine who k))) _ _ (IsFine rows) (λ _. passes rows said tasks (skipped + 1) apart.1 known) (λ _ none. (apart.0, (said, (known, apart.1))))
  passes rows said (Settles left ∷ tasks) skipped apart known =
      cond_both (is_over s rows (Settles left)) _ _ (IsFine rows) (λ _. past_many rows tasks (skipped + 0) (λ quiet. passes rows Nothing tasks (skipped + 0) apart.1 quiet)) (λ _ none. apart)
  passes rows said (Frees left ∷ tasks) skipped apart known =
      cond_both (is_over s rows (Frees left)) _ _ (IsFine rows) (λ _. past_many rows tasks (skipped + 0) (λ quiet. passes rows Nothing tasks (skipped + 0) apart.1 quiet)) (λ _ none. apart)
  passes rows said (Once (Settle most) ∷ tasks) skipped apart known = absurd apart
  passes rows said (Once (Free most workers) ∷ tasks) skipped apart known = absurd apart
  passes rows said (Once (DropLine who k) ∷ tasks) skipped apart known = absurd apart
  passes rows said (Once (AgainLine mail) ∷ tasks) skipped apart known = absurd apart
  passes rows said (Once (TickLine who) ∷ tasks) skipped apart known = absurd apart
  passes rows said (Once (CrashLine who) ∷ tasks) skipped apart known = absurd apart
  passes rows said (Once (Storm number most) ∷ tasks) skipped apart known = absurd apart
  passes rows said (Storms words ∷ tasks) skipped apart known = absurd apart

  -- ---- one more row

  -- one more row in time, after which the walk stands at the tasks that are left
  record IsStep (rows : List (Row M O)) (row : Row M O) (tasks : List (Task O)) (skipped : ℕ) : Type 0 where
    timely : AreInTime s (rows ++ row ∷ [])
    fine : IsFine (rows ++ row ∷ []) (onward s (rows ++ row ∷ []) (rest_of_all tasks) skipped false)

  module _ (rows : List (Row M O)) (row : Row M O) (timely : AreInTime s rows) where
    step : (tasks : List (Task O)) (skipped : ℕ) → MayAdd s rows tasks row → Stands s 0 0 rows tasks → IsStep rows row tasks skipped
    step [] skipped may stands = absurd may
    step (Once (GoLine who) ∷ tasks) skipped may stands =
        let go : Event O = Go in
        let fact : go ≡ row.event = acts-event s rows who go row (unless-some (has_started rows who) (acts s rows who Go) row may).1 in
        let untold : is_told row.event ≡ false = subst (λ (e : Event O). is_told e ≡ false) fact refl in
        record {
          timely = timely_by s rows row timely Go fact (allows_calm s rows (Once (GoLine who)) row tt may) stands.0;
          fine = passes (rows ++ row ∷ []) Goes tasks skipped stands.1 (clear_row s rows row untold stands.0);
        }
    step (Once (ToldLine who order) ∷ tasks) skipped may stands =
        let fact : Told order ≡ row.event = acts-event s rows who (Told order) row (unless-some (has_crashed rows who) (acts s rows who (Told order)) row may).1 in
        record {
          timely = timely_by s rows row timely (Told order) fact (allows_calm s rows (Once (ToldLine who order)) row tt may) stands.0;
          fine = passes (rows ++ row ∷ []) AnOrder tasks skipped stands.1 tt;
        }
    step (Once (DeliverLine who k) ∷ tasks) skipped may stands =
        let d = deliver-event s rows who k row may in
        record {
          timely = in_time_row s rows row timely (allows_calm s rows (Once (DeliverLine who k)) row stands.0 may) (delivery_in_time s rows row.event d);
          fine = passes (rows ++ row ∷ []) stands.1.0 tasks skipped stands.1.1.1 (knows_delivery s rows row who k stands.0 may stands.1.0 d stands.1.1.0);
        }
    step (Settles left ∷ tasks) skipped may stands =
        let d = delivery-event s rows left row may in
        record {
          timely = in_time_row s rows row timely (allows_calm s rows (Settles left) row tt may) (delivery_in_time s rows row.event d);
          fine = passes (rows ++ row ∷ []) AnOrder (Settles (left - 1) ∷ tasks) skipped (omega arith, stands.1) tt;
        }
    step (Frees left ∷ tasks) skipped may stands =
        let d = free-event s rows left row may in
        record {
          timely = in_time_row s rows row timely (allows_calm s rows (Frees left) row tt may) (delivery_in_time s rows row.event d);
          fine = passes (rows ++ row ∷ []) AnOrder (Frees (left - 1) ∷ tasks) skipped (omega arith, stands.1) tt;
        }
    step (Once (Settle most) ∷ tasks) skipped may stands = absurd stands
    step (Once (Free most workers) ∷ tasks) skipped may stands = absurd stands
    step (Once (DropLine who k) ∷ tasks) skipped may stands = absurd stands
    step (Once (AgainLine mail) ∷ tasks) skipped may stands = absurd stands
    step (Once (TickLine who) ∷ tasks) skipped may stands = absurd stands
    step (Once (CrashLine who) ∷ tasks) skipped may stands = absurd stands
    step (Once (Storm number most) ∷ tasks) skipped may stands = absurd stands
    step (Storms words ∷ tasks) skipped may stands = absurd stands

  -- ---- lawful journals

  module _ (lines : List (Line O)) where
    -- where no line was cut off, the rows are in time and the walk stands so
    abbrev Stage : List (Row M O) → Type 0
    Stage rows = unsettled s lines rows ≡ false → AreInTime s rows × Stands s 0 0 rows (place_after s lines rows).tasks

    settled_row : (rows : List (Row M O)) (row : Row M O) → IsLawful s lines (rows ++ row ∷ []) → Stage rows → Stage (rows ++ row ∷ [])
    settled_row rows row lawful now none =
        let place = place_after s lines rows in
        let uncut : place.unsettled ≡ false = uncut_before s lines rows (row ∷ []) none in
        let stage = now uncut in
        let next = step rows row stage.0 place.tasks place.skipped (lawful-last s lines rows row lawful) stage.1 in
        let whole : place_after s lines (rows ++ row ∷ []) ≡ after_row s place row = fold-append (after_row s) _ rows (row ∷ []) in
        let there : place.rows ≡ rows = place_after-rows s lines rows in
        let same : after_row s place row ≡ onward s (rows ++ row ∷ []) (rest_of_all place.tasks) place.skipped false =
        ap (λ xs. onward s (xs ++ row ∷ []) (rest_of_all place.tasks) place.skipped place.unsettled) there ∙ ap (λ c. onward s (rows ++ row ∷ []) (rest_of_all place.tasks) place.skipped c) uncut in
        (next.timely, (subst (λ p. IsFine (rows ++ row ∷ []) p) (sym (whole ∙ same)) next.fine) none)

    pub settled_in_time : AreSpaced Nothing lines → (journal : List (Row M O)) → IsLawful s lines journal → unsettled s lines journal ≡ false → AreInTime s journal
    settled_in_time apart journal lawful none =
        let begins : Stage [] = λ none'. (none_in_time s, passes [] Nothing (flat_map (tasks_of s.words) lines) 0 (lines_spaced s.words 0 Nothing lines apart (any_room lines)) refl none') in
        (by_rows s lines Stage begins settled_row journal lawful none).0
