-- On the walk of spaced lines each order begins where nothing is under way, and no line of deliveries that has room is cut off.
use Rattle.std.proofs.Common.{◌≡◌, ℕ, zero, suc, ◌+◌, ◌-◌, ◌*◌, ◌≤◌, List, [], ◌∷◌, ◌++◌, Bool, true, false, true≢false, cond, eqb, ◌||◌, not, refl, sym, ◌∙◌, ap, subst, arith, mul_comm}
use Rattle.std.specs.List.{flat_map}
use Rattle.std.proofs.lemmas.Bool.{cond_both, ne_eqb}
use Rattle.std.proofs.lemmas.List.Sums.{fold-append}
use Rattle.std.proofs.Math.Nat.{mul-le-mul_left}
use Rattle.sc_base.specs.Definitions.{Each}
use Rattle.sc_actor.specs.declared.rows.Row.{Row}
use Rattle.sc_actor.specs.declared.rows.Event.{Event}
use Rattle.sc_actor.specs.declared.rows.Event.TheVariants.{Go, Told}
use Rattle.sc_actor.specs.declared.schedules.Line.{Line}
use Rattle.sc_actor.specs.declared.schedules.Line.TheVariants.{Go as GoLine, Deliver as DeliverLine, Drop as DropLine, Again as AgainLine, Tick as TickLine, Crash as CrashLine, Told as ToldLine, Settle, Free, Storm}
use Rattle.sc_actor.specs.Definitions.{has_crashed, is_delivery, System, acts, has_started, Task, Once, Settles, Frees, Storms, WalkPlace, Allows, MayAdd, IsLawful, onward, is_over, is_quiet, after_row, place_after, rest_of_all, tasks_of, unsettled}
use Rattle.sc_actor.proofs.Lemmas.{lawful-last, lawful-prefix, place_after-rows, unless-some}
use Rattle.sc_live_orderly.specs.OrderlyDefinitions.{is_told, deliveries, orders, HasRoom, Said, Nothing, Goes, AnOrder, AreSpaced, IsClear, AreInTime, orders_given, IsMeasure}
use Rattle.sc_live_orderly.proofs.RowsOfSchedules.{allows_calm, by_rows}
use Rattle.sc_live_orderly.proofs.PotentialBounds.{count_push}
use Rattle.sc_live_orderly.proofs.QuietLineEnds.{acts-event, delivery-event, free-event, deliver-event}
use Rattle.sc_live_orderly.proofs.GivenOrders.{spaced_are_calm, few_told}
use Rattle.sc_live_orderly.proofs.RowsInTime.{in_time_row, timely_by, clear_row, delivery_untold, delivery_in_time, none_in_time, one_if}
use Rattle.sc_live_orderly.proofs.SpacedTasks.{AreTasksSpaced, lines_spaced, Knows, Stands, may_go, may_order, knows_delivery}

raised : (raise : ℕ) (b : Bool) (n m : ℕ) → m ≡ n + cond b 1 0 → m * raise ≡ n * raise + cond b raise 0
raised raise true n m e = ap (λ k. k * raise) e ∙ one_more n
  where
    one_more : (k : ℕ) → (k + 1) * raise ≡ k * raise + raise
    one_more k = grind arith
raised raise false n m e = ap (λ k. k * raise) e ∙ none_more n
  where
    none_more : (k : ℕ) → (k + 0) * raise ≡ k * raise + 0
    none_more k = grind arith

module _ {A M O : Type 0} (s : System A M O) (lines : List (Line O)) (most : ℕ) (owed : List (Row M O) → ℕ) (still raise : ℕ) (measure : IsMeasure s lines most owed still raise) where
  -- the walk stands so, and no line was cut off
  abbrev IsFine : List (Row M O) → WalkPlace M O → Type 0
  IsFine rows place = Stands s (owed rows) (still + raise) rows place.tasks × (place.unsettled ≡ false)

  module _ (rows : List (Row M O)) (lawful : IsLawful s lines rows) (timely : AreInTime s rows) (low : deliveries rows ≤ most) (bound : owed rows ≤ still + raise) where
    -- a line of deliveries with room is over only where it is quiet
    over_quiet : (left : ℕ) → owed rows ≤ left → (eqb left 0 || is_quiet s rows) ≡ true → is_quiet s rows ≡ true
    over_quiet left room over = by left (is_quiet s rows) refl room over
      where
        by : (left : ℕ) (b : Bool) → is_quiet s rows ≡ b → owed rows ≤ left → (eqb left 0 || b) ≡ true → b ≡ true
        by left true q room' over' = refl
        by zero false q room' over' = let some = measure.some rows lawful timely low q in absurd (omega (arith, some, room'))
        by (suc left) false q room' over' = absurd (true≢false (sym over' ∙ ap (λ b. b || false) (ne_eqb (suc left) 0 (λ z. absurd (omega (arith, z))))))

    uncut : (b : Bool) → b ≡ true → (false || not b) ≡ false
    uncut true e = refl
    uncut false e = absurd (true≢false (sym e))

    -- past a line of deliveries with room, or before it
    past_many : (tasks : List (Task O)) (skipped : ℕ) → (Knows s Nothing rows → IsFine rows (onward s rows tasks skipped false)) → is_quiet s rows ≡ true → IsFine rows (onward s rows tasks skipped (false || not (is_quiet s rows)))
    past_many tasks skipped more quiet = subst (λ c. IsFine rows (onward s rows tasks skipped c)) (sym (uncut (is_quiet s rows) quiet)) (more quiet)

    settles_by : (left : ℕ) (tasks : List (Task O)) (skipped : ℕ) → owed rows ≤ left → AreTasksSpaced (still + raise) Nothing tasks → (Knows s Nothing rows → IsFine rows (onward s rows tasks (skipped + 0) false)) → IsFine rows (onward s rows (Settles left ∷ tasks) skipped false)
    settles_by left tasks skipped room apart more = cond_both (is_over s rows (Settles left)) _ _ (IsFine rows) (λ over. past_many tasks (skipped + 0) more (over_quiet left room over)) (λ _. ((room, apart), refl))

    frees_by : (left : ℕ) (tasks : List (Task O)) (skipped : ℕ) → owed rows ≤ left → AreTasksSpaced (still + raise) Nothing tasks → (Knows s Nothing rows → IsFine rows (onward s rows tasks (skipped + 0) false)) → IsFine rows (onward s rows (Frees left ∷ tasks) skipped false)
    frees_by left tasks skipped room apart more = cond_both (is_over s rows (Frees left)) _ _ (IsFine rows) (λ over. past_many tasks (skipped + 0) more (over_quiet left room over)) (λ _. ((room, apart), refl))

    passes : (said : Said) (tasks : List (Task O)) (skipped : ℕ) → AreTasksSpaced (still + raise) said tasks → Knows s said rows → IsFine rows (onward s rows tasks skipped false)
    passes said [] skipped apart known = (tt, refl)
    passes said (Once (GoLine who) ∷ tasks) skipped apart known =
        let clear = may_go s said rows apart.0 known in
        cond_both (is_over s rows (Once (GoLine who))) _ _ (IsFine rows) (λ _. passes Goes tasks (skipped + 1) apart.1 clear) (λ _. ((clear, apart.1), refl))
    passes said (Once (ToldLine who order) ∷ tasks) skipped apart known =
        let quiet = may_order s said rows apart.0 known in
        cond_both (is_over s rows (Once (ToldLine who order))) _ _ (IsFine rows) (λ _. passes AnOrder tasks (skipped + 1) apart.1 tt) (λ _. ((quiet, apart.1), refl))
    passes said (Settles left ∷ tasks) skipped apart known =
        (let room = apart.0 in settles_by left tasks skipped (omega (arith, room, bound)) apart.1 (passes Nothing tasks (skipped + 0) apart.1))
    passes said (Frees left ∷ tasks) skipped apart known =
        (let room = apart.0 in frees_by left tasks skipped (omega (arith, room, bound)) apart.1 (passes Nothing tasks (skipped + 0) apart.1))
    passes said (Once (Settle most) ∷ tasks) skipped apart known = absurd apart
    passes said (Once (Free most workers) ∷ tasks) skipped apart known = absurd apart
    passes said (Once (DeliverLine who k) ∷ tasks) skipped apart known =
        cond_both (is_over s rows (Once (DeliverLine who k))) _ _ (IsFine rows) (λ _. passes said tasks (skipped + 1) apart.1 known) (λ _. ((apart.0, (said, (known, apart.1))), refl))
    passes said (Once (DropLine who k) ∷ tasks) skipped apart known = absurd apart
    passes said (Once (AgainLine mail) ∷ tasks) skipped apart known = absurd apart
    passes said (Once (TickLine who) ∷ tasks) skipped apart known = absurd apart
    passes said (Once (CrashLine who) ∷ tasks) skipped apart known = absurd apart
    passes said (Once (Storm number most) ∷ tasks) skipped apart known = absurd apart
    passes said (Storms words ∷ tasks) skipped apart known = absurd apart

    -- a line of deliveries that goes on
    settles_on : (left : ℕ) (tasks : List (Task O)) (skipped : ℕ) → owed rows ≤ left → AreTasksSpaced (still + raise) Nothing tasks → IsFine rows (onward s rows (Settles left ∷ tasks) skipped false)
    settles_on left tasks skipped room apart =
        settles_by left tasks skipped room apart (passes Nothing tasks (skipped + 0) apart)

    frees_on : (left : ℕ) (tasks : List (Task O)) (skipped : ℕ) → owed rows ≤ left → AreTasksSpaced (still + raise) Nothing tasks → IsFine rows (onward s rows (Frees left ∷ tasks) skipped false)
    frees_on left tasks skipped room apart =
        frees_by left tasks skipped room apart (passes Nothing tasks (skipped + 0) apart)

  -- ---- one more row

  -- what is found of a row: it is in time, no more was delivered and is owed than may be, and the tasks that are left stand
  record IsStep (rows : List (Row M O)) (row : Row M O) (tasks : List (Task O)) (skipped : ℕ) : Type 0 where
    timely : AreInTime s (rows ++ row ∷ [])
    sum : deliveries (rows ++ row ∷ []) + owed (rows ++ row ∷ []) ≤ still + orders (rows ++ row ∷ []) * raise
    bound : owed (rows ++ row ∷ []) ≤ still + raise
    fine : IsFine (rows ++ row ∷ []) (onward s (rows ++ row ∷ []) (rest_of_all tasks) skipped false)

  module _ (apart : AreSpaced Nothing lines) (within : still + orders_given lines * raise ≤ most) where
    -- so few deliveries are made in lawful journals
    low_by : (rows : List (Row M O)) → IsLawful s lines rows → deliveries rows + owed rows ≤ still + orders rows * raise → deliveries rows ≤ most
    low_by rows lawful sum =
        let few = few_told s lines (spaced_are_calm Nothing lines apart) rows lawful in
        let less = mul-le-mul_left raise few in
        let one = mul_comm (orders rows) raise in
        let other = mul_comm (orders_given lines) raise in
        omega (arith, sum, less, one, other, within)

    module _ (rows : List (Row M O)) (row : Row M O) (lawful : IsLawful s lines (rows ++ row ∷ [])) (timely : AreInTime s rows) (sum : deliveries rows + owed rows ≤ still + orders rows * raise) (bound : owed rows ≤ still + raise) where
      before : IsLawful s lines rows
      before = lawful-prefix s lines rows (row ∷ []) lawful

      low : deliveries rows ≤ most
      low = low_by rows before sum

      sum_row : AreInTime s (rows ++ row ∷ []) → deliveries (rows ++ row ∷ []) + owed (rows ++ row ∷ []) ≤ still + orders (rows ++ row ∷ []) * raise
      sum_row t =
          let lower = measure.lowers rows row lawful t low in
          let d = count_push (λ (r : Row M O). is_delivery r.event) rows row (is_delivery row.event) refl in
          let o = raised raise (is_told row.event) (orders rows) (orders (rows ++ row ∷ [])) (count_push (λ (r : Row M O). is_told r.event) rows row (is_told row.event) refl) in
          omega (arith, lower, d, o, sum)

      go_step : (who : ℕ) (tasks : List (Task O)) (skipped : ℕ) → Allows s rows (Once (GoLine who)) row → IsClear s rows → AreTasksSpaced (still + raise) Goes tasks → IsStep rows row (Once (GoLine who) ∷ tasks) skipped
      go_step who tasks skipped may clear spaced =
          let go : Event O = Go in
          let fact : go ≡ row.event = acts-event s rows who go row (unless-some (has_started rows who) (acts s rows who Go) row may).1 in
          let t = timely_by s rows row timely Go fact (allows_calm s rows (Once (GoLine who)) row tt may) clear in
          let untold : is_told row.event ≡ false = subst (λ (e : Event O). is_told e ≡ false) fact refl in
          let lower = measure.lowers rows row lawful t low in
          let none : cond (is_told row.event) raise 0 ≡ 0 = ap (λ b. cond b raise 0) untold in
          let b : owed (rows ++ row ∷ []) ≤ still + raise = omega (arith, lower, none, bound) in
          let sums = sum_row t in
          record { timely = t; sum = sums; bound = b; fine = passes (rows ++ row ∷ []) lawful t (low_by (rows ++ row ∷ []) lawful sums) b Goes tasks skipped spaced (clear_row s rows row untold clear) }

      told_step : (who : ℕ) (order : O) (tasks : List (Task O)) (skipped : ℕ) → Allows s rows (Once (ToldLine who order)) row → is_quiet s rows ≡ true → AreTasksSpaced (still + raise) AnOrder tasks → IsStep rows row (Once (ToldLine who order) ∷ tasks) skipped
      told_step who order tasks skipped may quiet spaced =
          let fact : Told order ≡ row.event = acts-event s rows who (Told order) row (unless-some (has_crashed rows who) (acts s rows who (Told order)) row may).1 in
          let t = timely_by s rows row timely (Told order) fact (allows_calm s rows (Once (ToldLine who order)) row tt may) quiet in
          let lower = measure.lowers rows row lawful t low in
          let more : cond (is_told row.event) raise 0 ≡ raise = subst (λ (e : Event O). cond (is_told e) raise 0 ≡ raise) fact refl in
          let now = measure.quiet rows before timely low quiet in
          let b : owed (rows ++ row ∷ []) ≤ still + raise = omega (arith, lower, more, now) in
          let sums = sum_row t in
          record { timely = t; sum = sums; bound = b; fine = passes (rows ++ row ∷ []) lawful t (low_by (rows ++ row ∷ []) lawful sums) b AnOrder tasks skipped spaced tt }

      -- a delivery lowers what is owed
      delivery_lowers : is_delivery row.event ≡ true → AreInTime s (rows ++ row ∷ []) → owed (rows ++ row ∷ []) + 1 ≤ owed rows
      delivery_lowers d t =
          let lower = measure.lowers rows row lawful t low in
          let none : cond (is_told row.event) raise 0 ≡ 0 = ap (λ b. cond b raise 0) (delivery_untold s row.event d) in
          let one = ap one_if d in
          omega (arith, lower, none, one)

      settles_step : (left : ℕ) (tasks : List (Task O)) (skipped : ℕ) → Allows s rows (Settles left) row → owed rows ≤ left → AreTasksSpaced (still + raise) Nothing tasks → IsStep rows row (Settles left ∷ tasks) skipped
      settles_step left tasks skipped may room spaced =
          let d = delivery-event s rows left row may in
          let t = in_time_row s rows row timely (allows_calm s rows (Settles left) row tt may) (delivery_in_time s rows row.event d) in
          let lower = delivery_lowers d t in
          let b : owed (rows ++ row ∷ []) ≤ still + raise = omega (arith, lower, bound) in
          let less : owed (rows ++ row ∷ []) ≤ left - 1 = omega (arith, lower, room) in
          let sums = sum_row t in
          record { timely = t; sum = sums; bound = b; fine = settles_on (rows ++ row ∷ []) lawful t (low_by (rows ++ row ∷ []) lawful sums) b (left - 1) tasks skipped less spaced }

      frees_step : (left : ℕ) (tasks : List (Task O)) (skipped : ℕ) → Allows s rows (Frees left) row → owed rows ≤ left → AreTasksSpaced (still + raise) Nothing tasks → IsStep rows row (Frees left ∷ tasks) skipped
      frees_step left tasks skipped may room spaced =
          let d = free-event s rows left row may in
          let t = in_time_row s rows row timely (allows_calm s rows (Frees left) row tt may) (delivery_in_time s rows row.event d) in
          let lower = delivery_lowers d t in
          let b : owed (rows ++ row ∷ []) ≤ still + raise = omega (arith, lower, bound) in
          let less : owed (rows ++ row ∷ []) ≤ left - 1 = omega (arith, lower, room) in
          let sums = sum_row t in
          record { timely = t; sum = sums; bound = b; fine = frees_on (rows ++ row ∷ []) lawful t (low_by (rows ++ row ∷ []) lawful sums) b (left - 1) tasks skipped less spaced }

      deliver_step : (who k : ℕ) (said : Said) (tasks : List (Task O)) (skipped : ℕ) → Allows s rows (Once (DeliverLine who k)) row → k ≡ 1 → Knows s said rows → AreTasksSpaced (still + raise) said tasks → IsStep rows row (Once (DeliverLine who k) ∷ tasks) skipped
      deliver_step who k said tasks skipped may one known spaced =
          let d = deliver-event s rows who k row may in
          let t = in_time_row s rows row timely (allows_calm s rows (Once (DeliverLine who k)) row one may) (delivery_in_time s rows row.event d) in
          let lower = delivery_lowers d t in
          let b : owed (rows ++ row ∷ []) ≤ still + raise = omega (arith, lower, bound) in
          let sums = sum_row t in
          record { timely = t; sum = sums; bound = b; fine = passes (rows ++ row ∷ []) lawful t (low_by (rows ++ row ∷ []) lawful sums) b said tasks skipped spaced (knows_delivery s rows row who k one may said d known) }

      -- whatever task is next
      step : (tasks : List (Task O)) (skipped : ℕ) → MayAdd s rows tasks row → Stands s (owed rows) (still + raise) rows tasks → IsStep rows row tasks skipped
      step [] skipped may stands = absurd may
      step (Once (GoLine who) ∷ tasks) skipped may stands = go_step who tasks skipped may stands.0 stands.1
      step (Once (ToldLine who order) ∷ tasks) skipped may stands = told_step who order tasks skipped may stands.0 stands.1
      step (Settles left ∷ tasks) skipped may stands = settles_step left tasks skipped may stands.0 stands.1
      step (Frees left ∷ tasks) skipped may stands = frees_step left tasks skipped may stands.0 stands.1
      step (Once (Settle most) ∷ tasks) skipped may stands = absurd stands
      step (Once (Free most workers) ∷ tasks) skipped may stands = absurd stands
      step (Once (DeliverLine who k) ∷ tasks) skipped may stands = deliver_step who k stands.1.0 tasks skipped may stands.0 stands.1.1.0 stands.1.1.1
      step (Once (DropLine who k) ∷ tasks) skipped may stands = absurd stands
      step (Once (AgainLine mail) ∷ tasks) skipped may stands = absurd stands
      step (Once (TickLine who) ∷ tasks) skipped may stands = absurd stands
      step (Once (CrashLine who) ∷ tasks) skipped may stands = absurd stands
      step (Once (Storm number most) ∷ tasks) skipped may stands = absurd stands
      step (Storms words ∷ tasks) skipped may stands = absurd stands

    -- ---- lawful journals

    -- the rows are in time, no more was delivered and is owed than may be, and the walk stands so
    record IsStage (rows : List (Row M O)) : Type 0 where
      timely : AreInTime s rows
      sum : deliveries rows + owed rows ≤ still + orders rows * raise
      bound : owed rows ≤ still + raise
      fine : IsFine rows (place_after s lines rows)

    stage_row : (rows : List (Row M O)) (row : Row M O) → IsLawful s lines (rows ++ row ∷ []) → IsStage rows → IsStage (rows ++ row ∷ [])
    stage_row rows row lawful now =
        let place = place_after s lines rows in
        let next = step rows row lawful now.timely now.sum now.bound place.tasks place.skipped (lawful-last s lines rows row lawful) now.fine.0 in
        let whole : place_after s lines (rows ++ row ∷ []) ≡ after_row s place row = fold-append (after_row s) _ rows (row ∷ []) in
        let there : place.rows ≡ rows = place_after-rows s lines rows in
        let same : after_row s place row ≡ onward s (rows ++ row ∷ []) (rest_of_all place.tasks) place.skipped false =
        ap (λ xs. onward s (xs ++ row ∷ []) (rest_of_all place.tasks) place.skipped place.unsettled) there ∙ ap (λ c. onward s (rows ++ row ∷ []) (rest_of_all place.tasks) place.skipped c) now.fine.1 in
        record { timely = next.timely; sum = next.sum; bound = next.bound; fine = subst (λ p. IsFine (rows ++ row ∷ []) p) (sym (whole ∙ same)) next.fine }

    stage : Each (HasRoom (still + raise)) lines → (journal : List (Row M O)) → IsLawful s lines journal → IsStage journal
    stage room journal lawful =
        let none = none_in_time s in
        let quiet = measure.quiet [] tt none (omega arith) refl in
        let bound : owed [] ≤ still + raise = omega (arith, quiet) in
        by_rows s lines IsStage
        (record {
          timely = none;
          sum = omega (arith, quiet);
          bound = bound;
          fine = passes [] tt none (omega arith) bound Nothing (flat_map (tasks_of s.words) lines) 0 (lines_spaced s.words (still + raise) Nothing lines apart room) refl;
        }) stage_row journal lawful

    pub rows_in_time : Each (HasRoom (still + raise)) lines → (journal : List (Row M O)) → IsLawful s lines journal → AreInTime s journal
    rows_in_time room journal lawful = (stage room journal lawful).timely

    pub ends_quiet : Each (HasRoom (still + raise)) lines → (journal : List (Row M O)) → IsLawful s lines journal → unsettled s lines journal ≡ false
    ends_quiet room journal lawful = (stage room journal lawful).fine.1

    -- the deliveries made and what is owed still are no more than is owed in quiet, and what the orders raised
    pub deliveries_and_orders : Each (HasRoom (still + raise)) lines → (journal : List (Row M O)) → IsLawful s lines journal → deliveries journal + owed journal ≤ still + orders journal * raise
    deliveries_and_orders room journal lawful = (stage room journal lawful).sum
