-- A lawful journal of calm lines gives no more orders than these, and only such ones.
use Rattle.std.proofs.Common.{◌≡◌, ℕ, ◌+◌, ◌≤◌, List, [], ◌∷◌, ◌++◌, Bool, true, false, true≢false, cond, ◌||◌, refl, sym, ap, subst, arith, Option, None, Some}
use Rattle.std.specs.List.{flat_map}
use Rattle.std.proofs.lemmas.Bool.{cond_both}
use Rattle.std.proofs.lemmas.List.Sums.{fold-append, sum_by-cons}
use Rattle.sc_base.specs.Definitions.{Each}
use Rattle.sc_actor.specs.declared.rows.Row.{Row}
use Rattle.sc_actor.specs.declared.rows.Event.{Event}
use Rattle.sc_actor.specs.declared.rows.Event.TheVariants.{Go, Told}
use Rattle.sc_actor.specs.declared.schedules.Line.{Line}
use Rattle.sc_actor.specs.declared.schedules.Line.TheVariants.{Go as GoLine, Deliver as DeliverLine, Drop as DropLine, Again as AgainLine, Tick as TickLine, Crash as CrashLine, Told as ToldLine, Settle, Free, Storm}
use Rattle.sc_actor.specs.Definitions.{has_crashed, is_delivery, System, acts, has_started, Task, Once, Settles, Frees, Storms, WalkPlace, MayAdd, IsLawful, onward, is_over, skips, cuts, after_row, place_after, rest_of_all, tasks_of}
use Rattle.sc_actor.proofs.Lemmas.{lawful-last}
use Rattle.sc_live_orderly.specs.OrderlyDefinitions.{IsCalmLine, is_told, orders, Said, Nothing, Goes, AnOrder, AreSpaced, gives_order, orders_given, GivesAllowedOrder, GiveAllowedOrders, LineGivesAllowedOrder, LinesGiveAllowedOrders}
use Rattle.sc_live_orderly.proofs.RowsOfSchedules.{Each-append, IsTaskOf, tasks_after, by_rows}
use Rattle.sc_live_orderly.proofs.PotentialBounds.{count_push}
use Rattle.sc_live_orderly.proofs.QuietLineEnds.{acts-event, acts-who, delivery-event, free-event, deliver-event}
use Rattle.sc_live_orderly.proofs.RowsInTime.{delivery_untold, one_if}

-- spaced lines are calm
pub spaced_are_calm : {O : Type 0} (said : Said) (lines : List (Line O)) → AreSpaced said lines → Each IsCalmLine lines
spaced_are_calm said [] apart = tt
spaced_are_calm said (Settle most ∷ lines) apart = (tt, spaced_are_calm Nothing lines apart)
spaced_are_calm said (Free most workers ∷ lines) apart = (tt, spaced_are_calm Nothing lines apart)
spaced_are_calm said (GoLine who ∷ lines) apart = (tt, spaced_are_calm Goes lines apart.1)
spaced_are_calm said (ToldLine who order ∷ lines) apart = (tt, spaced_are_calm AnOrder lines apart.1)
spaced_are_calm said (DeliverLine who k ∷ lines) apart = (apart.0, spaced_are_calm said lines apart.1)
spaced_are_calm said (DropLine who k ∷ lines) apart = absurd apart
spaced_are_calm said (AgainLine mail ∷ lines) apart = absurd apart
spaced_are_calm said (TickLine who ∷ lines) apart = absurd apart
spaced_are_calm said (CrashLine who ∷ lines) apart = absurd apart
spaced_are_calm said (Storm number most ∷ lines) apart = absurd apart

-- ---- how many

-- whether a task gives an order
abbrev tells : {O : Type 0} → Task O → Bool
tells (Once line) = gives_order line
tells (Settles left) = false
tells (Frees left) = false
tells (Storms words) = false

-- how many do
abbrev tasks_told : {O : Type 0} → List (Task O) → ℕ
tasks_told [] = 0
tasks_told (task ∷ tasks) = cond (tells task) 1 0 + tasks_told tasks

given_cons : {O : Type 0} (line : Line O) (lines : List (Line O)) → orders_given (line ∷ lines) ≡ cond (gives_order line) 1 0 + orders_given lines
given_cons line lines = sum_by-cons (λ other. cond (gives_order other) 1 0) line lines

-- as many as lines
lines_told : {O : Type 0} (words : ℕ → ℕ → ℕ × ℕ) (lines : List (Line O)) → Each IsCalmLine lines → tasks_told (flat_map (tasks_of words) lines) ≡ orders_given lines
lines_told words [] calm = refl
lines_told words (Settle most ∷ lines) calm = let more = lines_told words lines calm.1 in let c = given_cons (Settle most) lines in omega (arith, more, c)
lines_told words (Free most workers ∷ lines) calm = let more = lines_told words lines calm.1 in let c = given_cons (Free most workers) lines in omega (arith, more, c)
lines_told words (GoLine who ∷ lines) calm = let more = lines_told words lines calm.1 in let c = given_cons (GoLine who) lines in omega (arith, more, c)
lines_told words (ToldLine who order ∷ lines) calm = let more = lines_told words lines calm.1 in let c = given_cons (ToldLine who order) lines in omega (arith, more, c)
lines_told words (DeliverLine who k ∷ lines) calm = let more = lines_told words lines calm.1 in let c = given_cons (DeliverLine who k) lines in omega (arith, more, c)
lines_told words (DropLine who k ∷ lines) calm = absurd calm.0
lines_told words (AgainLine mail ∷ lines) calm = absurd calm.0
lines_told words (TickLine who ∷ lines) calm = absurd calm.0
lines_told words (CrashLine who ∷ lines) calm = absurd calm.0
lines_told words (Storm number most ∷ lines) calm = absurd calm.0

unless-some : {Y : Type 0} (b : Bool) (o : Option Y) (y : Y) → cond b None o ≡ Some y → o ≡ Some y
unless-some true o y e = cc
unless-some false o y e = e

module _ {A M O : Type 0} (s : System A M O) where
  -- the tasks that are passed over give no more orders
  onward_told : (rows : List (Row M O)) (tasks : List (Task O)) (skipped : ℕ) (cut : Bool) → tasks_told (onward s rows tasks skipped cut).tasks ≤ tasks_told tasks
  onward_told rows [] skipped cut = omega arith
  onward_told rows (task ∷ tasks) skipped cut =
      let more = onward_told rows tasks (skipped + skips task) (cut || cuts s rows task) in
      cond_both (is_over s rows task) (onward s rows tasks (skipped + skips task) (cut || cuts s rows task)) (record { tasks = task ∷ tasks; rows = rows; skipped = skipped; unsettled = cut }) (λ (place : WalkPlace M O). tasks_told place.tasks ≤ tasks_told (task ∷ tasks))
      (λ _. omega (arith, more))
      (λ _. omega arith)

  -- a delivery gives no order
  delivered_so : (allowed : ℕ → O → Bool) (who : ℕ) (event : Event O) → is_delivery event ≡ true → GivesAllowedOrder allowed who event
  delivered_so allowed who (Told order) d = absurd (true≢false (sym d))
  delivered_so allowed who _ d = tt

  -- a line as calm journals have it, which gives its order as orders may be
  abbrev IsCalmSo : (ℕ → O → Bool) → Line O → Type 0
  IsCalmSo allowed line = IsCalmLine line × LineGivesAllowedOrder allowed line

  calm_so : (allowed : ℕ → O → Bool) (lines : List (Line O)) → Each IsCalmLine lines → LinesGiveAllowedOrders allowed lines → Each (IsCalmSo allowed) lines
  calm_so allowed [] calm so = tt
  calm_so allowed (line ∷ lines) calm so = ((calm.0, so.0), calm_so allowed lines calm.1 so.1)

  -- what a row gives: an order as it may be, and its task gives one less
  record IsTaught (allowed : ℕ → O → Bool) (row : Row M O) (tasks : List (Task O)) : Type 0 where
    so : GivesAllowedOrder allowed row.who row.event
    fewer : one_if (is_told row.event) + tasks_told (rest_of_all tasks) ≤ tasks_told tasks

  module _ (allowed : ℕ → O → Bool) (rows : List (Row M O)) (row : Row M O) where
    by_delivery : (tasks : List (Task O)) → is_delivery row.event ≡ true → tasks_told (rest_of_all tasks) ≤ tasks_told tasks → IsTaught allowed row tasks
    by_delivery tasks d less =
        let none : one_if (is_told row.event) ≡ 0 = ap one_if (delivery_untold s row.event d) in
        record { so = delivered_so allowed row.who row.event d; fewer = omega (arith, none, less) }

    taught : (tasks : List (Task O)) → Each (IsTaskOf (IsCalmSo allowed)) tasks → MayAdd s rows tasks row → IsTaught allowed row tasks
    taught [] fact may = absurd may
    taught (Once (GoLine who) ∷ tasks) fact may =
        let go : Event O = Go in
        let same : go ≡ row.event = acts-event s rows who go row (unless-some (has_started rows who) (acts s rows who Go) row may) in
        let none : one_if (is_told row.event) ≡ 0 = subst (λ (e : Event O). one_if (is_told e) ≡ 0) same refl in
        record { so = subst (λ (e : Event O). GivesAllowedOrder allowed row.who e) same tt; fewer = omega (arith, none) }
    taught (Once (ToldLine who order) ∷ tasks) fact may =
        let acted = unless-some (has_crashed rows who) (acts s rows who (Told order)) row may in
        let same : Told order ≡ row.event = acts-event s rows who (Told order) row acted in
        let here = acts-who s rows who (Told order) row acted in
        let one : one_if (is_told row.event) ≡ 1 = subst (λ (e : Event O). one_if (is_told e) ≡ 1) same refl in
        record { so = subst (λ (e : Event O). GivesAllowedOrder allowed row.who e) same (subst (λ (w : ℕ). allowed w order ≡ true) (sym here) fact.0.1); fewer = omega (arith, one) }
    taught (Settles left ∷ tasks) fact may = by_delivery (Settles left ∷ tasks) (delivery-event s rows left row may) (omega arith)
    taught (Frees left ∷ tasks) fact may = by_delivery (Frees left ∷ tasks) (free-event s rows left row may) (omega arith)
    taught (Once (Settle most) ∷ tasks) fact may = cc
    taught (Once (Free most workers) ∷ tasks) fact may = cc
    taught (Once (DeliverLine who k) ∷ tasks) fact may = by_delivery (Once (DeliverLine who k) ∷ tasks) (deliver-event s rows who k row may) (omega arith)
    taught (Once (DropLine who k) ∷ tasks) fact may = absurd fact.0.0
    taught (Once (AgainLine mail) ∷ tasks) fact may = absurd fact.0.0
    taught (Once (TickLine who) ∷ tasks) fact may = absurd fact.0.0
    taught (Once (CrashLine who) ∷ tasks) fact may = absurd fact.0.0
    taught (Once (Storm number most) ∷ tasks) fact may = absurd fact.0.0
    taught (Storms words ∷ tasks) fact may = absurd fact.0

  -- ---- lawful journals

  module _ (lines : List (Line O)) (calm : Each IsCalmLine lines) where
    row_taught : (allowed : ℕ → O → Bool) (so : LinesGiveAllowedOrders allowed lines) (rows : List (Row M O)) (row : Row M O) → IsLawful s lines (rows ++ row ∷ []) → IsTaught allowed row (place_after s lines rows).tasks
    row_taught allowed so rows row lawful =
        taught allowed rows row (place_after s lines rows).tasks (tasks_after (IsCalmSo allowed) (λ line p. p.0) s lines rows (calm_so allowed lines calm so)) (lawful-last s lines rows row lawful)

    -- each order of a row is one that may be given to its actor, where lines give only such ones
    pub told_so : (allowed : ℕ → O → Bool) → LinesGiveAllowedOrders allowed lines → (journal : List (Row M O)) → IsLawful s lines journal → GiveAllowedOrders allowed journal
    told_so allowed so journal lawful =
        by_rows s lines (GiveAllowedOrders allowed) tt (λ rows row l such. Each-append (λ (r : Row M O). GivesAllowedOrder allowed r.who r.event) rows (row ∷ []) such ((row_taught allowed so rows row l).so, tt)) journal lawful

    all_so : (others : List (Line O)) → Each IsCalmLine others → LinesGiveAllowedOrders (λ who order. true) others
    all_so [] p = tt
    all_so (Settle most ∷ others) p = (tt, all_so others p.1)
    all_so (Free most workers ∷ others) p = (tt, all_so others p.1)
    all_so (GoLine who ∷ others) p = (tt, all_so others p.1)
    all_so (ToldLine who order ∷ others) p = (refl, all_so others p.1)
    all_so (DeliverLine who k ∷ others) p = (tt, all_so others p.1)
    all_so (DropLine who k ∷ others) p = absurd p.0
    all_so (AgainLine mail ∷ others) p = absurd p.0
    all_so (TickLine who ∷ others) p = absurd p.0
    all_so (CrashLine who ∷ others) p = absurd p.0
    all_so (Storm number most ∷ others) p = absurd p.0

    -- the orders that rows give, and that tasks still give, are no more than lines give
    left_row : (rows : List (Row M O)) (row : Row M O) → IsLawful s lines (rows ++ row ∷ []) → orders rows + tasks_told (place_after s lines rows).tasks ≤ orders_given lines → orders (rows ++ row ∷ []) + tasks_told (place_after s lines (rows ++ row ∷ [])).tasks ≤ orders_given lines
    left_row rows row lawful now =
        let place = place_after s lines rows in
        let whole : place_after s lines (rows ++ row ∷ []) ≡ after_row s place row = fold-append (after_row s) _ rows (row ∷ []) in
        let left = ap (λ (p : WalkPlace M O). tasks_told p.tasks) whole in
        let passed = onward_told (place.rows ++ row ∷ []) (rest_of_all place.tasks) place.skipped place.unsettled in
        let fewer = (row_taught (λ who order. true) (all_so lines calm) rows row lawful).fewer in
        let count = count_push (λ (r : Row M O). is_told r.event) rows row (is_told row.event) refl in
        omega (arith, left, passed, fewer, count, now)

    -- rows give no more orders than lines do
    pub few_told : (journal : List (Row M O)) → IsLawful s lines journal → orders journal ≤ orders_given lines
    few_told journal lawful =
        let passed = onward_told [] (flat_map (tasks_of s.words) lines) 0 false in
        let same = lines_told s.words lines calm in
        let all = by_rows s lines (λ rows. orders rows + tasks_told (place_after s lines rows).tasks ≤ orders_given lines) (omega (arith, passed, same)) left_row journal lawful in
        omega (arith, all)
