-- A whole journal in which no line was cut off has passed each of its lines: after a line of many deliveries it was quiet, and what a line before that one brings about held then.
use Rattle.std.proofs.Common.{◌≡◌, ℕ, ◌+◌, ◌-◌, List, [], ◌∷◌, ◌++◌, Bool, true, false, true≢false, ◌||◌, not, refl, sym, ◌∙◌, ap, subst, append_assoc, append-nil, ◌⊎◌, inl, inr}
use Rattle.std.specs.List.{flat_map}
use Rattle.std.proofs.lemmas.Bool.{cond_both}
use Rattle.std.proofs.lemmas.List.Sums.{fold-append}
use Rattle.sc_base.specs.Definitions.{Among}
use Rattle.sc_actor.specs.declared.rows.Row.{Row}
use Rattle.sc_actor.specs.declared.schedules.Line.{Line}
use Rattle.sc_actor.specs.declared.schedules.Line.TheVariants.{Go as GoLine, Deliver as DeliverLine, Drop as DropLine, Again as AgainLine, Tick as TickLine, Crash as CrashLine, Told as ToldLine, Settle, Free, Storm}
use Rattle.sc_actor.specs.Definitions.{System, Task, Once, Settles, Frees, Storms, WalkPlace, MayAdd, IsLawful, IsWhole, onward, is_over, is_quiet, cuts, skips, after_row, place_after, rest_of_task, rest_of_all, tasks_of, unsettled}
use Rattle.sc_actor.proofs.Lemmas.{lawful-last, place_after-rows}
use Rattle.sc_live_orderly.proofs.PassedTasks.{flat_append}
use Rattle.sc_live_orderly.proofs.RowsOfSchedules.{by_rows}
use Rattle.sc_live_orderly.proofs.UncutPrefixes.{onward_cut, uncut_before}

-- a task of many deliveries
abbrev IsMany : {O : Type 0} → Task O → Type 0
IsMany (Once line) = ⊥
IsMany (Settles left) = Unit {0}
IsMany (Frees left) = Unit {0}
IsMany (Storms words) = ⊥

-- a line of many deliveries
abbrev pub IsManyLine : {O : Type 0} → Line O → Type 0
IsManyLine (Settle most) = Unit {0}
IsManyLine (Free most workers) = Unit {0}
IsManyLine (GoLine who) = ⊥
IsManyLine (DeliverLine who k) = ⊥
IsManyLine (DropLine who k) = ⊥
IsManyLine (AgainLine mail) = ⊥
IsManyLine (TickLine who) = ⊥
IsManyLine (CrashLine who) = ⊥
IsManyLine (ToldLine who order) = ⊥
IsManyLine (Storm number most) = ⊥

-- ---- the tasks of lines

module _ {O : Type 0} (words : ℕ → ℕ → ℕ × ℕ) where
  many_task : (line : Line O) → IsManyLine line → (task : Task O) × IsMany task × (tasks_of words line ≡ task ∷ [])
  many_task (Settle most) fact = (Settles most, tt, refl)
  many_task (Free most workers) fact = (Frees most, tt, refl)
  many_task _ fact = absurd fact

  -- a line that is one task of its own
  module _ (line : Line O) (once : tasks_of words line ≡ Once line ∷ []) where
    among_left : (xs ys : List (Task O)) → Among (Once line) xs → Among (Once line) (xs ++ ys)
    among_left [] ys a = absurd a
    among_left (x ∷ xs) ys (inl same) = inl same
    among_left (x ∷ xs) ys (inr a) = inr (among_left xs ys a)

    pub among_right : (xs ys : List (Task O)) → Among (Once line) ys → Among (Once line) (xs ++ ys)
    among_right [] ys a = a
    among_right (x ∷ xs) ys a = inr (among_right xs ys a)

    pub among_tasks : (lines : List (Line O)) → Among line lines → Among (Once line) (flat_map (tasks_of words) lines)
    among_tasks [] a = absurd a
    among_tasks (other ∷ lines) (inl same) =
        among_left (tasks_of words other) (flat_map (tasks_of words) lines) (subst (λ l. Among (Once line) (tasks_of words l)) (sym same) (subst (Among (Once line)) (sym once) (inl refl)))
    among_tasks (other ∷ lines) (inr a) = among_right (tasks_of words other) (flat_map (tasks_of words) lines) (among_tasks lines a)

-- ---- past a line of many deliveries

not_not : (b : Bool) → not b ≡ false → b ≡ true
not_not true e = refl
not_not false e = sym e

right_none : (a b : Bool) → (a || b) ≡ false → b ≡ false
right_none true b e = absurd (true≢false e)
right_none false b e = e

-- what a line brings about stays so, holds after its row, and where the walk is past its task
module _ {A M O : Type 0} (s : System A M O) (line : Line O) (once : tasks_of s.words line ≡ Once line ∷ []) (Holds : List (Row M O) → Type 0)
    (stays : (rows : List (Row M O)) (row : Row M O) → Holds rows → Holds (rows ++ row ∷ []))
    (done : (rows : List (Row M O)) (row : Row M O) (tasks : List (Task O)) → MayAdd s rows (Once line ∷ tasks) row → Holds (rows ++ row ∷ []))
    (lines : List (Line O)) (over : (rows : List (Row M O)) → IsLawful s lines rows → unsettled s lines rows ≡ false → is_over s rows (Once line) ≡ true → Holds rows) where
  -- a task of many deliveries is still to come, and what the line brings about holds, or its task is before that one
  record IsAhead (rows : List (Row M O)) (tasks : List (Task O)) : Type 0 where
    prefix : List (Task O)
    many : Task O
    back : List (Task O)
    is_many : IsMany many
    tasks_are : tasks ≡ prefix ++ many ∷ back
    holds : Holds rows ⊎ Among (Once line) prefix

  -- the journal was quiet when that held
  pub record WasQuiet (rows : List (Row M O)) : Type 0 where
    pub before : List (Row M O)
    pub after : List (Row M O)
    pub rows_are : rows ≡ before ++ after
    pub quiet : is_quiet s before ≡ true
    pub held : Holds before

  abbrev Stands : List (Row M O) → WalkPlace M O → Type 0
  Stands rows place = place.unsettled ≡ false → IsAhead rows place.tasks ⊎ ((is_quiet s rows ≡ true) × Holds rows)

  quiet_over : (rows : List (Row M O)) (many : Task O) → IsMany many → cuts s rows many ≡ false → is_quiet s rows ≡ true
  quiet_over rows (Settles left) fact e = not_not (is_quiet s rows) e
  quiet_over rows (Frees left) fact e = not_not (is_quiet s rows) e
  quiet_over rows (Once line) fact e = absurd fact
  quiet_over rows (Storms words) fact e = absurd fact

  -- past tasks that are over
  passes : (rows : List (Row M O)) → (is_over s rows (Once line) ≡ true → Holds rows) → (prefix : List (Task O)) (many : Task O) (back : List (Task O)) (skipped : ℕ) (cut : Bool) → IsMany many → Holds rows ⊎ Among (Once line) prefix
      → Stands rows (onward s rows (prefix ++ many ∷ back) skipped cut)
  passes rows brings [] many back skipped cut fact (inr none) = absurd none
  passes rows brings [] many back skipped cut fact (inl held) =
      cond_both (is_over s rows many) _ _ (Stands rows)
      (λ _ e. inr (quiet_over rows many fact (right_none cut (cuts s rows many) (onward_cut s rows back (skipped + skips many) (cut || cuts s rows many) e)), held))
      (λ _ e. inl (record { prefix = []; many = many; back = back; is_many = fact; tasks_are = refl; holds = inl held }))
  passes rows brings (task ∷ prefix) many back skipped cut fact holds =
      cond_both (is_over s rows task) _ _ (Stands rows) (λ gone. passes rows brings prefix many back (skipped + skips task) (cut || cuts s rows task) fact (left gone holds))
      (λ _ e. inl (record { prefix = task ∷ prefix; many = many; back = back; is_many = fact; tasks_are = refl; holds = holds }))
    where
      left : is_over s rows task ≡ true → Holds rows ⊎ Among (Once line) (task ∷ prefix) → Holds rows ⊎ Among (Once line) prefix
      left gone (inl held) = inl held
      left gone (inr (inl same)) = inl (brings (ap (is_over s rows) (sym same) ∙ gone))
      left gone (inr (inr a)) = inr a

  -- ---- one more row

  rest_many : (task : Task O) → IsMany task → (many : Task O) × IsMany many × (rest_of_task task ≡ many ∷ [])
  rest_many (Settles left) fact = (Settles (left - 1), tt, refl)
  rest_many (Frees left) fact = (Frees (left - 1), tt, refl)
  rest_many (Once line) fact = absurd fact
  rest_many (Storms words) fact = absurd fact

  -- what is left of the tasks after a row
  ahead_row : (rows : List (Row M O)) (row : Row M O) (prefix : List (Task O)) (many : Task O) (back : List (Task O)) → IsMany many → Holds rows ⊎ Among (Once line) prefix → MayAdd s rows (prefix ++ many ∷ back) row
      → IsAhead (rows ++ row ∷ []) (rest_of_all (prefix ++ many ∷ back))
  ahead_row rows row [] many back fact (inr none) may = absurd none
  ahead_row rows row [] many back fact (inl held) may =
      let r = rest_many many fact in
      record { prefix = []; many = r.0; back = back; is_many = r.1; tasks_are = ap (λ l. l ++ back) r.2; holds = inl (stays rows row held) }
  ahead_row rows row (task ∷ prefix) many back fact holds may = record {
    prefix = rest_of_task task ++ prefix;
    many = many;
    back = back;
    is_many = fact;
    tasks_are = sym (append_assoc (rest_of_task task) prefix (many ∷ back));
    holds = still holds may;
  }
    where
      first_done : (first : Task O) → first ≡ Once line → MayAdd s rows (first ∷ prefix ++ many ∷ back) row → Holds (rows ++ row ∷ [])
      first_done first same may' = done rows row (prefix ++ many ∷ back) (subst (λ (x : Task O). MayAdd s rows (x ∷ prefix ++ many ∷ back) row) same may')

      still : Holds rows ⊎ Among (Once line) (task ∷ prefix) → MayAdd s rows (task ∷ prefix ++ many ∷ back) row → Holds (rows ++ row ∷ []) ⊎ Among (Once line) (rest_of_task task ++ prefix)
      still (inl held) may' = inl (stays rows row held)
      still (inr (inl same)) may' = inl (first_done task same may')
      still (inr (inr a)) may' = inr (among_right s.words line once (rest_of_task task) prefix a)

  -- ---- whole journals

  abbrev Stage : List (Row M O) → Type 0
  Stage rows = unsettled s lines rows ≡ false → IsAhead rows (place_after s lines rows).tasks ⊎ WasQuiet rows

  now_quiet : (rows : List (Row M O)) → (is_quiet s rows ≡ true) × Holds rows → WasQuiet rows
  now_quiet rows q = record { before = rows; after = []; rows_are = sym (append-nil rows); quiet = q.0; held = q.1 }

  stage_by : (rows : List (Row M O)) (row : Row M O) → IsLawful s lines (rows ++ row ∷ []) → unsettled s lines (rows ++ row ∷ []) ≡ false → IsAhead rows (place_after s lines rows).tasks ⊎ WasQuiet rows
      → IsAhead (rows ++ row ∷ []) (place_after s lines (rows ++ row ∷ [])).tasks ⊎ WasQuiet (rows ++ row ∷ [])
  stage_by rows row lawful settled (inr was) = inr (record { before = was.before; after = was.after ++ row ∷ []; rows_are = ap (λ l. l ++ row ∷ []) was.rows_are ∙ append_assoc was.before was.after (row ∷ []); quiet = was.quiet; held = was.held })
  stage_by rows row lawful settled (inl a) =
      let place = place_after s lines rows in
      let may : MayAdd s rows (a.prefix ++ a.many ∷ a.back) row = subst (λ tasks. MayAdd s rows tasks row) a.tasks_are (lawful-last s lines rows row lawful) in
      let left = ahead_row rows row a.prefix a.many a.back a.is_many a.holds may in
      let step : place_after s lines (rows ++ row ∷ []) ≡ after_row s place row = fold-append (after_row s) _ rows (row ∷ []) in
      let there : place.rows ≡ rows = place_after-rows s lines rows in
      let rest : rest_of_all place.tasks ≡ left.prefix ++ left.many ∷ left.back = ap rest_of_all a.tasks_are ∙ left.tasks_are in
      let same : place_after s lines (rows ++ row ∷ []) ≡ onward s (rows ++ row ∷ []) (left.prefix ++ left.many ∷ left.back) place.skipped place.unsettled =
      step ∙ (ap (λ xs. onward s (xs ++ row ∷ []) (rest_of_all place.tasks) place.skipped place.unsettled) there ∙ ap (λ tasks. onward s (rows ++ row ∷ []) tasks place.skipped place.unsettled) rest) in
      let ends = ap (λ (p : WalkPlace M O). p.unsettled) (sym same) ∙ settled in
      elim (passes (rows ++ row ∷ []) (over (rows ++ row ∷ []) lawful settled) left.prefix left.many left.back place.skipped place.unsettled left.is_many left.holds ends) [
        | inl ahead ↦ inl (subst (λ (p : WalkPlace M O). IsAhead (rows ++ row ∷ []) p.tasks) (sym same) ahead)
        | inr q ↦ inr (now_quiet (rows ++ row ∷ []) q)
      ]

  stage_row : (rows : List (Row M O)) (row : Row M O) → IsLawful s lines (rows ++ row ∷ []) → Stage rows → Stage (rows ++ row ∷ [])
  stage_row rows row lawful now settled = stage_by rows row lawful settled (now (uncut_before s lines rows (row ∷ []) settled))

  -- the tasks of lines with this one among them, and of a line of many deliveries behind them
  lines_ahead : (prefix back : List (Line O)) (many : Line O) → Among line prefix → IsManyLine many → IsAhead [] (flat_map (tasks_of s.words) (prefix ++ many ∷ back))
  lines_ahead prefix back many a fact =
      let d = many_task s.words many fact in
      record {
        prefix = flat_map (tasks_of s.words) prefix;
        many = d.0;
        back = flat_map (tasks_of s.words) back;
        is_many = d.1;
        tasks_are = flat_append (tasks_of s.words) prefix (many ∷ back) ∙ ap (λ l. flat_map (tasks_of s.words) prefix ++ (l ++ flat_map (tasks_of s.words) back)) d.2;
        holds = inr (among_tasks s.words line once prefix a);
      }

  -- a whole journal of such lines was quiet when what the line brings about held
  pub was_quiet : (prefix back : List (Line O)) (many : Line O) → lines ≡ prefix ++ many ∷ back → Among line prefix → IsManyLine many → (journal : List (Row M O)) → IsLawful s lines journal → unsettled s lines journal ≡ false → IsWhole s lines journal
      → WasQuiet journal
  was_quiet prefix back many are among fact journal lawful settled whole =
      let a : IsAhead [] (flat_map (tasks_of s.words) lines) = subst (λ l. IsAhead [] (flat_map (tasks_of s.words) l)) (sym are) (lines_ahead prefix back many among fact) in
      let same : place_after s lines [] ≡ onward s [] (a.prefix ++ a.many ∷ a.back) 0 false = ap (λ tasks. onward s [] tasks 0 false) a.tasks_are in
      let begins : Stage [] = λ none. (
      let ends = ap (λ (p : WalkPlace M O). p.unsettled) (sym same) ∙ none in
      elim (passes [] (over [] tt none) a.prefix a.many a.back 0 false a.is_many a.holds ends) [ inl ahead ↦ inl (subst (λ (p : WalkPlace M O). IsAhead [] p.tasks) (sym same) ahead) | inr q ↦ inr (now_quiet [] q) ]) in
      elim (by_rows s lines Stage begins stage_row journal lawful settled) [
        | inr was ↦ was
        | inl ahead ↦ absurd (never ahead.prefix ahead.many ahead.back (sym ahead.tasks_are ∙ whole))
      ]
    where
      never : (prefix : List (Task O)) (many : Task O) (back : List (Task O)) → prefix ++ many ∷ back ≡ [] → ⊥
      never [] many back e = cc
      never (x ∷ prefix) many back e = cc
