-- A journal of plain lines ends quiet where the last line alone has room for what is owed, whatever lines before it were cut off.
use Rattle.std.proofs.Common.{◌≡◌, ℕ, zero, suc, ◌+◌, ◌-◌, ◌≤◌, List, [], ◌∷◌, ◌++◌, Bool, true, false, true≢false, eqb, ◌||◌, refl, sym, ◌∙◌, ap, subst, arith, append_assoc, append-nil}
use Rattle.std.specs.List.{flat_map}
use Rattle.std.proofs.lemmas.Bool.{ne_eqb}
use Rattle.sc_base.specs.Definitions.{Each}
use Rattle.sc_actor.specs.declared.rows.Row.{Row}
use Rattle.sc_actor.specs.declared.schedules.Line.{Line}
use Rattle.sc_actor.specs.declared.schedules.Line.TheVariants.{Settle, Free}
use Rattle.sc_actor.specs.Definitions.{mails, is_delivery, System, Task, Settles, Frees, Allows, IsLawful, IsWhole, is_over, is_quiet, cuts, skips, rest_of_task, tasks_of}
use Rattle.sc_actor.proofs.Lemmas.{lawful-prefix, lawful-last, Stands, Stands-row, Stands-over, Stands-begin, Stands-ended}
use Rattle.sc_live_orderly.specs.OrderlyDefinitions.{IsPlainLine, deliveries, Owing, owed, owed_at_birth, HasRoom}
use Rattle.sc_live_orderly.proofs.PassedLines.{IsManyLine}
use Rattle.sc_live_orderly.proofs.PassedTasks.{flat_append, more_rows, next_row, reach}
use Rattle.sc_live_orderly.proofs.PotentialBounds.{count_push}
use Rattle.sc_live_orderly.proofs.QuietLineEnds.{delivery-event, free-event, pending_owes}

module _ {A M O : Type 0} (s : System A M O) (owing : Owing A M) (lines : List (Line O)) (plain : Each IsPlainLine lines) (bounded : (rows : List (Row M O)) → IsLawful s lines rows → deliveries rows + owed s owing rows ≤ owed_at_birth s owing)
    (owes : (rows : List (Row M O)) → IsLawful s lines rows → Each (λ mail. 1 ≤ owing.mail mail) (mails rows)) (journal : List (Row M O)) (lawful : IsLawful s lines journal) (whole : IsWhole s lines journal) where
  abbrev total : ℕ
  total = owed_at_birth s owing

  -- the first rows of the journal are lawful
  first_lawful : (rows more : List (Row M O)) → journal ≡ rows ++ more → IsLawful s lines rows
  first_lawful rows more e = lawful-prefix s lines rows more (subst (λ xs. IsLawful s lines xs) e lawful)

  -- where the last task is passed no row follows
  none_follow : (rows more : List (Row M O)) (k : ℕ) (c : Bool) → journal ≡ rows ++ more → Stands s lines rows [] k c → journal ≡ rows
  none_follow rows [] k c e stands = e ∙ append-nil rows
  none_follow rows (row ∷ more) k c e stands =
      absurd (Stands-ended s lines rows k c row stands (lawful-last s lines rows row (first_lawful (rows ++ row ∷ []) more (e ∙ sym (append_assoc rows (row ∷ []) more)))))

  -- a task of deliveries, with how many it may still make
  abbrev ManyTask : (ℕ → Task O) → Type 0
  ManyTask many = (left : ℕ) → (rows : List (Row M O)) → (is_over s rows (many left) ≡ (eqb left 0 || is_quiet s rows)) × (rest_of_task (many left) ≡ many (left - 1) ∷ [])
      × ((row : Row M O) → Allows s rows (many left) row → is_delivery row.event ≡ true)

  module _ (many : ℕ → Task O) (is_many : ManyTask many) where
    -- a task with room is over only where it is quiet
    quiet_at : (rows more : List (Row M O)) (left : ℕ) → journal ≡ rows ++ more → total ≤ left + deliveries rows → (eqb left 0 || is_quiet s rows) ≡ true → is_quiet s rows ≡ true
    quiet_at rows more left e room over = by left (is_quiet s rows) refl room over
      where
        by : (left : ℕ) (b : Bool) → is_quiet s rows ≡ b → total ≤ left + deliveries rows → (eqb left 0 || b) ≡ true → b ≡ true
        by left true q room' over' = refl
        by zero false q room' over' = let some = pending_owes s owing lines plain bounded owes rows (first_lawful rows more e) q in absurd (omega (arith, some, room'))
        by (suc left) false q room' over' = absurd (true≢false (sym over' ∙ ap (λ b. b || false) (ne_eqb (suc left) 0 (λ z. absurd (omega (arith, z))))))

    over_quiet : (rows more : List (Row M O)) (left : ℕ) (k : ℕ) (c : Bool) → journal ≡ rows ++ more → Stands s lines rows (many left ∷ []) k c → total ≤ left + deliveries rows → is_over s rows (many left) ≡ true → is_quiet s journal ≡ true
    over_quiet rows more left k c e stands room over =
        let past = Stands-over s lines rows (many left) [] k c stands over in
        ap (λ xs. is_quiet s xs) (none_follow rows more (k + skips (many left)) (c || cuts s rows (many left)) e past) ∙ quiet_at rows more left e room (sym (is_many left rows).0 ∙ over)

    some_left : (left : ℕ) (b : Bool) → (eqb left 0 || b) ≡ false → 1 ≤ left
    some_left zero b e = absurd (true≢false e)
    some_left (suc left) b e = omega arith

    ends : (more rows : List (Row M O)) (left : ℕ) (k : ℕ) (c : Bool) → journal ≡ rows ++ more → Stands s lines rows (many left ∷ []) k c → total ≤ left + deliveries rows → is_quiet s journal ≡ true
    ends [] rows left k c e stands room = by (is_over s rows (many left)) refl
      where
        by : (b : Bool) → is_over s rows (many left) ≡ b → is_quiet s journal ≡ true
        by true over = over_quiet rows [] left k c e stands room over
        by false open_ = absurd (more_rows s lines journal lawful whole rows (many left) [] k c e stands open_)
    ends (row ∷ more) rows left k c e stands room = by (is_over s rows (many left)) refl (ends more (rows ++ row ∷ []) (left - 1) k c (e ∙ sym (append_assoc rows (row ∷ []) more)))
      where
        by : (b : Bool) → is_over s rows (many left) ≡ b → (Stands s lines (rows ++ row ∷ []) (many (left - 1) ∷ []) k c → total ≤ left - 1 + deliveries (rows ++ row ∷ []) → is_quiet s journal ≡ true) → is_quiet s journal ≡ true
        by true over again = over_quiet rows (row ∷ more) left k c e stands room over
        by false open_ again =
            let allowed = next_row s lines journal lawful whole rows row more (many left) [] k c e stands open_ in
            let next = Stands-row s lines rows (many left) [] k c row stands open_ allowed in
            let count = count_push (λ (r : Row M O). is_delivery r.event) rows row true ((is_many left rows).2 row allowed) in
            let some = some_left left (is_quiet s rows) (sym (is_many left rows).0 ∙ open_) in
            again (subst (λ tasks. Stands s lines (rows ++ row ∷ []) (tasks ++ []) k c) (is_many left rows).1 next) (omega (arith, count, some, room))

  settles_many : ManyTask (λ left. Settles left)
  settles_many = λ left rows. (refl, refl, λ row e. delivery-event s rows left row e)

  frees_many : ManyTask (λ left. Frees left)
  frees_many = λ left rows. (refl, refl, λ row e. free-event s rows left row e)

  module _ (before : List (Line O)) where
    -- the walk comes to the last task
    at_last : (many : ℕ → Task O) → ManyTask many → (most : ℕ) (last : Line O) → tasks_of s.words last ≡ many most ∷ [] → lines ≡ before ++ last ∷ [] → total ≤ most → is_quiet s journal ≡ true
    at_last many is_many most last tasks are room =
        let all : flat_map (tasks_of s.words) lines ≡ flat_map (tasks_of s.words) before ++ many most ∷ [] =
        ap (λ ls. flat_map (tasks_of s.words) ls) are ∙ (flat_append (tasks_of s.words) before (last ∷ []) ∙ ap (λ ts. flat_map (tasks_of s.words) before ++ (ts ++ [])) tasks) in
        let begins = subst (λ ts. Stands s lines [] ts 0 false) all (Stands-begin s lines) in
        let at = reach s lines journal lawful whole (many most ∷ []) journal [] (flat_map (tasks_of s.words) before) 0 false refl begins in
        ends many is_many at.more at.rows most at.k at.c at.journal_is at.stands (omega (arith, room))

    -- where the last line is one of deliveries that has room for what is owed at birth, the whole journal ends quiet
    pub ends_quiet_at_last : (last : Line O) → IsManyLine last → lines ≡ before ++ last ∷ [] → HasRoom (owed_at_birth s owing) last → is_quiet s journal ≡ true
    ends_quiet_at_last (Settle most) fact are room = at_last (λ left. Settles left) settles_many most (Settle most) refl are room
    ends_quiet_at_last (Free most workers) fact are room = at_last (λ left. Frees left) frees_many most (Free most workers) refl are room
    ends_quiet_at_last _ fact are room = absurd fact
