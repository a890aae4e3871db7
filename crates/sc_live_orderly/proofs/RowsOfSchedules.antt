-- A plain schedule allows only rows that come in order, and a calm one only calm rows.
use Rattle.std.proofs.Common.{◌≡◌, ℕ, List, [], ◌∷◌, ◌++◌, Bool, false, eqb, find, fold, sym, ◌∙◌, ap, subst, append_assoc, append-nil, None, Some}
use Rattle.std.specs.List.{flat_map}
use Rattle.std.proofs.lemmas.Bool.{cond_both}
use Rattle.std.proofs.lemmas.Option.{same_Some}
use Rattle.sc_base.specs.Definitions.{Each}
use Rattle.sc_base.proofs.Lemmas.{and_then-some, map-some}
use Rattle.sc_actor.specs.declared.rows.Row.{Row}
use Rattle.sc_actor.specs.declared.rows.Event.{Event}
use Rattle.sc_actor.specs.declared.rows.Event.TheVariants.{Deliver, Go, Told}
use Rattle.sc_actor.specs.declared.schedules.Line.{Line}
use Rattle.sc_actor.specs.declared.schedules.Line.TheVariants.{Go as GoLine, Deliver as DeliverLine, Drop as DropLine, Again as AgainLine, Tick as TickLine, Crash as CrashLine, Told as ToldLine, Settle, Free, Storm}
use Rattle.sc_actor.specs.Definitions.{mails, numbered, has_crashed, System, acts, row_of, waiting, kth, has_started, Task, Once, Settles, Frees, Storms, WalkPlace, Allows, MayAdd, IsLawful, onward, is_over, after_row, place_after, rest_of_all, tasks_of, delivery}
use Rattle.sc_actor.proofs.Lemmas.{find-who, first_is, lawful-prefix, lawful-last, unless-some}
use Rattle.sc_live_orderly.specs.OrderlyDefinitions.{IsPlainLine, IsCalmLine, IsInOrder, IsOrderly, IsCalmEvent, IsCalmRow}

pub Each-append : {X : Type 0} (P : X → Type 0) (xs ys : List X) → Each P xs → Each P ys → Each P (xs ++ ys)
Each-append P [] ys e f = f
Each-append P (x ∷ xs) ys e f = (e.0, Each-append P xs ys e.1 f)

-- a plain line is a calm one
pub plain_is_calm : {O : Type 0} (line : Line O) → IsPlainLine line → IsCalmLine line
plain_is_calm (GoLine who) p = tt
plain_is_calm (Settle most) p = tt
plain_is_calm (Free most workers) p = tt
plain_is_calm (DeliverLine who k) p = p
plain_is_calm _ p = absurd p

pub plain_are_calm : {O : Type 0} (lines : List (Line O)) → Each IsPlainLine lines → Each IsCalmLine lines
plain_are_calm [] p = tt
plain_are_calm (line ∷ lines) p = (plain_is_calm line p.0, plain_are_calm lines p.1)

-- ---- tasks

-- a task of a line that is of these, or of many deliveries
abbrev pub IsTaskOf : {O : Type 0} → (Line O → Type 0) → Task O → Type 0
IsTaskOf P (Once line) = P line
IsTaskOf P (Settles left) = Unit {0}
IsTaskOf P (Frees left) = Unit {0}
IsTaskOf P (Storms words) = ⊥

module _ {O : Type 0} (P : Line O → Type 0) (calm : (line : Line O) → P line → IsCalmLine line) where
  line_tasks : (words : ℕ → ℕ → ℕ × ℕ) (line : Line O) → P line → Each (IsTaskOf P) (tasks_of words line)
  line_tasks words (Settle most) p = (tt, tt)
  line_tasks words (Free most workers) p = (tt, tt)
  line_tasks words (Storm number most) p = absurd (calm (Storm number most) p)
  line_tasks words _ p = (p, tt)

  lines_tasks : (words : ℕ → ℕ → ℕ × ℕ) (lines : List (Line O)) → Each P lines → Each (IsTaskOf P) (flat_map (tasks_of words) lines)
  lines_tasks words [] p = tt
  lines_tasks words (line ∷ lines) p = Each-append (IsTaskOf P) (tasks_of words line) (flat_map (tasks_of words) lines) (line_tasks words line p.0) (lines_tasks words lines p.1)

  rest_tasks : (tasks : List (Task O)) → Each (IsTaskOf P) tasks → Each (IsTaskOf P) (rest_of_all tasks)
  rest_tasks [] p = tt
  rest_tasks (Once line ∷ tasks) p = p.1
  rest_tasks (Settles left ∷ tasks) p = (tt, p.1)
  rest_tasks (Frees left ∷ tasks) p = (tt, p.1)
  rest_tasks (Storms words ∷ tasks) p = p.1

  module _ {A M : Type 0} (s : System A M O) where
    onward_tasks : (rows : List (Row M O)) (tasks : List (Task O)) (skipped : ℕ) (unsettled : Bool) → Each (IsTaskOf P) tasks → Each (IsTaskOf P) (onward s rows tasks skipped unsettled).tasks
    onward_tasks rows [] skipped unsettled p = tt
    onward_tasks rows (task ∷ tasks) skipped unsettled p =
        cond_both (is_over s rows task) _ _ (λ (place : WalkPlace M O). Each (IsTaskOf P) place.tasks) (λ _. onward_tasks rows tasks _ _ p.1) (λ _. p)

    walk_tasks : (place : WalkPlace M O) (rows : List (Row M O)) → Each (IsTaskOf P) place.tasks → Each (IsTaskOf P) (fold (after_row s) place rows).tasks
    walk_tasks place [] p = p
    walk_tasks place (row ∷ rows) p = walk_tasks (after_row s place row) rows (onward_tasks (place.rows ++ row ∷ []) (rest_of_all place.tasks) place.skipped place.unsettled (rest_tasks place.tasks p))

    -- the tasks that are left after some rows are of such lines
    pub tasks_after : (lines : List (Line O)) (rows : List (Row M O)) → Each P lines → Each (IsTaskOf P) (place_after s lines rows).tasks
    tasks_after lines rows p = walk_tasks _ rows (onward_tasks [] (flat_map (tasks_of s.words) lines) 0 false (lines_tasks s.words lines p))

module _ {A M O : Type 0} (s : System A M O) where
  -- ---- rows

  module _ (rows : List (Row M O)) where
    acts_orderly : (who : ℕ) (event : Event O) (row : Row M O) → IsInOrder s rows who event → acts s rows who event ≡ Some row → IsOrderly s rows row
    acts_orderly who event row fine e =
        let m = map-some (λ seat. row_of s.table seat rows event) (find (λ seat. eqb seat.who who) s.births) row e in
        let number = find-who s.births who m.0 m.1 in
        record {
          seat = m.0;
          born = rw number m.1;
          event = event;
          row_is = sym m.2;
          in_order = subst (λ w. IsInOrder s rows w event) (sym number) fine;
        }

    allows_orderly : (task : Task O) (row : Row M O) → IsTaskOf IsPlainLine task → Allows s rows task row → IsOrderly s rows row
    allows_orderly (Once (GoLine who)) row p e = let q = unless-some (has_started rows who) (acts s rows who Go) row e in acts_orderly who Go row q.0 q.1
    allows_orderly (Once (Settle most)) row p e = cc
    allows_orderly (Once (Free most workers)) row p e = cc
    allows_orderly (Once (DeliverLine who k)) row p e =
        let q = and_then-some (λ mail. acts s rows who (Deliver mail)) (kth (waiting s rows (Some who)) k) row e in
        acts_orderly who (Deliver q.0) row (subst (λ (n : ℕ). kth (waiting s rows (Some who)) n ≡ Some q.0) p q.1) q.2
    allows_orderly (Once (DropLine who k)) row p e = absurd p
    allows_orderly (Once (AgainLine mail)) row p e = absurd p
    allows_orderly (Once (TickLine who)) row p e = absurd p
    allows_orderly (Once (CrashLine who)) row p e = absurd p
    allows_orderly (Once (ToldLine who order)) row p e = absurd p
    allows_orderly (Once (Storm number most)) row p e = absurd p
    allows_orderly (Settles left) row p e =
        let q = and_then-some (delivery s rows) (kth (waiting s rows None) 1) row e in
        let f = first_is s rows q.0 q.1 in
        let r = and_then-some (λ m. acts s rows (s.receiver m) (Deliver q.0)) (numbered (mails rows) q.0) row q.2 in
        let same : f.0 ≡ r.0 = same_Some f.0 r.0 (sym f.1 ∙ r.1) in
        acts_orderly (s.receiver f.0) (Deliver q.0) row f.3 (ap (λ m. acts s rows (s.receiver m) (Deliver q.0)) same ∙ r.2)
    allows_orderly (Frees left) row p e =
        let q = and_then-some (λ mail. acts s rows row.who (Deliver mail)) (kth (waiting s rows (Some row.who)) 1) row e in
        acts_orderly row.who (Deliver q.0) row q.1 q.2
    allows_orderly (Storms words) row p e = absurd p

    may_add_orderly : (tasks : List (Task O)) (row : Row M O) → Each (IsTaskOf IsPlainLine) tasks → MayAdd s rows tasks row → IsOrderly s rows row
    may_add_orderly [] row p e = absurd e
    may_add_orderly (task ∷ tasks) row p e = allows_orderly task row p.0 e

    -- ---- calm rows

    -- what comes in order is calm
    pub event_is_calm : (who : ℕ) (event : Event O) → IsInOrder s rows who event → IsCalmEvent s rows who event
    event_is_calm who Go fine = fine
    event_is_calm who (Deliver number) fine = fine
    event_is_calm who _ fine = absurd fine

    pub orderly_is_calm : (row : Row M O) → IsOrderly s rows row → IsCalmRow s rows row
    orderly_is_calm row o = record { seat = o.seat; born = o.born; event = o.event; row_is = o.row_is; calm = event_is_calm o.seat.who o.event o.in_order }

    acts_told : (who : ℕ) (order : O) (row : Row M O) → acts s rows who (Told order) ≡ Some row → IsCalmRow s rows row
    acts_told who order row e =
        let m = map-some (λ seat. row_of s.table seat rows (Told order)) (find (λ seat. eqb seat.who who) s.births) row e in
        let number = find-who s.births who m.0 m.1 in
        record { seat = m.0; born = rw number m.1; event = Told order; row_is = sym m.2; calm = tt }

    pub allows_calm : (task : Task O) (row : Row M O) → IsTaskOf IsCalmLine task → Allows s rows task row → IsCalmRow s rows row
    allows_calm (Once (GoLine who)) row p e = orderly_is_calm row (allows_orderly (Once (GoLine who)) row tt e)
    allows_calm (Once (ToldLine who order)) row p e = acts_told who order row (unless-some (has_crashed rows who) (acts s rows who (Told order)) row e).1
    allows_calm (Once (Settle most)) row p e = cc
    allows_calm (Once (Free most workers)) row p e = cc
    allows_calm (Once (DeliverLine who k)) row p e = orderly_is_calm row (allows_orderly (Once (DeliverLine who k)) row p e)
    allows_calm (Once (DropLine who k)) row p e = absurd p
    allows_calm (Once (AgainLine mail)) row p e = absurd p
    allows_calm (Once (TickLine who)) row p e = absurd p
    allows_calm (Once (CrashLine who)) row p e = absurd p
    allows_calm (Once (Storm number most)) row p e = absurd p
    allows_calm (Settles left) row p e = orderly_is_calm row (allows_orderly (Settles left) row tt e)
    allows_calm (Frees left) row p e = orderly_is_calm row (allows_orderly (Frees left) row tt e)
    allows_calm (Storms words) row p e = absurd p

    may_add_calm : (tasks : List (Task O)) (row : Row M O) → Each (IsTaskOf IsCalmLine) tasks → MayAdd s rows tasks row → IsCalmRow s rows row
    may_add_calm [] row p e = absurd e
    may_add_calm (task ∷ tasks) row p e = allows_calm task row p.0 e

  module _ (lines : List (Line O)) where
    -- each row of a lawful journal of plain lines comes in order after those before it
    pub orderly : (rows : List (Row M O)) (row : Row M O) → Each IsPlainLine lines → IsLawful s lines (rows ++ row ∷ []) → IsOrderly s rows row
    orderly rows row plain lawful =
        may_add_orderly rows (place_after s lines rows).tasks row (tasks_after IsPlainLine plain_is_calm s lines rows plain) (lawful-last s lines rows row lawful)

    -- each row of a lawful journal of calm lines is calm after those before it
    pub calm_row : (rows : List (Row M O)) (row : Row M O) → Each IsCalmLine lines → IsLawful s lines (rows ++ row ∷ []) → IsCalmRow s rows row
    calm_row rows row calm lawful =
        may_add_calm rows (place_after s lines rows).tasks row (tasks_after IsCalmLine (λ line p. p) s lines rows calm) (lawful-last s lines rows row lawful)

    -- what holds of the empty journal, and of each lawful journal with one row more, holds of every lawful journal
    pub by_rows : (P : List (Row M O) → Type 0) → P [] → ((rows : List (Row M O)) (row : Row M O) → IsLawful s lines (rows ++ row ∷ []) → P rows → P (rows ++ row ∷ [])) → (journal : List (Row M O)) → IsLawful s lines journal → P journal
    by_rows P none next journal lawful = from [] journal lawful none
      where
        from : (done more : List (Row M O)) → IsLawful s lines (done ++ more) → P done → P (done ++ more)
        from done [] lawful p = subst P (sym (append-nil done)) p
        from done (row ∷ more) lawful p =
            let shift : done ++ row ∷ more ≡ (done ++ row ∷ []) ++ more = sym (append_assoc done (row ∷ []) more) in
            let l = subst (λ xs. IsLawful s lines xs) shift lawful in
            subst P (sym shift) (from (done ++ row ∷ []) more l (next done row (lawful-prefix s lines (done ++ row ∷ []) more l) p))
