-- In a whole journal each actor has started that a line of the schedule tells to go, and after a line of many deliveries behind that one the journal was quiet when it had.
use Rattle.std.proofs.Common.{◌≡◌, ℕ, List, [], ◌∷◌, ◌++◌, Bool, true, false, true≢false, cond, eqb, eq-eqb, ◌&&◌, ◌||◌, find, refl, sym, ◌∙◌, ap, subst, Some, None}
use Rattle.std.specs.Prelude.{is_none}
use Rattle.std.specs.Option.{option_map}
use Rattle.std.proofs.Math.Bool.{or-false}
use Rattle.std.proofs.lemmas.Bool.{or_left, or_right}
use Rattle.std.proofs.lemmas.List.Folds.{list_any-append}
use Rattle.sc_base.specs.Definitions.{Among}
use Rattle.sc_base.proofs.Lemmas.{map-some}
use Rattle.sc_actor.specs.declared.actors.Seat.{Seat}
use Rattle.sc_actor.specs.declared.rows.Row.{Row}
use Rattle.sc_actor.specs.declared.rows.Event.TheVariants.{Go}
use Rattle.sc_actor.specs.declared.schedules.Line.{Line}
use Rattle.sc_actor.specs.declared.schedules.Line.TheVariants.{Go as GoLine}
use Rattle.sc_actor.specs.Definitions.{System, acts, row_of, is_go, has_started, Task, Once, MayAdd, IsLawful, IsWhole, is_over, unsettled}
use Rattle.sc_actor.proofs.Lemmas.{find-who, unless-some}
use Rattle.sc_live_orderly.proofs.PassedLines.{IsManyLine, WasQuiet, was_quiet}
use Rattle.sc_live_orderly.proofs.WholeJournals.{holds_when_whole}

module _ {A M O : Type 0} (s : System A M O) (who : ℕ) (seat : Seat A) (born : find (λ other. eqb other.who who) s.births ≡ Some seat) where
  -- a line that tells it to go is over only where it has gone
  pub gone_over : (rows : List (Row M O)) → is_over s rows (Once (GoLine who)) ≡ true → has_started rows who ≡ true
  gone_over rows over = by (has_started rows who) refl over
    where
      by : (b : Bool) → has_started rows who ≡ b → is_none (cond b None (acts s rows who Go)) ≡ true → has_started rows who ≡ true
      by true e over' = e
      by false e over' =
          (let some : is_none (acts s rows who Go) ≡ false = ap (λ o. is_none (option_map (λ (x : Seat A). row_of s.table x rows Go) o)) born in
          absurd (true≢false (sym over' ∙ some)))

  pub gone_stays : (rows : List (Row M O)) (row : Row M O) → has_started rows who ≡ true → has_started (rows ++ row ∷ []) who ≡ true
  gone_stays rows row gone = list_any-append (λ (r : Row M O). eqb r.who who && is_go r.event) rows (row ∷ []) ∙ or_left (has_started rows who) ((eqb row.who who && is_go row.event) || false) gone

  -- the row of a line that tells it to go
  pub gone_by : (rows : List (Row M O)) (row : Row M O) (tasks : List (Task O)) → MayAdd s rows (Once (GoLine who) ∷ tasks) row → has_started (rows ++ row ∷ []) who ≡ true
  gone_by rows row tasks e =
      let m = map-some (λ (x : Seat A). row_of s.table x rows Go) (find (λ other. eqb other.who who) s.births) row (unless-some (has_started rows who) (acts s rows who Go) row e).1 in
      let number = find-who s.births who m.0 m.1 in
      let acts_ : (eqb row.who who && is_go row.event) ≡ true =
      subst (λ (r : Row M O). (eqb r.who who && is_go r.event) ≡ true) m.2 (ap (λ b. b && true) (eq-eqb m.0.who who number)) in
      list_any-append (λ (r : Row M O). eqb r.who who && is_go r.event) rows (row ∷ [])
      ∙ or_right (has_started rows who) ((eqb row.who who && is_go row.event) || false) (or-false (eqb row.who who && is_go row.event) ∙ acts_)

  -- ---- quiet after it has started

  -- it has started in these rows
  abbrev pub HasGone : List (Row M O) → Type 0
  HasGone rows = has_started rows who ≡ true

  module _ (lines : List (Line O)) where
    -- the journal was quiet after who is to go had gone
    abbrev pub WasQuietStarted : List (Row M O) → Type 0
    WasQuietStarted = WasQuiet s (GoLine who) refl HasGone gone_stays gone_by lines (λ rows lawful settled over. gone_over rows over)

    -- a whole journal of a line that tells it to go, and of a line of many deliveries behind that one
    pub was_quiet_started : (prefix back : List (Line O)) (many : Line O) → lines ≡ prefix ++ many ∷ back → Among (GoLine who) prefix → IsManyLine many
        → (journal : List (Row M O)) → IsLawful s lines journal → unsettled s lines journal ≡ false → IsWhole s lines journal → WasQuietStarted journal
    was_quiet_started = was_quiet s (GoLine who) refl HasGone gone_stays gone_by lines (λ rows lawful settled over. gone_over rows over)

  -- ---- whole journals

  -- in a whole journal of a line that tells it to go it has started
  pub started_when_whole : (lines : List (Line O)) → Among (GoLine who) lines → (journal : List (Row M O)) → IsLawful s lines journal → IsWhole s lines journal → has_started journal who ≡ true
  started_when_whole lines = holds_when_whole s (GoLine who) refl HasGone gone_stays gone_by lines (λ rows lawful over. gone_over rows over)
