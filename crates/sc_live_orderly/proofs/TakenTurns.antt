-- A whole journal of a schedule that ends with turns, in which no line was cut off, is made by these turns from a prefix with no mail pending on.
use Rattle.std.proofs.Common.{◌≡◌, ℕ, ◌+◌, ◌-◌, List, [], ◌∷◌, ◌++◌, Bool, true, false, true≢false, ◌||◌, not, refl, sym, ◌∙◌, ap, subst, append_assoc, append-nil, Option, None, Some}
use Rattle.std.specs.Prelude.{is_none}
use Rattle.std.specs.List.{flat_map}
use Rattle.sc_actor.specs.declared.rows.Row.{Row}
use Rattle.sc_actor.specs.declared.schedules.Line.{Line}
use Rattle.sc_actor.specs.declared.schedules.Line.TheVariants.{Settle}
use Rattle.sc_actor.specs.Definitions.{System, Task, Once, Settles, IsLawful, IsWhole, is_over, is_quiet, place_after, tasks_of, line_row, lowest, unsettled}
use Rattle.sc_actor.proofs.Lemmas.{lawful-prefix, lawful-last, Stands, Stands-row, Stands-over, Stands-begin, Stands-ended}
use Rattle.sc_live_orderly.proofs.UncutPrefixes.{onward_cut, uncut_before}
use Rattle.sc_live_orderly.proofs.PassedTasks.{flat_append, more_rows, next_row, reach}
use Rattle.sc_live_orderly.specs.Turns.{Kick, Ticks, Starts, Turn, kick_line, turn_lines, AreDelivered, IsTurn, HasTurns, as_list}

module _ {A M O : Type 0} (s : System A M O) (all : List (Line O)) (journal : List (Row M O)) (lawful : IsLawful s all journal) (whole : IsWhole s all journal) (uncut : unsettled s all journal ≡ false) where
  -- where no line was cut off, a task of deliveries is over only where no mail is pending
  quiet_over : (rows more : List (Row M O)) (left : ℕ) (back : List (Task O)) (k : ℕ) (c : Bool) → journal ≡ rows ++ more → Stands s all rows back k (c || not (is_quiet s rows)) → is_quiet s rows ≡ true
  quiet_over rows more left back k c e stands =
      let now : (place_after s all rows).unsettled ≡ false = uncut_before s all rows more (ap (λ xs. unsettled s all xs) (sym e) ∙ uncut) in
      let none = onward_cut s rows back k (c || not (is_quiet s rows)) (ap (λ place. place.unsettled) (sym stands.place) ∙ now) in
      by c (is_quiet s rows) none
    where
      by : (c b : Bool) → (c || not b) ≡ false → b ≡ true
      by c true e = refl
      by true false e = absurd (true≢false e)
      by false false e = absurd (true≢false e)

  -- the deliveries of a `settle` line, after which these tasks are left
  record Settled (rows : List (Row M O)) (back : List (Task O)) : Type 0 where
    deliveries : List (Row M O)
    more : List (Row M O)
    k : ℕ
    c : Bool
    journal_is : journal ≡ (rows ++ deliveries) ++ more
    delivered : AreDelivered s rows deliveries
    stands : Stands s all (rows ++ deliveries) back k c

  settled_here : (rows more : List (Row M O)) (left : ℕ) (back : List (Task O)) (k : ℕ) (c : Bool) → journal ≡ rows ++ more → Stands s all rows (Settles left ∷ back) k c → is_over s rows (Settles left) ≡ true → Settled rows back
  settled_here rows more left back k c e stands over =
      let past = Stands-over s all rows (Settles left) back k c stands over in
      let none = sym (append-nil rows) in
      record {
        deliveries = [];
        more = more;
        k = k + 0;
        c = c || not (is_quiet s rows);
        journal_is = e ∙ ap (λ xs. xs ++ more) none;
        delivered = quiet_over rows more left back (k + 0) c e past;
        stands = subst (λ xs. Stands s all xs back (k + 0) (c || not (is_quiet s rows))) none past;
      }

  settle : (more rows : List (Row M O)) (left : ℕ) (back : List (Task O)) (k : ℕ) (c : Bool) → journal ≡ rows ++ more → Stands s all rows (Settles left ∷ back) k c → Settled rows back
  settle [] rows left back k c e stands = by (is_over s rows (Settles left)) refl
    where
      by : (b : Bool) → is_over s rows (Settles left) ≡ b → Settled rows back
      by true over = settled_here rows [] left back k c e stands over
      by false open_ = absurd (more_rows s all journal lawful whole rows (Settles left) back k c e stands open_)
  settle (row ∷ more) rows left back k c e stands = by (is_over s rows (Settles left)) refl (settle more (rows ++ row ∷ []) (left - 1) back k c (e ∙ sym (append_assoc rows (row ∷ []) more)))
    where
      by : (b : Bool) → is_over s rows (Settles left) ≡ b → (Stands s all (rows ++ row ∷ []) (Settles (left - 1) ∷ back) k c → Settled (rows ++ row ∷ []) back) → Settled rows back
      by true over again = settled_here rows (row ∷ more) left back k c e stands over
      by false open_ again =
          let allowed : lowest s rows ≡ Some row = next_row s all journal lawful whole rows row more (Settles left) back k c e stands open_ in
          let rest = again (Stands-row s all rows (Settles left) back k c row stands open_ allowed) in
          let one = append_assoc rows (row ∷ []) rest.deliveries in
          record {
            deliveries = row ∷ rest.deliveries;
            more = rest.more;
            k = rest.k;
            c = rest.c;
            journal_is = rest.journal_is ∙ ap (λ xs. xs ++ rest.more) one;
            delivered = (allowed, rest.delivered);
            stands = subst (λ xs. Stands s all xs back rest.k rest.c) one rest.stands;
          }

  -- after the last delivery no mail is pending
  quiet_after : (rows deliveries : List (Row M O)) → AreDelivered s rows deliveries → is_quiet s (rows ++ deliveries) ≡ true
  quiet_after rows [] d = ap (λ xs. is_quiet s xs) (append-nil rows) ∙ d
  quiet_after rows (row ∷ more) d = ap (λ xs. is_quiet s xs) (sym (append_assoc rows (row ∷ []) more)) ∙ quiet_after (rows ++ row ∷ []) more d.1

  -- the tasks of turns
  abbrev pub turn_tasks : List Turn → List (Task O)
  turn_tasks turns = flat_map (tasks_of s.words) (flat_map (turn_lines {O = O}) turns)

  -- a turn's line, by what the walk asks of it
  is_none_over : (o : Option (Row M O)) → is_none o ≡ true → o ≡ None
  is_none_over None e = refl
  is_none_over (Some row) e = absurd (true≢false (sym e))

  module _ (turn : Turn) (turns : List Turn) (again : (rows more : List (Row M O)) (k : ℕ) (c : Bool) → is_quiet s rows ≡ true → journal ≡ rows ++ more → Stands s all rows (turn_tasks turns) k c → HasTurns s rows turns journal) where
    -- the deliveries of the turn, and the turns that follow
    after_first : (rows more : List (Row M O)) (first : Option (Row M O)) (k : ℕ) (c : Bool) → is_quiet s rows ≡ true → line_row s rows (kick_line turn.kick turn.who) ≡ first
        → journal ≡ (rows ++ as_list first) ++ more → Stands s all (rows ++ as_list first) (Settles turn.most ∷ turn_tasks turns) k c → HasTurns s rows (turn ∷ turns) journal
    after_first rows more first k c quiet fact e stands =
        let end = settle more (rows ++ as_list first) turn.most (turn_tasks turns) k c e stands in
        let one : IsTurn s rows turn ((rows ++ as_list first) ++ end.deliveries) = record { quiet = quiet; first = first; first_is = fact; deliveries = end.deliveries; delivered = end.delivered; after_is = refl } in (
          (rows ++ as_list first) ++ end.deliveries,
          one,
          again ((rows ++ as_list first) ++ end.deliveries) end.more end.k end.c (quiet_after (rows ++ as_list first) end.deliveries end.delivered) end.journal_is end.stands,
        )

    -- a line that is skipped
    skipped_first : (rows more : List (Row M O)) (k : ℕ) (c : Bool) → is_quiet s rows ≡ true → line_row s rows (kick_line turn.kick turn.who) ≡ None → journal ≡ rows ++ more → Stands s all rows (Settles turn.most ∷ turn_tasks turns) k c → HasTurns s rows (turn ∷ turns) journal
    skipped_first rows more k c quiet fact e stands =
        let none = sym (append-nil rows) in
        after_first rows more None k c quiet fact (e ∙ ap (λ xs. xs ++ more) none) (subst (λ xs. Stands s all xs (Settles turn.most ∷ turn_tasks turns) k c) none stands)

    from_line : (rows more : List (Row M O)) (k : ℕ) (c : Bool) (line : Line O) → is_quiet s rows ≡ true → kick_line turn.kick turn.who ≡ line → journal ≡ rows ++ more
        → Stands s all rows (Once line ∷ Settles turn.most ∷ turn_tasks turns) k c → HasTurns s rows (turn ∷ turns) journal
    from_line rows more k c line quiet same e stands = by (is_over s rows (Once line)) refl more e
      where
        by : (b : Bool) → is_over s rows (Once line) ≡ b → (more : List (Row M O)) → journal ≡ rows ++ more → HasTurns s rows (turn ∷ turns) journal
        by true over more e =
            let none : line_row s rows (kick_line turn.kick turn.who) ≡ None = ap (λ l. line_row s rows l) same ∙ is_none_over (line_row s rows line) over in
            skipped_first rows more (k + 1) (c || false) quiet none e (Stands-over s all rows (Once line) (Settles turn.most ∷ turn_tasks turns) k c stands over)
        by false open_ [] e = absurd (more_rows s all journal lawful whole rows (Once line) (Settles turn.most ∷ turn_tasks turns) k c e stands open_)
        by false open_ (row ∷ more) e =
            let allowed : line_row s rows line ≡ Some row = next_row s all journal lawful whole rows row more (Once line) (Settles turn.most ∷ turn_tasks turns) k c e stands open_ in
            after_first rows more (Some row) k c quiet (ap (λ l. line_row s rows l) same ∙ allowed) (e ∙ sym (append_assoc rows (row ∷ []) more))
            (Stands-row s all rows (Once line) (Settles turn.most ∷ turn_tasks turns) k c row stands open_ allowed)

  pub turns_from : (turns : List Turn) (rows more : List (Row M O)) (k : ℕ) (c : Bool) → is_quiet s rows ≡ true → journal ≡ rows ++ more → Stands s all rows (turn_tasks turns) k c → HasTurns s rows turns journal
  turns_from [] rows [] k c quiet e stands = (quiet, sym (append-nil rows) ∙ sym e)
  turns_from [] rows (row ∷ more) k c quiet e stands =
      let first = lawful-prefix s all (rows ++ row ∷ []) more (subst (λ xs. IsLawful s all xs) (e ∙ sym (append_assoc rows (row ∷ []) more)) lawful) in
      absurd (Stands-ended s all rows k c row stands (lawful-last s all rows row first))
  turns_from (turn ∷ turns) rows more k c quiet e stands = by turn.kick refl (turns_from turns)
    where
      by : (kick : Kick) → turn.kick ≡ kick → ((rows more : List (Row M O)) (k : ℕ) (c : Bool) → is_quiet s rows ≡ true → journal ≡ rows ++ more → Stands s all rows (turn_tasks turns) k c → HasTurns s rows turns journal) → HasTurns s rows (turn ∷ turns) journal
      by Ticks same again = from_line turn turns again rows more k c (kick_line Ticks turn.who) quiet (ap (λ x. kick_line x turn.who) same) e (subst (λ x. Stands s all rows (tasks_of s.words (kick_line {O = O} x turn.who) ++ Settles turn.most ∷ turn_tasks turns) k c) same stands)
      by Starts same again = from_line turn turns again rows more k c (kick_line Starts turn.who) quiet (ap (λ x. kick_line x turn.who) same) e (subst (λ x. Stands s all rows (tasks_of s.words (kick_line {O = O} x turn.who) ++ Settles turn.most ∷ turn_tasks turns) k c) same stands)

-- the turns of the schedule, from a prefix with no mail pending on
pub turns_taken : {A M O : Type 0} (s : System A M O) (lines : List (Line O)) (most : ℕ) (turns : List Turn) (journal : List (Row M O)) →
    IsLawful s (lines ++ Settle most ∷ flat_map turn_lines turns) journal
    → IsWhole s (lines ++ Settle most ∷ flat_map turn_lines turns) journal
    → unsettled s (lines ++ Settle most ∷ flat_map turn_lines turns) journal ≡ false
    → (before : List (Row M O)) × HasTurns s before turns journal
turns_taken s lines most turns journal lawful whole uncut =
    let all = lines ++ Settle most ∷ flat_map turn_lines turns in
    let back = turn_tasks s all journal lawful whole uncut turns in
    let begins = subst (λ tasks. Stands s all [] tasks 0 false) (flat_append (tasks_of s.words) lines (Settle most ∷ flat_map turn_lines turns)) (Stands-begin s all) in
    let at = reach s all journal lawful whole (Settles most ∷ back) journal [] (flat_map (tasks_of s.words) lines) 0 false refl begins in
    let end = settle s all journal lawful whole uncut at.more at.rows most back at.k at.c at.journal_is at.stands in
    (at.rows ++ end.deliveries, turns_from s all journal lawful whole uncut turns (at.rows ++ end.deliveries) end.more end.k end.c (quiet_after s all journal lawful whole uncut at.rows end.deliveries end.delivered) end.journal_is end.stands)
