-- Each row that comes in time takes the first mark of its receiver, if it takes any, and puts marks behind.
use Rattle.std.proofs.Common.{◌≡◌, ℕ, ◌&&◌, cond, List, [], ◌∷◌, ◌++◌, Option, Some, None, drop, refl, sym, ◌∙◌, ap, subst, append_assoc}
use Rattle.std.proofs.lemmas.Bool.{ne_eqb, eq-eqb}
use Rattle.sc_node_table.specs.Values.{Draw, Base, OrderLine, Mail, Seat, Event, Deliver, Tick, Go, Row}
use Rattle.sc_actor.specs.declared.rows.Event.TheVariants.{Told}
use Rattle.sc_actor.specs.Definitions.{mails, numbered, is_delivery, System, row_of}
use Rattle.sc_live_orderly.specs.OrderlyDefinitions.{IsTidy, IsCalmRow, IsCalmEvent, rest, mail_for, taken}
use Rattle.sc_live_orderly.proofs.OrderlyLemmas.{in_time_before, in_time_tidy, last_in_time, takes_first, is_born-from, rest-calm}
use Rattle.sc_node_table.specs.NodeDefinitions.{listed}
use Rattle.sc_meaning.specs.sound.SoundDefinitions.{Player, player_table}
use Rattle.sc_live_steps.specs.calm.CalmDefinitions.{players, Rows}
use Rattle.sc_live_steps.specs.following.FollowingDefinitions.{Mark, mark_of, marks_of}
use Rattle.sc_live_journals.specs.rows.RowDefinitions.{next_in, promise_in, mark_in, taken_mark, IsSeat, RowsAreOfGroups}
use Rattle.sc_live_journals.proofs.RowsProofs.ReplicaViews.{view_others}

-- a mail with this mark for the group
abbrev pub HasMark : Base → Mail → Mark → Type 0
HasMark base mail mark = mark_of base.core.id mail.from mail.body ≡ Some mark

pub marks-append : (name : Draw) (xs ys : List Mail) → marks_of name (xs ++ ys) ≡ marks_of name xs ++ marks_of name ys
marks-append name [] ys = refl
marks-append name (x ∷ xs) ys = ap (λ l. listed (mark_of name x.from x.body) ++ l) (marks-append name xs ys) ∙ sym (append_assoc (listed (mark_of name x.from x.body)) (marks_of name xs) (marks_of name ys))

pub at_zero : {X : Type 0} (xs : List X) → drop 0 xs ≡ xs
at_zero [] = refl
at_zero (x ∷ xs) = refl

-- what is read off each mail: the marks of a group, or those with their slots
module _ {X : Type 0} (of : List Mail → List X) (of-append : (xs ys : List Mail) → of (xs ++ ys) ≡ of xs ++ of ys) (words : ℕ → ℕ → ℕ × ℕ) (births : List (Seat Player)) (rows : Rows) (tidy : IsTidy rows) where
  abbrev s : System Player Mail OrderLine
  s = players words births

  -- a row takes the first of what is under way to who acts, or nothing, and what it sends comes behind
  pub record IsReadRow (took : Event OrderLine → Option X) (row : Row Mail OrderLine) : Type 0 where
    pub left : List X
    pub takes : of (rest (players words births) rows row.who) ≡ listed (took row.event) ++ left
    pub own : of (rest (players words births) (rows ++ row ∷ []) row.who) ≡ left ++ of (mail_for (players words births) row.who row.sent)
    pub others : (who : ℕ) → (who ≡ row.who → ⊥) → of (rest (players words births) (rows ++ row ∷ []) who) ≡ of (rest (players words births) rows who) ++ of (mail_for (players words births) who row.sent)

  module _ (took : Event OrderLine → Option X) (row : Row Mail OrderLine) (calm : IsCalmRow (players words births) rows row) where
    all_after : (who : ℕ) → of (rest s (rows ++ row ∷ []) who) ≡ of (drop (taken who row) (rest s rows who)) ++ of (mail_for s who row.sent)
    all_after who = ap of (rest-calm s rows row who tidy calm) ∙ of-append (drop (taken who row) (rest s rows who)) (mail_for s who row.sent)

    row_with : (left : List Mail) → of (rest s rows row.who) ≡ listed (took row.event) ++ of left → drop (cond (is_delivery row.event) 1 0) (rest s rows row.who) ≡ left → IsReadRow took row
    row_with left takes e = record {
      left = of left;
      takes = takes;
      own = all_after row.who
          ∙ ap (λ l. of l ++ of (mail_for s row.who row.sent)) (ap (λ b. drop (cond (b && is_delivery row.event) 1 0) (rest s rows row.who)) (eq-eqb row.who row.who refl) ∙ e);
      others = λ who ne. all_after who
          ∙ ap (λ l. of l ++ of (mail_for s who row.sent)) (ap (λ b. drop (cond (b && is_delivery row.event) 1 0) (rest s rows who)) (ne_eqb row.who who (λ e. ne (sym e))) ∙ at_zero (rest s rows who));
    }

  module _ (took : Event OrderLine → Option X) (first : (number : ℕ) (mail : Mail) (left : List Mail) → numbered (mails rows) number ≡ Some mail → of (mail ∷ left) ≡ listed (took (Deliver number)) ++ of left)
      (none_go : took Go ≡ None) (none_told : (line : OrderLine) → took (Told line) ≡ None) where
    read_by : (seat : Seat Player) (event : Event OrderLine) → IsSeat births seat → IsCalmEvent (players words births) rows seat.who event → IsReadRow took (row_of player_table seat rows event)
    read_by seat (Deliver number) born fine =
        let f = takes_first s rows seat.who number tidy (is_born-from s seat.who seat born) fine in
        row_with took (row_of player_table seat rows (Deliver number)) (record { seat = seat; born = born; event = Deliver number; row_is = refl; calm = fine }) f.behind (ap of f.first ∙ first number f.mail f.behind f.sent) (ap (drop 1) f.first ∙ at_zero f.behind)
    read_by seat Go born fine =
        row_with took (row_of player_table seat rows Go) (record { seat = seat; born = born; event = Go; row_is = refl; calm = fine }) (rest s rows seat.who) (ap (λ o. listed o ++ of (rest s rows seat.who)) (sym none_go)) (at_zero (rest s rows seat.who))
    read_by seat (Told line) born fine =
        row_with took (row_of player_table seat rows (Told line)) (record { seat = seat; born = born; event = Told line; row_is = refl; calm = fine }) (rest s rows seat.who) (ap (λ o. listed o ++ of (rest s rows seat.who)) (sym (none_told line))) (at_zero (rest s rows seat.who))
    read_by seat Tick born fine = absurd fine
    read_by seat _ born fine = absurd fine

    pub row_reads : (row : Row Mail OrderLine) → IsCalmRow (players words births) rows row → IsReadRow took row
    row_reads row calm = subst (IsReadRow took) (sym calm.row_is) (read_by calm.seat calm.event calm.born calm.calm)

-- Each row that comes in time is a row of each group: what is delivered is the first of its receiver's mail, what is sent to each comes behind its mail, and the other nodes stay where they are.
pub rows_are : RowsAreOfGroups
rows_are words births rows row base now after timely =
    let name = base.core.id in
    let k =
    row_reads (marks_of name) (marks-append name) words births rows (in_time_tidy (players words births) rows (in_time_before (players words births) rows row timely)) (taken_mark name (mails rows)) (λ number mail left sent. ap (λ o. listed (mark_in name o) ++ marks_of name left) (sym sent)) refl (λ line. refl)
    row (last_in_time (players words births) rows row timely).0 in
    record { left = k.left; takes = k.takes; own = k.own; others = k.others; next = λ who ne. ap (next_in base who) (view_others births rows row name who ne); promise = λ who ne. ap (promise_in base) (view_others births rows row name who ne) }
