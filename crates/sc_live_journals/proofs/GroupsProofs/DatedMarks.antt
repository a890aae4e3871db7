-- Each row that comes in time takes and puts marks with their slots, as it does marks.
use Rattle.std.proofs.Common.{◌≡◌, ℕ, List, [], ◌∷◌, ◌++◌, Option, Some, None, refl, sym, ◌∙◌, ap, append_assoc}
use Rattle.std.specs.Option.{option_map}
use Rattle.sc_node_table.specs.Values.{Draw, Base, OrderLine, Mail, Seat, Event, Deliver, Row}
use Rattle.sc_actor.specs.Definitions.{mails, numbered}
use Rattle.sc_live_orderly.specs.OrderlyDefinitions.{AreInTime}
use Rattle.sc_live_orderly.proofs.OrderlyLemmas.{in_time_before, in_time_tidy, last_in_time}
use Rattle.sc_node_table.specs.NodeDefinitions.{listed}
use Rattle.sc_meaning.specs.sound.SoundDefinitions.{Player}
use Rattle.sc_live_steps.specs.calm.CalmDefinitions.{players, Rows}
use Rattle.sc_live_steps.specs.following.FollowingDefinitions.{Dated, from_slot_of, dated_of, dated_for, IsDatedRow, Mark, mark_of, Course}
use Rattle.sc_live_journals.specs.rows.RowDefinitions.{next_in, progress_at, mark_in, taken_mark}
use Rattle.sc_live_journals.specs.groups.GroupDefinitions.{dated_at}
use Rattle.sc_live_journals.proofs.RowsProofs.RowLemmas.{view_others}
use Rattle.sc_live_journals.proofs.RowsProofs.RowMarks.{row_reads}

-- the mark of a mail with its slot, if there is one
abbrev pub dated_in : Draw → Option Mail → Option Dated
dated_in name None = None
dated_in name (Some mail) = option_map (λ mark. (mark, from_slot_of mail.body)) (mark_of name mail.from mail.body)

-- the mark with its slot of the mail that an event delivers
abbrev pub taken_dated : Draw → List Mail → Event OrderLine → Option Dated
taken_dated name sent (Deliver number) = dated_in name (numbered sent number)
taken_dated name sent _ = None

-- it is the mark that is taken
in_same : (name : Draw) (o : Option Mail) → option_map (λ (d : Dated). d.0) (dated_in name o) ≡ mark_in name o
in_same name None = refl
in_same name (Some mail) = by (mark_of name mail.from mail.body)
  where
    by : (o : Option Mark) → option_map (λ (d : Dated). d.0) (option_map (λ mark. (mark, from_slot_of mail.body)) o) ≡ o
    by None = refl
    by (Some mark) = refl

pub taken_same : (name : Draw) (sent : List Mail) (event : Event OrderLine) → option_map (λ (d : Dated). d.0) (taken_dated name sent event) ≡ taken_mark name sent event
taken_same name sent (Deliver number) = in_same name (numbered sent number)
taken_same name sent _ = refl

-- so where a mark is taken, it is with a slot, and else nothing is
pub with_slot : (o : Option Dated) (mark : Mark) → option_map (λ (d : Dated). d.0) o ≡ Some mark → (d : Dated) × (o ≡ Some d) × (d.0 ≡ mark)
with_slot None mark e = cc
with_slot (Some d) mark e = (d, refl, cc)

pub with_none : (o : Option Dated) → option_map (λ (d : Dated). d.0) o ≡ None → o ≡ None
with_none None e = refl
with_none (Some d) e = cc

pub dated-append : (name : Draw) (xs ys : List Mail) → dated_of name (xs ++ ys) ≡ dated_of name xs ++ dated_of name ys
dated-append name [] ys = refl
dated-append name (x ∷ xs) ys = ap (λ l. listed (dated_in name (Some x)) ++ l) (dated-append name xs ys) ∙ sym (append_assoc (listed (dated_in name (Some x))) (dated_of name xs) (dated_of name ys))

pub rows_dated : (words : ℕ → ℕ → ℕ × ℕ) (births : List (Seat Player)) (rows : Rows) (row : Row Mail OrderLine) (base : Base) (now after : Course) → AreInTime (players words births) (rows ++ row ∷ [])
    → IsDatedRow (progress_at births rows base now) (progress_at births (rows ++ row ∷ []) base after) row.who (taken_dated base.core.id (mails rows) row.event) (λ who. dated_for base.core.id who row.sent)
    (dated_at (players words births) rows base.core.id) (dated_at (players words births) (rows ++ row ∷ []) base.core.id)
rows_dated words births rows row base now after timely =
    let name = base.core.id in
    let k =
    row_reads (dated_of name) (dated-append name) words births rows (in_time_tidy (players words births) rows (in_time_before (players words births) rows row timely)) (taken_dated name (mails rows)) (λ number mail left sent. ap (λ o. listed (dated_in name o) ++ dated_of name left) (sym sent)) refl (λ line. refl)
    row (last_in_time (players words births) rows row timely).0 in
    record { left = k.left; takes = k.takes; own = k.own; others = k.others; next = λ who ne. ap (next_in base who) (view_others births rows row name who ne) }
