-- Nothing is asked for beyond the bound of a group's course, row by row.
use Rattle.sc_live_journals.specs.rows.RowDefinitions.{IsSeat, with_event}
use Rattle.sc_live_journals.proofs.GroupsProofs.PrefixesInTime.{kept_by_all}
use Rattle.std.proofs.Common.{◌≡◌, ℕ, ◌≤◌, eqb, List, [], ◌∷◌, ◌++◌, drop, Option, Some, None, inl, inr, refl, sym, ◌∙◌, ap, subst, arith}
use Rattle.std.proofs.lemmas.Bool.{cond-true, eq-eqb}
use Rattle.sc_base.specs.Definitions.{Among, same_draw}
use Rattle.sc_node_table.specs.Values.{Draw, Base, OrderLine, Mail, MailBody, Accept, Seat, Event, Row}
use Rattle.sc_base.proofs.Lemmas.{same_name}
use Rattle.sc_actor.specs.Definitions.{mails}
use Rattle.sc_actor.proofs.Lemmas.{mails-snoc}
use Rattle.sc_live_orderly.specs.OrderlyDefinitions.{IsCalmEvent, rest, taken, mail_for, AreInTime}
use Rattle.sc_live_orderly.proofs.OrderlyLemmas.{in_time_before, in_time_tidy, last_in_time, rest-calm}
use Rattle.sc_paxos_law.proofs.Lemmas.{Among-left, Among-right}
use Rattle.sc_words.proofs.PaxosProofs.PaxosLemmas.{Among-filter, Each-among, Each-append, Each-from, Each-weaker}
use Rattle.sc_node_table.specs.NodeDefinitions.{listed}
use Rattle.sc_meaning.specs.sound.SoundDefinitions.{Player}
use Rattle.sc_live_steps.specs.calm.CalmDefinitions.{players, Rows}
use Rattle.sc_live_steps.specs.following.FollowingDefinitions.{Mark, Asks, mark_of, marks_of, IsKnown, Course, Sets, SlotLeaders}
use Rattle.sc_live_journals.specs.groups.GroupDefinitions.{IsRowOf, IsGroupRow, RowPasses, RowRests, RowTakes, RowMakes, RowLeads, RowElects, Ends, IsWellLed, RowsKeepTaught, AreWellBorn, HasOneLog, IsSentSo, EventsGoOn}
use Rattle.sc_live_answers.specs.AnswerDefinitions.{AsksBelow, AreAskedBelow, GroupsAreAskedThrough}
use Rattle.sc_live_answers.specs.OfferedSlots.{IsAskedOn}

-- a mail's mark is among those of the mails
mark_among : (name : Draw) (sent : List Mail) (mail : Mail) (mark : Mark) → Among mail sent → mark_of name mail.from mail.body ≡ Some mark → Among mark (marks_of name sent)
mark_among name [] mail mark a e = absurd a
mark_among name (x ∷ sent) mail mark (inl same) e =
    Among-left mark (listed (mark_of name x.from x.body)) (marks_of name sent) (subst (λ (o : Option Mark). Among mark (listed o)) (sym (ap (λ (m : Mail). mark_of name m.from m.body) same ∙ e)) (inl refl))
mark_among name (x ∷ sent) mail mark (inr a) e = Among-right mark (listed (mark_of name x.from x.body)) (marks_of name sent) (mark_among name sent mail mark a e)

-- what asks below a slot does below a later one
below_later : (name : Draw) (low high : ℕ) → low ≤ high → (body : MailBody) → AsksBelow name low body → AsksBelow name high body
below_later name low high up (Accept group ballot slot command) k = λ fact. (let lt = k fact in omega (arith, lt, up))
below_later name low high up _ k = tt

-- what is known of a mail's mark says so
known_below : (name : Draw) (course : Course) (from : ℕ) (body : MailBody) → ((mark : Mark) → mark_of name from body ≡ Some mark → IsKnown course mark) → AsksBelow name course.bound body
known_below name course from (Accept group ballot slot command) k = λ fact. k (Asks ballot slot) (cond-true (same_draw group name) (Some (Asks ballot slot)) None (same_name group name fact))
known_below name course from _ k = tt

module _ (go_on : EventsGoOn) (keep : RowsKeepTaught) (at : Sets) (over : Ends) (by : SlotLeaders) (words : ℕ → ℕ → ℕ × ℕ) (births : List (Seat Player)) (journal : Rows) (base : Base) (wb : AreWellBorn births) (one : HasOneLog at over by births journal base) (so : IsSentSo births journal base) where
  -- the bound never falls
  rises : (rows : Rows) (seat : Seat Player) (event : Event OrderLine) (course later : Course) → IsGroupRow at over by births rows seat event base course later → course.bound ≤ later.bound
  rises rows seat event course later (RowPasses same leaves) = (let e = ap (λ (c : Course). c.bound) same in omega (arith, e))
  rises rows seat event course later (RowRests same r after row_ off still kind) = (let e = ap (λ (c : Course). c.bound) same in omega (arith, e))
  rises rows seat event course later (RowTakes same r after mark row_ taken_ steps kind) = (let e = ap (λ (c : Course). c.bound) same in omega (arith, e))
  rises rows seat event course later (RowMakes same from slot state sets row_ taken_ logs kind) = (let e = ap (λ (c : Course). c.bound) same in omega (arith, e))
  rises rows seat event course later (RowLeads r after row_ runs counts l same) = (let e = ap (λ (c : Course). c.bound) same in let up = l.led.leads.bound in omega (arith, e, up))
  rises rows seat event course later (RowElects r after ballot row_ off e same) = (let k = ap (λ (c : Course). c.bound) same in omega (arith, k))

  -- what a row sends is known after it
  sent_known : (rows : Rows) (row : Row Mail OrderLine) (later : Course) → AreInTime (players words births) (rows ++ row ∷ []) → IsWellLed at over by words births (rows ++ row ∷ []) base later → AreAskedBelow base.core.id later.bound row.sent
  sent_known rows row later timely led = Each-from (λ (mail : Mail). AsksBelow base.core.id later.bound mail.body) row.sent (λ mail a. known_below base.core.id later mail.from mail.body (λ mark e. (
      let s = players words births in
      let left = rest-calm s rows row mail.to (in_time_tidy s rows (in_time_before s rows row timely)) (last_in_time s rows row timely).0 in
      let there : Among mail (rest s (rows ++ row ∷ []) mail.to) =
      subst (Among mail) (sym left) (Among-right mail (drop (taken mail.to row) (rest s rows mail.to)) (mail_for s mail.to row.sent) (Among-filter (λ (m : Mail). eqb m.to mail.to) row.sent mail a (eq-eqb mail.to mail.to refl))) in
      Each-among (IsKnown later) (marks_of base.core.id (rest s (rows ++ row ∷ []) mail.to)) mark (led.followed.follows.known mail.to) (mark_among base.core.id (rest s (rows ++ row ∷ []) mail.to) mail mark there e))))

  asked_row : (rows : Rows) (seat : Seat Player) (event : Event OrderLine) → IsRowOf journal rows seat event → IsSeat births seat → IsCalmEvent (players words births) rows seat.who event → AreInTime (players words births) (with_event rows seat event)
      → IsAskedOn at over by words births rows base → IsAskedOn at over by words births (with_event rows seat event) base
  asked_row rows seat event place born calm timely old =
      let step = go_on at over by words births journal base wb one so rows seat event old.course place born calm timely old.led in
      let up = rises rows seat event old.course step.later step.row in
      record {
        course = step.later;
        led = step.led;
        taught = keep at over by words births rows seat event base old.course step.later (record { rosters = one.log.rosters; timely = timely; was = old.led }) step.row old.taught;
        asked = subst (AreAskedBelow base.core.id step.later.bound) (sym (mails-snoc rows _))
            (Each-append (λ (mail : Mail). AsksBelow base.core.id step.later.bound mail.body) (mails rows) _
            (Each-weaker (λ (mail : Mail). AsksBelow base.core.id old.course.bound mail.body) (λ (mail : Mail). AsksBelow base.core.id step.later.bound mail.body) (λ mail k. below_later base.core.id old.course.bound step.later.bound up mail.body k) (mails rows) old.asked)
            (sent_known rows _ step.later timely step.led));
      }

pub asked_through : EventsGoOn → RowsKeepTaught → GroupsAreAskedThrough
asked_through go_on keep at over by words births journal base wb one so timely first =
    kept_by_all words births journal (λ rows. IsAskedOn at over by words births rows base) (asked_row go_on keep at over by words births journal base wb one so) (record { course = first.course; led = first.led; taught = first.taught; asked = tt }) timely
