-- A group's mail is sent so through a journal, row by row.
use Rattle.std.proofs.Common.{◌≡◌, ℕ, ◌<◌, ◌≤◌, nat_le, true, List, [], ◌∷◌, ◌++◌, Some, None, inl, inr, refl, sym, ◌∙◌, ap, subst, append_assoc, append-nil, arith}
use Rattle.std.specs.Option.{option_map}
use Rattle.std.proofs.lemmas.Bool.{cond-true, cond-false, lt-leb, true≢false}
use Rattle.sc_base.specs.Definitions.{Each, is_member}
use Rattle.sc_node_table.specs.Values.{Ballot, Draw, Command, Base, OrderLine, Mail, MailBody, Promise, Nack, Ask, Seat, Event, Row, Report}
use Rattle.sc_actor.proofs.Lemmas.{mails-snoc}
use Rattle.sc_actor.specs.Definitions.{mails, row_of}
use Rattle.sc_live_orderly.specs.OrderlyDefinitions.{IsCalmEvent, AreInTime}
use Rattle.sc_live_orderly.proofs.OrderlyLemmas.{last_in_time}
use Rattle.sc_node_table.specs.NodeDefinitions.{ReplicaState, listed, born_replica, slots_ahead}
use Rattle.sc_words.specs.paxos.PaxosDefinitions.{reports_from, IsAtLeast}
use Rattle.sc_words.proofs.PaxosProofs.PaxosLemmas.{at_least_below, at_least_from_below, Each-append, Each-weaker}
use Rattle.sc_scenario.specs.scenario.Definitions.{ValidScenariosAreBounded}
use Rattle.sc_scenario.specs.declared.scenario.scenarios.Scenario.{Scenario}
use Rattle.sc_meaning.specs.sound.SoundDefinitions.{Player, player_table, births, as_nodes}
use Rattle.sc_live_steps.specs.calm.CalmDefinitions.{players, Rows}
use Rattle.sc_live_steps.specs.following.FollowingDefinitions.{from_slot_of, Prepares, mark_of, Course, Progress, Sets, SlotLeaders}
use Rattle.sc_live_steps.proofs.FollowingProofs.FollowingLemmas.{same_mark}
use Rattle.sc_live_journals.specs.rows.RowDefinitions.{view_at, marks_at, next_in, promise_in, progress_at, led_course, elected_course, IsSeat, with_event}
use Rattle.sc_live_journals.proofs.RowsProofs.RowLemmas.{rows_are}
use Rattle.sc_live_journals.specs.logs.LogDefinitions.{logged_sets, IsGroupOf}
use Rattle.sc_live_journals.specs.groups.GroupDefinitions.{IsGroupRow, RowPasses, RowRests, RowTakes, RowMakes, RowLeads, RowElects, IsLedStep, Ends, IsWellLed, HasOneLog, IsSentSo, EventsGoOn, ScenariosAreWellBorn}
use Rattle.sc_live_journals.proofs.GroupsProofs.GroupLemmas.{dated_in, taken_dated, rows_dated}
use Rattle.sc_live_answers.specs.AnswerDefinitions.{over_at, LedLogsAreOne, slot_leaders_at, AreFew, GroupsAreLed, GroupsBeginLed, AreAbove, HasBelow, IsAskedOn, IsAtHome, IsSentOn, IsQuietWhileYoung, AreBornAsBegun, GroupsAreBornAsBegun, IsSentThrough, IsSentStep, GroupsBeginSent, NextRowsAreSent, SentReplicas, SaysWell, AreSaidWell}
use Rattle.sc_live_journals.specs.mail.MailDefinitions.{JournalsKeepIdle}
use Rattle.sc_live_answers.proofs.BallotsProofs.PrepareSlotRows.{asked_then}
use Rattle.sc_live_answers.proofs.LedMailProofs.GroupMailFacts.{next_mail_so}
use Rattle.sc_live_answers.proofs.LedMailProofs.MailReceivers.{homes_are_kept}
use Rattle.sc_live_answers.proofs.BallotsProofs.SeenBallotBounds.{seen_then}
use Rattle.sc_live_answers.proofs.LedMailProofs.WellLedGroupMail.{FindsNoneBy, row_says}
use Rattle.sc_live_answers.proofs.LedMailProofs.LeadersInTime.{none_behind}

-- ---- by a later ballot

module _ (name : Draw) (old new : Ballot) (rises : (b : Ballot) → IsAtLeast old b → IsAtLeast new b) where
  later_well : (body : MailBody) → SaysWell name old body → SaysWell name new body
  later_well (Ask group from_slot) k = k
  later_well (Nack group promised) k = λ fact. rises promised (k fact)
  later_well (Promise group other reports) k = k
  later_well _ k = tt

  all_later : (mails_ : List Mail) → AreSaidWell name old mails_ → AreSaidWell name new mails_
  all_later mails_ k = Each-weaker (λ (mail : Mail). SaysWell name old mail.body) (λ (mail : Mail). SaysWell name new mail.body) (λ mail s. later_well mail.body s) mails_ k

-- ---- one row more

module _ (words : ℕ → ℕ → ℕ × ℕ) (at : Sets) (over : Ends) (by : SlotLeaders) (births : List (Seat Player)) (rows : Rows) (seat : Seat Player) (event : Event OrderLine) (base : Base) (course : Course)
    (timely : AreInTime (players words births) (with_event rows seat event)) (was : IsWellLed at over by words births rows base course) where
  abbrev row : Row Mail OrderLine
  row = row_of player_table seat rows event

  abbrev HomeAfter : Course → Type 0
  HomeAfter later = IsAtHome at (progress_at births (with_event rows seat event) base later) (marks_at (players words births) (with_event rows seat event) base.core.id)

  abbrev HomeBefore : Type 0
  HomeBefore = IsAtHome at (progress_at births rows base course) (marks_at (players words births) rows base.core.id)

  home_then : (later : Course) → IsGroupRow at over by births rows seat event base course later → HomeBefore → HomeAfter later
  home_then later (RowPasses same leaves) h =
      subst HomeAfter (sym same) (homes_are_kept.idle at _ _ seat.who _ _ _ _ (rows_are words births rows row base course course timely) (leaves.idle course) was.followed.follows h)
  home_then later (RowRests same r after row_ off still kind) h =
      subst HomeAfter (sym same) (homes_are_kept.idle at _ _ seat.who _ _ _ _ (rows_are words births rows row base course course timely) kind was.followed.follows h)
  home_then later (RowTakes same r after mark row_ taken steps kind) h =
      subst HomeAfter (sym same) (homes_are_kept.takes at _ _ seat.who _ _ _ _ (rows_are words births rows row base course course timely) kind was.followed.follows h)
  home_then later (RowMakes same from slot state sets row_ taken logs kind) h =
      subst HomeAfter (sym same) (homes_are_kept.takes at _ _ seat.who _ _ _ _ (rows_are words births rows row base course course timely) kind was.followed.follows h)
  home_then later (RowLeads r after row_ runs counts l same) h =
      subst HomeAfter (sym same) (homes_are_kept.leads at _ _ seat.who _ _ _ _ (rows_are words births rows row base course (led_course l.led.bound course after.0) timely) l.led.leads was.followed.follows h)
  home_then later (RowElects r after ballot row_ off e same) h =
      subst HomeAfter (sym same) (homes_are_kept.self_election at _ _ seat.who _ _ _ _ (rows_are words births rows row base course (elected_course course ballot) timely) e.self_election was.followed.follows h)

  pub rises : (later : Course) → IsGroupRow at over by births rows seat event base course later → (b : Ballot) → IsAtLeast course.ballot b → IsAtLeast later.ballot b
  rises later (RowPasses same leaves) b least = subst (λ (c : Course). IsAtLeast c.ballot b) (sym same) least
  rises later (RowRests same r after row_ off still kind) b least = subst (λ (c : Course). IsAtLeast c.ballot b) (sym same) least
  rises later (RowTakes same r after mark row_ taken steps kind) b least = subst (λ (c : Course). IsAtLeast c.ballot b) (sym same) least
  rises later (RowMakes same from slot state sets row_ taken logs kind) b least = subst (λ (c : Course). IsAtLeast c.ballot b) (sym same) least
  rises later (RowLeads r after row_ runs counts l same) b least = subst (λ (c : Course). IsAtLeast c.ballot b) (sym same) least
  rises later (RowElects r after ballot row_ off e same) b least = subst (λ (c : Course). IsAtLeast c.ballot b) (sym same) (at_least_from_below b ballot (at_least_below b course.ballot ballot least e.self_election.later))

  pub sent_then : (later : Course) → IsGroupRow at over by births rows seat event base course later → AreSaidWell base.core.id course.ballot row.sent → IsSentOn at words births rows base course → IsSentOn at words births (with_event rows seat event) base later
  sent_then later kind said k = record {
    homes = home_then later kind k.homes;
    says = subst (AreSaidWell base.core.id later.ballot) (sym (mails-snoc rows row))
        (all_later base.core.id course.ballot later.ballot (rises later kind) (mails rows ++ row.sent) (Each-append (λ (mail : Mail). SaysWell base.core.id course.ballot mail.body) (mails rows) row.sent k.says said));
  }

-- ---- the births

module _ (at : Sets) (births : List (Seat Player)) (base : Base) (course : Course) (words : ℕ → ℕ → ℕ × ℕ) (born : AreBornAsBegun births base) (first : is_member base.core.members base.core.first ≡ true) (begins : at 0 ≡ base.core.members) where
  abbrev now : Progress
  now = progress_at births [] base course

  one_at : (who : ℕ) → is_member base.core.members who ≡ true → 1 ≤ now.next who
  one_at who t = elim (born who) [
    | inl none ↦ (let e = ap (next_in base who) none ∙ cond-true (is_member base.core.members who) 1 0 t in omega (arith, e))
    | inr some ↦ (let e = ap (next_in base who) some.0 in omega (arith, e))
  ]

  promise_at : (who : ℕ) → (now.promise who).node ≡ base.core.first
  promise_at who = elim (born who) [
    | inl none ↦ ap (λ o. (promise_in base o).node) none
    | inr some ↦ ap (λ o. (promise_in base o).node) some.0
  ]

  pub born_homes : IsAtHome at now (marks_at (players words births) [] base.core.id)
  born_homes = record {
    finds = λ who. tt;
    promised = λ who. subst (λ n. 1 ≤ now.next n) (sym (promise_at who)) (one_at base.core.first first);
    strangers = λ who out. (
      elim (born who) [
        | inl none ↦ ap (next_in base who) none ∙ cond-false (is_member base.core.members who) 1 0 (ap (λ l. is_member l who) (sym begins) ∙ out 0)
        | inr some ↦ absurd (true≢false (sym some.1 ∙ (ap (λ l. is_member l who) (sym begins) ∙ out 0)))
      ],
      refl,
    );
  }

-- at the births nothing is accepted, and nothing is under way
born_asked : (words : ℕ → ℕ → ℕ × ℕ) (births : List (Seat Player)) (base : Base) (course : Course) → AreBornAsBegun births base → ((who : ℕ) → IsAtLeast course.ballot (promise_in base (view_at births [] base.core.id who))) → IsAskedOn words births [] base course
born_asked words births base course born promised = record {
  tops = λ who. 0;
  low = λ who. omega arith;
  above = λ who. tt;
  accepted = λ who r view. (rests who r view).0;
  plain = λ who r view. (rests who r view).1;
  seen = λ who r view. subst (IsAtLeast course.ballot) (sym (rests who r view).2) (subst (λ o. IsAtLeast course.ballot (promise_in base o)) view (promised who));
}
  where
    rests : (who : ℕ) (r : ReplicaState) → view_at births [] base.core.id who ≡ Some r → HasBelow 0 r × (r.leader.reports ≡ []) × (r.top ≡ r.acceptor.promised)
    rests who r view = elim (born who) [
      | inl none ↦ (let bad : Some r ≡ None = sym view ∙ none in cc)
      | inr some ↦ (let same : born_replica slots_ahead who base ≡ r = (let e : Some (born_replica slots_ahead who base) ≡ Some r = sym some.0 ∙ view in cc) in subst (λ (q : ReplicaState). HasBelow 0 q × (q.leader.reports ≡ []) × (q.top ≡ q.acceptor.promised)) same (tt, refl, refl))
    ]

-- ---- what follows of replicas

-- No replica of such a group saw a later ballot than the leader's, has accepted anything at a slot at which nothing was offered, or has a report that binds it.
pub sent_replicas : SentReplicas
sent_replicas = record {
  saw = λ at over by words births rows base t node r view. (
    t.asked.seen node r view,
    (let low = t.asked.low node in Each-weaker (λ (report : Report Command). report.slot < t.asked.tops node) (λ (report : Report Command). report.slot < t.course.bound) (λ report less. omega (arith, less, low)) r.acceptor.accepted (t.asked.accepted node r view)),
  );
  plain = λ at over by words births rows base t node r view. t.asked.plain node r view;
}

-- ---- what asks to promise finds nothing

none_from : (top from : ℕ) (reports : List (Report Command)) → top ≤ from → Each (λ (report : Report Command). report.slot < top) reports → reports_from from reports ≡ []
none_from top from [] low each = refl
none_from top from (report ∷ reports) low each =
    let less = each.0 in
    cond-false (nat_le from report.slot) (report ∷ reports_from from reports) (reports_from from reports) (lt-leb from report.slot (omega (arith, low, less))) ∙ none_from top from reports low each.1

finds_none : (words : ℕ → ℕ → ℕ × ℕ) (births : List (Seat Player)) (rows : Rows) (seat : Seat Player) (event : Event OrderLine) (base : Base) (course : Course) → AreInTime (players words births) (with_event rows seat event) → IsAskedOn words births rows base course
    → FindsNoneBy births rows seat event base
finds_none words births rows seat event base course timely k number mail ballot from_slot r is_event sent_at body view =
    let row = rows_dated words births rows (row_of player_table seat rows event) base course course timely in
    let marked : mark_of base.core.id mail.from mail.body ≡ Some (Prepares ballot) = ap (mark_of base.core.id mail.from) body ∙ same_mark base.core.id (Prepares ballot) in
    let taken : taken_dated base.core.id (mails rows) event ≡ Some (Prepares ballot, from_slot) =
    ap (taken_dated base.core.id (mails rows)) is_event ∙ (ap (dated_in base.core.id) sent_at ∙ (ap (option_map (λ mark. (mark, from_slot_of mail.body))) marked ∙ ap (λ b. Some (Prepares ballot, from_slot_of b)) body)) in
    let asked = subst (AreAbove (k.tops seat.who)) (row.takes ∙ ap (λ o. listed o ++ row.left) taken) (k.above seat.who) in
    none_from (k.tops seat.who) from_slot r.acceptor.accepted asked.0 (k.accepted seat.who r view)

-- ---- through a journal

module _ (bounds : ValidScenariosAreBounded) (idle : JournalsKeepIdle) (wb : ScenariosAreWellBorn) (groups_led : GroupsAreLed) (logs : LedLogsAreOne) (go_on : EventsGoOn) (begins : GroupsBeginLed) (births_are : GroupsAreBornAsBegun) where
  module _ (words : ℕ → ℕ → ℕ × ℕ) (scenario : Scenario) (journal : Rows) (base : Base) (group : IsGroupOf as_nodes words scenario journal base) (timely : AreInTime (players words (births as_nodes scenario)) journal) (few : AreFew as_nodes scenario journal base) where
    abbrev all : List (Seat Player)
    all = births as_nodes scenario

    abbrev at : Sets
    at = logged_sets as_nodes base journal

    abbrev over : Ends
    over = over_at as_nodes base journal

    abbrev by : SlotLeaders
    by = slot_leaders_at as_nodes scenario base journal

    abbrev Through : Rows → Type 0
    Through rows = IsSentThrough at over by words all rows base

    one_log : (rows more : Rows) → journal ≡ rows ++ more → IsSentSo all rows base → HasOneLog at over by all rows base
    one_log rows more fact so = logs as_nodes words by scenario journal rows more base group fact (groups_led words scenario journal rows more base group timely few fact so).1

    no_mail : IsSentSo all [] base
    no_mail = record {
      comes = λ rows seat number mail d. absurd (none_behind rows _ d.row.more d.row.fact);
      clients = λ rows seat number mail client d. absurd (none_behind rows _ d.row.more d.row.fact);
      finds = λ rows seat number mail node d. absurd (none_behind rows _ d.row.more d.row.fact);
      asks = λ rows seat number mail from_slot d. absurd (none_behind rows _ d.row.more d.row.fact);
      plain = λ rows seat number mail ballot reports d. absurd (none_behind rows _ d.row.more d.row.fact);
      nacks = λ rows seat number mail promised r d. absurd (none_behind rows _ d.row.more d.row.fact);
    }

    first_rows : Through []
    first_rows =
        let one = one_log [] journal refl no_mail in
        let led = begins words by scenario journal base group in
        let born = births_are words scenario journal base group in
        record {
          course = led.0;
          led = led.1;
          sent = record { homes = born_homes at all base led.0 words born one.first (one.begins 0 (omega arith)); says = tt };
          asked = born_asked words all base led.0 born led.1.followed.follows.promised;
          so = no_mail;
          one = one;
        }

    before_in_time : (rows more : Rows) → journal ≡ rows ++ more → AreInTime (players words (births as_nodes scenario)) rows
    before_in_time rows more fact = λ before row after e. timely before row (after ++ more) (fact ∙ (ap (λ rs. rs ++ more) e ∙ append_assoc before (row ∷ after) more))

    -- an event whose row comes in time
    calm_of : (rows : Rows) (seat : Seat Player) (event : Event OrderLine) → AreInTime (players words (births as_nodes scenario)) (with_event rows seat event) → IsCalmEvent (players words (births as_nodes scenario)) rows seat.who event
    calm_of rows seat event in_time =
        let calm = (last_in_time (players words all) rows (row_of player_table seat rows event) in_time).0 in
        let who : seat.who ≡ calm.seat.who = ap (λ (r : Row Mail OrderLine). r.who) calm.row_is in
        let same : event ≡ calm.event = ap (λ (r : Row Mail OrderLine). r.event) calm.row_is in
        subst (λ w. IsCalmEvent (players words all) rows w event) (sym who) (subst (λ e. IsCalmEvent (players words all) rows calm.seat.who e) (sym same) calm.calm)

    next_row : (rows more : Rows) (seat : Seat Player) (event : Event OrderLine) → journal ≡ with_event rows seat event ++ more → IsSeat (births as_nodes scenario) seat → (t : Through rows) → IsQuietWhileYoung words (births as_nodes scenario) rows base
        → IsSentStep at over by words (births as_nodes scenario) rows seat event base t.course
    next_row rows more seat event fact born_ t quiet =
        let then_ : Rows = with_event rows seat event in
        let timely_ : AreInTime (players words all) then_ = before_in_time then_ more fact in
        let calm = calm_of rows seat event timely_ in
        let so = next_mail_so words at over by scenario rows seat event base t.course (bounds scenario group.valid) t.one.log timely_ t.led t.sent quiet t.so in
        let one = one_log then_ more fact so in
        let step : IsLedStep at over by words all rows seat event base t.course = go_on at over by words all then_ base (wb scenario) one so rows seat event t.course (record { more = []; fact = sym (append-nil then_) }) born_ calm timely_ t.led in
        record {
          step = step;
          through = record {
            course = step.later;
            led = step.led;
            sent = sent_then words at over by all rows seat event base t.course timely_ t.led step.later step.row
                (row_says words at over by scenario rows seat event base t.course (bounds scenario group.valid) idle (wb scenario) one so (finds_none words all rows seat event base t.course timely_ t.asked) timely_ born_ calm t.led t.sent) t.sent;
            asked = asked_then words at over by scenario rows seat event base t.course idle (wb scenario) one so timely_ born_ calm t.led t.asked step.later step.row
                (seen_then words at over by scenario rows seat event base t.course idle (wb scenario) one so timely_ born_ calm t.led t.sent t.asked step (rises words at over by all rows seat event base t.course timely_ t.led step.later step.row));
            so = so;
            one = one;
          };
          same = refl;
        }

  pub begin_sent : GroupsBeginSent
  begin_sent words scenario journal base group timely few = first_rows words scenario journal base group timely few

  pub rows_sent : NextRowsAreSent
  rows_sent words scenario journal base group timely few rows more seat event fact born t quiet = next_row words scenario journal base group timely few rows more seat event fact born t quiet
