-- From above all that it accepted each node is asked to promise after one row more, and no replica has a report that binds it.
use Rattle.std.proofs.Common.{◌≡◌, ℕ, ◌+◌, ◌<◌, ◌≤◌, true, false, List, [], Option, Some, None, ◌⊎◌, inl, inr, refl, sym, ◌∙◌, ap, subst, arith}
use Rattle.std.specs.Option.{option_map}
use Rattle.std.proofs.lemmas.Bool.{cases_eq}
use Rattle.sc_base.specs.Definitions.{Each}
use Rattle.sc_node_table.specs.Values.{Ballot, Draw, Command, Base, OrderLine, Mail, MailBody, Prepare, Promise, Accept, Accepted, Nack, Learn, Ask, Install, Seat, Event, Row, Report}
use Rattle.sc_actor.specs.Definitions.{mails, row_of}
use Rattle.sc_live_orderly.specs.OrderlyDefinitions.{IsCalmEvent, rest, AreInTime}
use Rattle.sc_live_orderly.proofs.OrderlyLemmas.{in_time_before}
use Rattle.sc_words.specs.paxos.PaxosDefinitions.{IsAtLeast}
use Rattle.sc_words.proofs.PaxosProofs.PaxosLemmas.{Each-weaker}
use Rattle.sc_scenario.specs.declared.scenario.scenarios.Scenario.{Scenario}
use Rattle.sc_node_table.specs.NodeDefinitions.{NodeState, group_of_mail, ordered_row, ReplicaState, Place, listed, name_of, next, born_replica, mailed, made_by, slots_ahead}
use Rattle.sc_law_walks.specs.WalkDefinitions.{GoesOn}
use Rattle.sc_meaning.specs.sound.SoundDefinitions.{Player, player_table, births, as_nodes}
use Rattle.sc_live_steps.specs.calm.CalmDefinitions.{players, Rows}
use Rattle.sc_live_steps.specs.following.FollowingDefinitions.{Dated, dated_for, marks_in, AreLow, from_slot_of, IsDatedRow, Mark, Asks, Teaches, Installs, Prepares, mark_of, Course, Progress, Sets, IsKnown, IsFit, SlotLeaders, IsLeadOf, IsAside, IsCount, answered, marks_for}
use Rattle.sc_live_steps.proofs.FollowingProofs.FollowingLemmas.{prepares_are_known, counts_of, same_mark, order_is_kept}
use Rattle.sc_live_journals.specs.rows.RowDefinitions.{view_at, mark_in, taken_mark, promise_in, progress_at, led_course, LedBy, IsSeat, with_event, IsReplicasRow}
use Rattle.sc_live_journals.proofs.RowsProofs.RowLemmas.{fit, goes_on, known as known_here, told_is, found_name, view_others}
use Rattle.sc_live_journals.specs.groups.GroupDefinitions.{IsGroupRow, RowPasses, RowRests, RowTakes, RowMakes, RowLeads, RowElects, Ends, dated_at, IsWellLed, IsLedScene, AreWellBorn, HasOneLog, IsSentSo}
use Rattle.sc_live_journals.proofs.GroupsProofs.GroupLemmas.{dated_in, taken_dated, rows_dated, asides_stay, orders_stay, promises_stay, scene, marks_all}
use Rattle.sc_live_journals.specs.mail.MailDefinitions.{IsPlainlyKept, JournalsKeepIdle}
use Rattle.sc_live_answers.specs.AnswerDefinitions.{AreAbove, HasBelow, IsAskedOn}
use Rattle.sc_live_answers.proofs.BallotsProofs.PrepareSlots.{MovesLast, top_of, tops_after, own_top, others_top, own_up, low_after, sent_above, counts_asked, leads_asked, elects_asked}
use Rattle.sc_live_answers.proofs.BallotsProofs.AcceptedReports.{IsPlainMail, RestsAt, mail_rests, order_rests, made_rests, asked_stands, polled_stands, nacked_stands}
use Rattle.sc_live_answers.proofs.LedGroupsProofs.JoiningMembers.{HasAct, GoesFrom, votes_go}
use Rattle.sc_live_answers.proofs.ReplicasProofs.PlayerEvents.{TurnsMail, IsTurn, TurnRests, TurnCreates, TurnTakes, TurnMakes, TurnTold, turn_of}
use Rattle.std.proofs.lemmas.Option.{same_Some}

pub some_none : {X : Type 0} (x : X) (o : Option X) → o ≡ Some x → o ≡ None → ⊥
some_none x o e f = (let bad : Some x ≡ None = sym e ∙ f in cc)

-- a mail that names no group but this one
abbrev pub NamesAlone : Base → Mail → Type 0
NamesAlone base mail = (g : Draw) → group_of_mail mail.body ≡ Some g → g ≡ base.core.id

-- a mail whose mark for the group is fit for the replica that takes it
abbrev pub FitsMail : Base → Mail → ReplicaState → Type 0
FitsMail base mail r = (mark : Mark) → mark_of base.core.id mail.from mail.body ≡ Some mark → IsFit (next r) r.acceptor.promised mark

module _ (words : ℕ → ℕ → ℕ × ℕ) (at : Sets) (over : Ends) (by : SlotLeaders) (scenario : Scenario) (rows : Rows) (seat : Seat Player) (event : Event OrderLine) (base : Base) (course : Course) (idle : JournalsKeepIdle) (wb : AreWellBorn (births as_nodes scenario))
    (one : HasOneLog at over by (births as_nodes scenario) (with_event rows seat event) base) (so : IsSentSo (births as_nodes scenario) (with_event rows seat event) base) (timely : AreInTime (players words (births as_nodes scenario)) (with_event rows seat event))
    (born : IsSeat (births as_nodes scenario) seat) (calm : IsCalmEvent (players words (births as_nodes scenario)) rows seat.who event) (was : IsWellLed at over by words (births as_nodes scenario) rows base course) where
  abbrev all : List (Seat Player)
  all = births as_nodes scenario

  abbrev name : Draw
  name = base.core.id

  abbrev then_ : Rows
  then_ = with_event rows seat event

  abbrev row : Row Mail OrderLine
  row = row_of player_table seat rows event

  abbrev now : Progress
  now = progress_at all rows base course

  abbrev dated : ℕ → List Dated
  dated = dated_at (players words all) rows name

  abbrev dated_then : ℕ → List Dated
  dated_then = dated_at (players words all) then_ name

  abbrev taken : Option Dated
  taken = taken_dated name (mails rows) event

  abbrev sent_dated : ℕ → List Dated
  sent_dated who = dated_for name who row.sent

  before : AreInTime (players words all) rows
  before = in_time_before (players words all) rows row timely

  pub turn : IsTurn at by words all rows seat event base
  turn = turn_of at over by words all base wb rows seat born event one so timely calm

  pub kept_of : (r : ReplicaState) → view_at all rows name seat.who ≡ Some r → IsPlainlyKept seat.who r
  kept_of r view = idle words scenario rows name seat.who r before view

  known : (who : ℕ) → Each (IsKnown course) (marks_in (dated who))
  known who = subst (Each (IsKnown course)) (sym (marks_all name (rest (players words all) rows who))) (was.followed.follows.known who)

  sent_same : (who : ℕ) → marks_in (sent_dated who) ≡ marks_for name who row.sent
  sent_same who = prepares_are_known.same name who row.sent

  -- ---- a mail for its replica

  module _ (number : ℕ) (mail : Mail) (node : NodeState) (r : ReplicaState) (t : TurnsMail words all rows seat event base number mail node r) where
    pub s : IsLedScene at over by words all rows seat node base course
    s = record { log = one.log; seated = born; fact = t.fact; led = was }

    pub named_is : name_of r ≡ name
    named_is = found_name name node.replicas r t.has.here

    pub view : view_at all rows base.core.id seat.who ≡ Some r
    view = t.row_.was

    -- its body, with the group's name
    pub own_name : NamesAlone base mail
    own_name g e = same_Some g name (sym e ∙ t.group)

    pub marked : (mark : Mark) → mark_of base.core.id mail.from mail.body ≡ Some mark → taken_mark name (mails rows) event ≡ Some mark
    marked mark e = ap (taken_mark name (mails rows)) t.event_is ∙ (ap (mark_in name) t.takes.sent ∙ e)

    pub dated_is : (mark : Mark) → mark_of base.core.id mail.from mail.body ≡ Some mark → taken_dated base.core.id (mails rows) event ≡ Some (mark, from_slot_of mail.body)
    dated_is mark e = ap (taken_dated name (mails rows)) t.event_is ∙ (ap (dated_in name) t.takes.sent ∙ ap (option_map (λ m. (m, from_slot_of mail.body))) e)

    pub most : IsAtLeast course.ballot r.acceptor.promised
    most = subst (λ q. IsAtLeast course.ballot (promise_in base q)) view (was.followed.follows.promised seat.who)

    pub goes : (ballot : Ballot) → IsAtLeast course.ballot ballot → GoesOn ballot r
    goes ballot least = goes_on at words all rows seat node base course (scene at over by words all rows seat node base course s) r view ballot least

    -- ---- by a leader

    module _ (runs : r.running ≡ true) where
      lead : IsLeadOf at (progress_at all rows base course) r
      lead = (was.followed.given.gives seat.who r view runs).0

      abbrev Moves : Type 0
      Moves = (next (mailed mail.from mail.body (r, [])).0.0 ≡ next r) ⊎ GoesFrom (HasAct r) at course (next r) (mailed mail.from mail.body (r, [])).0.0

      module _ (counts : Each IsCount (listed (taken_mark base.core.id (mails rows) event))) where
        count_of : (mark : Mark) → mark_of base.core.id mail.from mail.body ≡ Some mark → IsCount mark
        count_of mark e = (subst (λ o. Each IsCount (listed o)) (marked mark e) counts).0

        aside : IsAside r mail.body → Moves
        aside a = inl (asides_stay at now r lead mail.from mail.body a)

        moves : (b : MailBody) → mail.body ≡ b → Moves
        moves (Accepted g ballot slot) e =
            let body : mail.body ≡ Accepted name ballot slot = e ∙ ap (λ n. Accepted n ballot slot) (own_name g (ap group_of_mail e)) in
            inr (subst (λ b. GoesFrom (HasAct r) at course (next r) (mailed mail.from b (r, [])).0.0) (sym (body ∙ ap (λ n. Accepted n ballot slot) (sym named_is)))
            (votes_go at now mail.from ballot slot r one.log.rosters lead (one.decided rows seat number mail ballot slot r t.delivers body view runs) (order_is_kept.alone at course r lead.led (was.orderly seat.who r view runs))))
        moves (Promise g ballot reports) e =
            let body : mail.body ≡ Promise name ballot reports = e ∙ ap (λ n. Promise n ballot reports) (own_name g (ap group_of_mail e)) in
            inl (subst (λ b. next (mailed mail.from b (r, [])).0.0 ≡ next r) (sym (body ∙ ap (λ n. Promise n ballot reports) (sym named_is))) (promises_stay at now r lead mail.from ballot reports))
        moves (Accept g ballot slot command) e = absurd (count_of (Asks ballot slot) (ap (mark_of name mail.from) (e ∙ ap (λ n. Accept n ballot slot command) (own_name g (ap group_of_mail e))) ∙ same_mark name (Asks ballot slot)))
        moves (Prepare g ballot from_slot) e = absurd (count_of (Prepares ballot) (ap (mark_of name mail.from) (e ∙ ap (λ n. Prepare n ballot from_slot) (own_name g (ap group_of_mail e))) ∙ same_mark name (Prepares ballot)))
        moves (Learn g slot command) e = absurd (count_of (Teaches slot) (ap (mark_of name mail.from) (e ∙ ap (λ n. Learn n slot command) (own_name g (ap group_of_mail e))) ∙ same_mark name (Teaches slot)))
        moves (Install g slot state sets) e = absurd (count_of (Installs slot) (ap (mark_of name mail.from) (e ∙ ap (λ n. Install n slot state sets) (own_name g (ap group_of_mail e))) ∙ same_mark name (Installs slot)))
        moves (Nack g promised) e =
            let body : mail.body ≡ Nack name promised = e ∙ ap (λ n. Nack n promised) (own_name g (ap group_of_mail e)) in
            aside (subst (IsAside r) (sym body) (so.nacks rows seat number mail promised r t.delivers body view))
        moves (Ask g from_slot) e = absurd (so.asks rows seat number mail from_slot t.delivers (e ∙ ap (λ n. Ask n from_slot) (own_name g (ap group_of_mail e))))
        moves _ e = aside (subst (IsAside r) (sym e) tt)

    -- ---- what it accepts by it

    module _ (top : ℕ) (asked : (ballot : Ballot) (slot : ℕ) → taken_dated base.core.id (mails rows) event ≡ Some (Asks ballot slot, from_slot_of mail.body) → slot < top) where
      abbrev Below : Report Command → Type 0
      Below report = report.slot < top

      abbrev All : Ballot → Type 0
      All ballot = Unit {0}

      plainly : RestsAt Below r → IsPlainMail Below mail.body → RestsAt Below (mailed mail.from mail.body (r, [])).0.0
      plainly k plain = mail_rests Below seat.who mail.from mail.body r (kept_of r view) plain k

      accepts : (b : MailBody) → mail.body ≡ b → RestsAt Below r → RestsAt Below (mailed mail.from mail.body (r, [])).0.0
      accepts (Accept g ballot slot command) e k =
          let fact : mark_of name mail.from mail.body ≡ Some (Asks ballot slot) = ap (mark_of name mail.from) (e ∙ ap (λ n. Accept n ballot slot command) (own_name g (ap group_of_mail e))) ∙ same_mark name (Asks ballot slot) in
          let f : IsFit (next r) r.acceptor.promised (Asks ballot slot) = fit at words all rows seat node base course (scene at over by words all rows seat node base course s) number mail t.takes r t.has (Asks ballot slot) fact (mailed mail.from mail.body (r, [])).0 t.row_ in
          subst (λ b. RestsAt Below (mailed mail.from b (r, [])).0.0) (sym e)
          (asked_stands Below All mail.from g ballot slot command r (goes ballot (subst (IsAtLeast course.ballot) (sym f.2) most)) tt (asked ballot slot (dated_is (Asks ballot slot) fact)) (k, tt)).0
      accepts (Prepare g ballot from_slot) e k =
          let fact : mark_of name mail.from mail.body ≡ Some (Prepares ballot) = ap (mark_of name mail.from) (e ∙ ap (λ n. Prepare n ballot from_slot) (own_name g (ap group_of_mail e))) ∙ same_mark name (Prepares ballot) in
          let least : IsAtLeast course.ballot ballot = known_here at words all rows seat node base course (scene at over by words all rows seat node base course s) number mail t.takes (Prepares ballot) fact in
          subst (λ b. RestsAt Below (mailed mail.from b (r, [])).0.0) (sym e) (polled_stands Below All mail.from g ballot from_slot r (goes ballot least) tt (k, tt)).0
      accepts (Nack g promised) e k =
          let body : mail.body ≡ Nack name promised = e ∙ ap (λ n. Nack n promised) (own_name g (ap group_of_mail e)) in
          subst (λ b. RestsAt Below (mailed mail.from b (r, [])).0.0) (sym e) (nacked_stands Below All mail.from g promised r (so.nacks rows seat number mail promised r t.delivers body view) tt (k, tt)).0
      accepts (Promise g ballot reports) e k =
          let body : mail.body ≡ Promise name ballot reports = e ∙ ap (λ n. Promise n ballot reports) (own_name g (ap group_of_mail e)) in
          plainly k (subst (IsPlainMail Below) (sym e) (so.plain rows seat number mail ballot reports t.delivers body))
      accepts (Accepted g ballot slot) e k = plainly k (subst (IsPlainMail Below) (sym e) tt)
      accepts _ e k = plainly k (subst (IsPlainMail Below) (sym e) tt)

  -- ---- a leader's row

  module _ (r : ReplicaState) (after : Place) (row_ : IsReplicasRow all rows seat event base.core.id (Some r) after) (runs : r.running ≡ true) (counts : Each IsCount (listed (taken_mark base.core.id (mails rows) event))) where
    abbrev MovesTo : ReplicaState → ReplicaState → Type 0
    MovesTo q p = (next p ≡ next q) ⊎ GoesFrom (HasAct q) at course (next q) p

    moves_to : (q p : ReplicaState) → view_at all rows base.core.id seat.who ≡ Some q → view_at all (with_event rows seat event) base.core.id seat.who ≡ Some p → MovesTo q p → MovesTo r after.0
    moves_to q p view viewed m =
        subst (λ x. MovesTo x after.0) (same_Some q r (sym view ∙ row_.was)) (subst (λ x. MovesTo q x) (same_Some p after.0 (sym viewed ∙ row_.fact)) m)

    runs_too : (q : ReplicaState) → view_at all rows base.core.id seat.who ≡ Some q → q.running ≡ true
    runs_too q view = subst (λ (x : ReplicaState). x.running ≡ true) (same_Some r q (sym row_.was ∙ view)) runs

    pub leader_moves : MovesTo r after.0
    leader_moves = by_turn turn
      where
        by_turn : IsTurn at by words all rows seat event base → MovesTo r after.0
        by_turn (TurnRests same none) = inl (ap next (same_Some after.0 r (sym row_.fact ∙ (same ∙ row_.was))))
        by_turn (TurnCreates none made) = absurd (some_none r (view_at all rows base.core.id seat.who) row_.was none)
        by_turn (TurnMakes from slot state sets t) = absurd (some_none r (view_at all rows base.core.id seat.who) row_.was t.was)
        by_turn (TurnTakes number mail node q t) =
            moves_to q (mailed mail.from mail.body (q, [])).0.0 t.row_.was (ap (λ e. view_at all (with_event rows seat e) name seat.who) t.event_is ∙ t.row_.fact) (moves number mail node q t (runs_too q t.row_.was) counts mail.body refl)
        by_turn (TurnTold line node q t) =
            let lead_q : IsLeadOf at now q = (was.followed.given.gives seat.who q t.was (runs_too q t.was)).0 in
            moves_to q (ordered_row node.draws line (q, [])).0 t.was t.then_ (inl (subst (λ (p : Place). next p.0 ≡ next q) (told_is node line q) (orders_stay at now q lead_q false node.draws line)))

  -- so who comes by it comes by the last that is offered
  pub leader_last : (r : ReplicaState) (after : Place) → IsReplicasRow all rows seat event base.core.id (Some r) after → r.running ≡ true → (l : LedBy at all rows seat event base course after) → MovesLast at course course.newest (course.newest + l.leads.executed)
  leader_last r after row_ runs l slot least most =
      let lead : IsLeadOf at now r = (was.followed.given.gives seat.who r row_.was runs).0 in
      let from = lead.newest in
      let to = l.leads.newest in
      elim (leader_moves r after row_ runs l.leads.takes) [
        | inl same ↦ absurd (omega (arith, least, most, from, to, same))
        | inr goes ↦ goes.0 slot (omega (arith, least, from)) (omega (arith, most, to))
      ]

  -- ---- one row more

  module _ (k : IsAskedOn words (births as_nodes scenario) rows base course) (later : Course) (kind : IsGroupRow at over by (births as_nodes scenario) rows seat event base course later) where
    dated_row : IsDatedRow now (progress_at all then_ base later) seat.who taken sent_dated dated dated_then
    dated_row = rows_dated words all rows row base course later timely

    abbrev tops_then : ℕ → ℕ
    tops_then who = tops_after seat.who taken k.tops who

    -- what is sent, by the kind of the row
    silent : (who : ℕ) → marks_for name who row.sent ≡ [] → (top : ℕ) → top ≤ course.bound → AreAbove top (sent_dated who)
    silent who none top most = counts_asked (sent_dated who) (subst (Each IsCount) (sym (sent_same who ∙ none)) tt) course.bound top most

    answers : (mark : Mark) (promise : Ballot) (who : ℕ) → marks_for name who row.sent ≡ answered seat.who promise mark who → (top : ℕ) → top ≤ course.bound → AreAbove top (sent_dated who)
    answers mark promise who fact top most = counts_asked (sent_dated who) (subst (Each IsCount) (sym (sent_same who ∙ fact)) (counts_of seat.who promise mark who)) course.bound top most

    asks_by : (c : Course) → IsGroupRow at over by all rows seat event base course c → (who top : ℕ) → top ≤ course.bound → AreAbove top (sent_dated who)
    asks_by c (RowPasses same leaves) who top most = silent who ((leaves.idle course).sends who) top most
    asks_by c (RowRests same r after row_ off still i) who top most = silent who (i.sends who) top most
    asks_by c (RowTakes same r after mark row_ fact steps i) who top most = answers i.mark (now.promise seat.who) who (i.sends who) top most
    asks_by c (RowMakes same from slot state sets row_ fact logs i) who top most = answers i.mark (now.promise seat.who) who (i.sends who) top most
    asks_by c (RowLeads r after row_ runs counts l same) who top most =
        let leads = l.led.leads in
        leads_asked at course (led_course l.led.bound course after.0) who leads.executed (leads.offers who) (sent_dated who) (leader_last r after row_ runs l.led) (leads.asks who) (sent_same who ∙ leads.sends who)
        (λ low. subst (λ ms. AreLow low (dated_for name who ms)) (sym row_.sends_all) (l.low who low)) top most
    asks_by c (RowElects r after ballot row_ off e same) who top most =
        let even : course.bound ≡ course.newest = was.followed.follows.offered e.self_election.idle in
        elects_asked course.bound (sent_dated who) (subst (λ b. Each (λ (d : Dated). b ≤ d.1) (dated_for name who row.sent)) (sym even) (subst (λ ms. Each (λ (d : Dated). course.newest ≤ d.1) (dated_for name who ms)) (sym row_.sends_all) (e.low who)))
        (elim (e.self_election.sends who) [ inl none ↦ inl (sent_same who ∙ none) | inr asked ↦ inr (asked.0, sent_same who ∙ asked.1) ]) top most

    bound_up : (c : Course) → IsGroupRow at over by all rows seat event base course c → course.bound ≤ c.bound
    bound_up c (RowPasses same leaves) = (let e = ap (λ (x : Course). x.bound) same in omega (arith, e))
    bound_up c (RowRests same r after row_ off still i) = (let e = ap (λ (x : Course). x.bound) same in omega (arith, e))
    bound_up c (RowTakes same r after mark row_ fact steps i) = (let e = ap (λ (x : Course). x.bound) same in omega (arith, e))
    bound_up c (RowMakes same from slot state sets row_ fact logs i) = (let e = ap (λ (x : Course). x.bound) same in omega (arith, e))
    bound_up c (RowLeads r after row_ runs counts l same) = (let e = ap (λ (x : Course). x.bound) same in let up = l.led.leads.bound in omega (arith, e, up))
    bound_up c (RowElects r after ballot row_ off e same) = (let f = ap (λ (x : Course). x.bound) same in omega (arith, f))

    -- the replica of who acts
    abbrev Below_ : Report Command → Type 0
    Below_ report = report.slot < tops_then seat.who

    raised : (r : ReplicaState) → view_at all rows base.core.id seat.who ≡ Some r → RestsAt Below_ r
    raised r view =
        let up = own_up seat.who taken k.tops in
        (Each-weaker (λ (report : Report Command). report.slot < k.tops seat.who) Below_ (λ report low. omega (arith, low, up)) r.acceptor.accepted (k.accepted seat.who r view), k.plain seat.who r view)

    own_rests : (q : ReplicaState) → view_at all (with_event rows seat event) base.core.id seat.who ≡ Some q → RestsAt Below_ q
    own_rests q viewed = by_turn turn
      where
        to : (p : ReplicaState) → view_at all (with_event rows seat event) base.core.id seat.who ≡ Some p → RestsAt Below_ p → RestsAt Below_ q
        to p view rests = subst (λ x. RestsAt Below_ x) (same_Some p q (sym view ∙ viewed)) rests

        by_turn : IsTurn at by words all rows seat event base → RestsAt Below_ q
        by_turn (TurnRests same none) = raised q (sym same ∙ viewed)
        by_turn (TurnCreates none made) = to (born_replica slots_ahead seat.who base) made (tt, refl)
        by_turn (TurnMakes from slot state sets t) = to (made_by seat.who from base.core.id slot state sets).0 t.then_ (made_rests Below_ seat.who from base.core.id slot state sets t.logs.whole.open_)
        by_turn (TurnTold line node r t) = to (ordered_row node.draws line (r, [])).0 t.then_ (order_rests Below_ seat.who node.draws line r (kept_of r t.was) (raised r t.was))
        by_turn (TurnTakes number mail node r t) =
            to (mailed mail.from mail.body (r, [])).0.0 (ap (λ e. view_at all (with_event rows seat e) name seat.who) t.event_is ∙ t.row_.fact)
            (accepts number mail node r t (tops_then seat.who) (λ ballot slot fact. (let e = own_top seat.who taken k.tops ∙ ap (top_of seat.who taken k.tops) fact in omega (arith, e))) mail.body refl (raised r t.row_.was))

    rests_at : (who : ℕ) (q : ReplicaState) → view_at all (with_event rows seat event) base.core.id who ≡ Some q → HasBelow (tops_then who) q × (q.leader.reports ≡ [])
    rests_at who q viewed = elim (cases_eq who seat.who) [
      | inl fact ↦ subst (λ n. HasBelow (tops_then n) q × (q.leader.reports ≡ [])) (sym fact) (own_rests q (subst (λ n. view_at all (with_event rows seat event) base.core.id n ≡ Some q) fact viewed))
      | inr ne ↦ (let view : view_at all rows base.core.id who ≡ Some q = sym (view_others all rows row name who ne) ∙ viewed in
          (subst (λ n. HasBelow n q) (sym (others_top seat.who taken k.tops who ne)) (k.accepted who q view), k.plain who q view))
    ]

    pub asked_then : ((who : ℕ) (q : ReplicaState) → view_at (births as_nodes scenario) (with_event rows seat event) base.core.id who ≡ Some q → IsAtLeast later.ballot q.top) → IsAskedOn words (births as_nodes scenario) (with_event rows seat event) base later
    asked_then seen = record {
      tops = λ who. tops_then who;
      low = λ who. (let l = low_after now (progress_at all then_ base later) seat.who taken sent_dated dated dated_then dated_row k.tops k.low k.above known who in let up = bound_up later kind in omega (arith, l, up));
      above = sent_above now (progress_at all then_ base later) seat.who taken sent_dated dated dated_then dated_row k.tops k.low k.above known (λ who top most. asks_by later kind who top most);
      accepted = λ who q viewed. (rests_at who q viewed).0;
      plain = λ who q viewed. (rests_at who q viewed).1;
      seen = seen;
    }
