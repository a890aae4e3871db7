-- The greatest ballot that each replica saw is no later than the leader's, after one row more.
use Rattle.std.proofs.Common.{◌≡◌, ℕ, ◌-◌, ◌^◌, ◌<◌, true, false, true≢false, List, [], ◌∷◌, ◌++◌, Some, None, ◌⊎◌, inl, inr, refl, sym, ◌∙◌, ap, subst, arith}
use Rattle.std.proofs.lemmas.Bool.{cases_Bool, cases_eq}
use Rattle.sc_base.specs.Definitions.{Each}
use Rattle.sc_node_table.specs.Values.{Ballot, Draw, Command, Base, OrderLine, Mail, MailBody, Prepare, Promise, Accept, Accepted, Nack, Learn, Ask, Install, Seat, Event, Deliver, Report}
use Rattle.sc_actor.specs.Definitions.{mails, numbered, row_of}
use Rattle.sc_live_orderly.specs.OrderlyDefinitions.{IsCalmEvent, AreInTime}
use Rattle.sc_words.specs.paxos.PaxosDefinitions.{below, IsAtLeast}
use Rattle.sc_words.proofs.PaxosProofs.PaxosLemmas.{at_least_itself, at_least_trans, Each-among}
use Rattle.sc_scenario.specs.declared.scenario.scenarios.Scenario.{Scenario}
use Rattle.sc_node_table.specs.NodeDefinitions.{entered, NodeState, group_of_mail, ordered_row, ReplicaState, listed, name_of, next, first_ballot, born_replica, mailed, made_by, slots_ahead}
use Rattle.sc_law_groups.proofs.GroupProofs.GroupLemmas.{number_among}
use Rattle.sc_law_walks.specs.WalkDefinitions.{GoesOn}
use Rattle.sc_meaning.specs.sound.SoundDefinitions.{Player, player_table, births, as_nodes}
use Rattle.sc_live_steps.specs.calm.CalmDefinitions.{players, Rows}
use Rattle.sc_live_steps.specs.following.FollowingDefinitions.{Asks, Teaches, Prepares, mark_of, Course, Sets, IsKnown, IsFit, SlotLeaders}
use Rattle.sc_live_steps.proofs.FollowingProofs.FollowingLemmas.{tables_elect, same_mark}
use Rattle.sc_live_journals.specs.rows.RowDefinitions.{view_at, taken_mark, promise_in, IsSeat, with_event}
use Rattle.sc_live_journals.proofs.RowsProofs.RowLemmas.{entered_name, rows_are, fit, known, view_others}
use Rattle.sc_live_journals.specs.groups.GroupDefinitions.{IsGroupRow, RowPasses, RowRests, RowTakes, RowMakes, RowLeads, RowElects, IsLedStep, Ends, IsWellLed, AreWellBorn, HasOneLog, IsSentSo, IsTopKept}
use Rattle.sc_live_journals.proofs.GroupsProofs.GroupLemmas.{replicas_kept, scenarios_kept_born, scene}
use Rattle.sc_live_journals.specs.mail.MailDefinitions.{JournalsKeepIdle}
use Rattle.sc_live_answers.specs.AnswerDefinitions.{IsAskedOn, IsSentOn, SaysWell}
use Rattle.sc_live_answers.proofs.BallotsProofs.AcceptedReports.{IsPlainMail, StandsAt, asked_low, polled_stands, nacked_low, nacked_stands}
use Rattle.sc_live_answers.proofs.BallotsProofs.PrepareSlotRows.{NamesAlone, FitsMail, kept_of, turn, s, named_is, own_name, marked, most, goes, leader_moves, some_none}
use Rattle.sc_live_answers.proofs.BallotsProofs.Ballots.{All_, mail_sees, order_sees}
use Rattle.sc_live_answers.proofs.BallotsProofs.GreatestBallots.{IsIdleMail, mail_idly, order_idly, taught_idly, installed_keeps, made_keeps, stays_or_may, entered_top}
use Rattle.sc_live_answers.proofs.ReplicasProofs.PlayerEvents.{TurnsMail, IsTurn, TurnRests, TurnCreates, TurnTakes, TurnMakes, TurnTold}
use Rattle.std.proofs.lemmas.Option.{same_Some}

-- what of ballots an event of the group may show to the replica of who acts, which becomes another: none that is later than what it saw; the one that it is asked to promise; one that a refusal names; or its own, with which it runs then
pub data Shows (rows : Rows) (event : Event OrderLine) (base : Base) (r q : ReplicaState) : Type 0 where
  ShowsNone : IsAtLeast r.top q.top → Shows rows event base r q
  ShowsAsked : (ballot : Ballot) → taken_mark base.core.id (mails rows) event ≡ Some (Prepares ballot) → q.top ≡ ballot → Shows rows event base r q
  ShowsRefused : (number : ℕ) (mail : Mail) (promised : Ballot) → event ≡ Deliver number → numbered (mails rows) number ≡ Some mail → mail.body ≡ Nack base.core.id promised → below r.top promised ≡ true → q.top ≡ promised → Shows rows event base r q
  ShowsOwn : q.running ≡ true → Shows rows event base r q

all_any : (reports : List (Report Command)) → Each All_ reports
all_any [] = tt
all_any (report ∷ reports) = (tt, all_any reports)

same_least : (a b : Ballot) → b ≡ a → IsAtLeast a b
same_least a b e = subst (IsAtLeast a) (sym e) (at_least_itself a)

pub topped : (scenario : Scenario) (rows : Rows) (base : Base) (who : ℕ) (r : ReplicaState) → view_at (births as_nodes scenario) rows base.core.id who ≡ Some r → IsTopKept who r
topped scenario rows base who r e = (replicas_kept (births as_nodes scenario) rows base.core.id who r (scenarios_kept_born scenario) e).0

module _ (words : ℕ → ℕ → ℕ × ℕ) (at : Sets) (over : Ends) (by : SlotLeaders) (scenario : Scenario) (rows : Rows) (seat : Seat Player) (event : Event OrderLine) (base : Base) (course : Course) (idle : JournalsKeepIdle) (wb : AreWellBorn (births as_nodes scenario))
    (one : HasOneLog at over by (births as_nodes scenario) (with_event rows seat event) base) (so : IsSentSo (births as_nodes scenario) (with_event rows seat event) base) (timely : AreInTime (players words (births as_nodes scenario)) (with_event rows seat event))
    (born : IsSeat (births as_nodes scenario) seat) (calm : IsCalmEvent (players words (births as_nodes scenario)) rows seat.who event) (was : IsWellLed at over by words (births as_nodes scenario) rows base course) (later : Course)
    (kind : IsGroupRow at over by (births as_nodes scenario) rows seat event base course later) (plain : (r : ReplicaState) → view_at (births as_nodes scenario) rows base.core.id seat.who ≡ Some r → r.leader.reports ≡ []) where
  abbrev all : List (Seat Player)
  all = births as_nodes scenario

  abbrev name : Draw
  name = base.core.id

  -- one that leads has seen its own ballot last
  led_top : (r : ReplicaState) → view_at all rows base.core.id seat.who ≡ Some r → r.running ≡ true → r.top ≡ course.ballot
  led_top r e runs = ((topped scenario rows base seat.who r e).2 runs).0 ∙ (was.followed.given.gives seat.who r e runs).0.led.may.ballot

  -- ---- a leader that runs no longer after the row

  module _ (r q : ReplicaState) (view_r : view_at all rows base.core.id seat.who ≡ Some r) (viewed : view_at all (with_event rows seat event) base.core.id seat.who ≡ Some q) (runs : r.running ≡ true) (off : q.running ≡ false) where
    ran : (x : ReplicaState) → view_at all rows base.core.id seat.who ≡ Some x → x.running ≡ false → ⊥
    ran x e still = true≢false (sym runs ∙ subst (λ (y : ReplicaState). y.running ≡ false) (same_Some x r (sym e ∙ view_r)) still)

    -- it has kept its ballot
    stopped_ballot : (c : Course) → IsGroupRow at over by all rows seat event base course c → q.leader.ballot ≡ course.ballot
    stopped_ballot c (RowPasses same leaves) = elim (leaves.view) [
      | inl same_view ↦ absurd (true≢false (sym (subst (λ (y : ReplicaState). y.running ≡ true) (same_Some r q (sym view_r ∙ (sym same_view ∙ viewed))) runs) ∙ off))
      | inr creation ↦ absurd (some_none r (view_at all rows base.core.id seat.who) view_r creation.0)
    ]
    stopped_ballot c (RowRests same x after row_ still i k) = absurd (ran x row_.was still)
    stopped_ballot c (RowTakes same x after mark row_ fact steps k) =
        absurd (true≢false (sym (steps.runs ∙ subst (λ (y : ReplicaState). y.running ≡ true) (same_Some r x (sym view_r ∙ row_.was)) runs) ∙ (ap (λ (y : ReplicaState). y.running) (same_Some after.0 q (sym row_.fact ∙ viewed)) ∙ off)))
    stopped_ballot c (RowMakes same from slot state sets row_ fact logs k) = absurd (some_none r (view_at all rows base.core.id seat.who) view_r row_.was)
    stopped_ballot c (RowElects x after ballot row_ still e same) = absurd (ran x row_.was still)
    stopped_ballot c (RowLeads x after row_ on counts l same) =
        let fact : after.0 ≡ q = same_Some after.0 q (sym row_.fact ∙ viewed) in
        let stops = (l.led.leads.stops (ap (λ (y : ReplicaState). y.running) fact ∙ off)).0 in
        let from = (was.followed.given.gives seat.who x row_.was on).0.newest in
        let to = l.led.leads.newest in
        elim (leader_moves words at over by scenario rows seat event base course idle wb one so timely born calm was x after row_ on l.led.leads.takes) [
          | inl none ↦ absurd (omega (arith, stops, from, to, none))
          | inr goes_ ↦ subst (λ (y : ReplicaState). y.leader.ballot ≡ course.ballot) fact goes_.1
        ]

  -- ---- a mail for its replica

  module _ (number : ℕ) (mail : Mail) (node : NodeState) (r : ReplicaState) (t : TurnsMail words (births as_nodes scenario) rows seat event base number mail node r) where
    abbrev after : ReplicaState
    after = (mailed mail.from mail.body (r, [])).0.0

    abbrev Shown : Type 0
    Shown = Shows rows event base r (mailed mail.from mail.body (r, [])).0.0

    viewed : view_at all (with_event rows seat event) base.core.id seat.who ≡ Some (mailed mail.from mail.body (r, [])).0.0
    viewed = ap (λ e. view_at all (with_event rows seat e) name seat.who) t.event_is ∙ t.row_.fact

    named_as : NamesAlone base mail
    named_as g e = own_name words at over by scenario rows seat event base course idle wb one so timely born calm was number mail node r t g e

    fits : FitsMail base mail r
    fits mark fact =
        fit at words all rows seat node base course (scene at over by words all rows seat node base course (s words at over by scenario rows seat event base course idle wb one so timely born calm was number mail node r t)) number mail t.takes r t.has mark fact
        (mailed mail.from mail.body (r, [])).0 t.row_

    stands : (T : Ballot → Type 0) → T r.top → StandsAt All_ T r
    stands T k = ((all_any r.acceptor.accepted, plain r t.row_.was), k)

    -- a mail that the replica takes while it leads
    by_leader : r.running ≡ true → IsPlainMail All_ mail.body → Shown
    by_leader runs is_plain = elim (cases_Bool after.running) [
      | inl on ↦ ShowsOwn on
      | inr off ↦ elim (mail_sees seat.who mail.from mail.body r (kept_of words at over by scenario rows seat event base course idle wb one so timely born calm was r t.row_.was) is_plain) [
        | inl low ↦ ShowsNone low
        | inr own ↦ ShowsNone (same_least r.top after.top (sym own ∙ (stopped_ballot r after t.row_.was viewed runs off later kind ∙ sym (led_top r t.row_.was runs))))
      ]
    ]

    -- a mail that the replica takes, whether it leads or not
    plainly : IsPlainMail All_ mail.body → (r.running ≡ false → Shown) → Shown
    plainly is_plain idly = elim (cases_Bool r.running) [ inl runs ↦ by_leader runs is_plain | inr off ↦ idly off ]

    idly : IsPlainMail All_ mail.body → IsIdleMail r mail.body → Shown
    idly is_plain is_idle = plainly is_plain (λ off. ShowsNone (same_least r.top after.top (mail_idly r mail.from mail.body is_idle off).1))

    -- an entry that is learnt
    told : (g : Draw) (slot : ℕ) (command : Command) → mail.body ≡ Learn g slot command → r.running ≡ false → Shown
    told g slot command e off =
        let body : mail.body ≡ Learn name slot command = e ∙ ap (λ n. Learn n slot command) (named_as g (ap group_of_mail e)) in
        let f : IsFit (next r) r.acceptor.promised (Teaches slot) = fits (Teaches slot) (ap (mark_of name mail.from) body ∙ same_mark name (Teaches slot)) in
        let log = one.told rows seat number mail slot command r t.delivers body t.row_.was f.1 in
        let none = ((kept_of words at over by scenario rows seat event base course idle wb one so timely born calm was r t.row_.was).2.0 off).0 in
        let rounds = one.rounds rows (row_of player_table seat rows event ∷ []) seat.who r refl t.row_.was in
        elim (stays_or_may (entered command r) (subst (λ (b : Ballot). b.round < 2 ^ 32 - 1) (sym (entered_top command r)) rounds.later)) [
          | inl stays ↦ ShowsNone (same_least r.top after.top (ap (λ b. (mailed mail.from b (r, [])).0.0.top) e ∙ (taught_idly r mail.from g slot command off none f.1 log.0 stays).1))
          | inr may ↦ (let own : mail.body ≡ Learn (name_of r) slot command = body ∙ ap (λ n. Learn n slot command) (sym (named_is words at over by scenario rows seat event base course idle wb one so timely born calm was number mail node r t)) in
              ShowsOwn (ap (λ b. (mailed mail.from b (r, [])).0.0.running) own ∙ (tables_elect mail.from slot command r f off none log.0 may (entered_name command r)).runs))
        ]

    shows : (b : MailBody) → mail.body ≡ b → Shown
    shows (Accept g ballot slot command) e =
        let f : IsFit (next r) r.acceptor.promised (Asks ballot slot) = fits (Asks ballot slot) (ap (mark_of name mail.from) (e ∙ ap (λ n. Accept n ballot slot command) (named_as g (ap group_of_mail e))) ∙ same_mark name (Asks ballot slot)) in
        let low : below r.top ballot ≡ false = subst (IsAtLeast r.top) (sym f.2) (topped scenario rows base seat.who r t.row_.was).1 in
        let least = subst (IsAtLeast course.ballot) (sym f.2) (most words at over by scenario rows seat event base course idle wb one so timely born calm was number mail node r t) in
        ShowsNone (same_least r.top after.top (ap (λ b. (mailed mail.from b (r, [])).0.0.top) e ∙ (asked_low All_ (λ x. x ≡ r.top) mail.from g ballot slot command r (goes words at over by scenario rows seat event base course idle wb one so timely born calm was number mail node r t ballot least) low tt (stands (λ x. x ≡ r.top) refl)).1))
    shows (Prepare g ballot from_slot) e =
        let fact : mark_of name mail.from mail.body ≡ Some (Prepares ballot) = ap (mark_of name mail.from) (e ∙ ap (λ n. Prepare n ballot from_slot) (named_as g (ap group_of_mail e))) ∙ same_mark name (Prepares ballot) in
        let known = known_prepare ballot fact in
        let either = (polled_stands All_ (λ x. (x ≡ r.top) ⊎ (x ≡ ballot)) mail.from g ballot from_slot r (goes words at over by scenario rows seat event base course idle wb one so timely born calm was number mail node r t ballot known) (inr refl) (stands (λ x. (x ≡ r.top) ⊎ (x ≡ ballot)) (inl refl))).1 in
        elim either [
          | inl same ↦ ShowsNone (same_least r.top after.top (ap (λ b. (mailed mail.from b (r, [])).0.0.top) e ∙ same))
          | inr new ↦ ShowsAsked ballot (marked words at over by scenario rows seat event base course idle wb one so timely born calm was number mail node r t (Prepares ballot) fact) (ap (λ b. (mailed mail.from b (r, [])).0.0.top) e ∙ new)
        ]
      where
        known_prepare : (ballot : Ballot) → mark_of base.core.id mail.from mail.body ≡ Some (Prepares ballot) → IsAtLeast course.ballot ballot
        known_prepare ballot fact =
            known at words all rows seat node base course (scene at over by words all rows seat node base course (s words at over by scenario rows seat event base course idle wb one so timely born calm was number mail node r t)) number mail t.takes (Prepares ballot) fact
    shows (Nack g promised) e =
        let body : mail.body ≡ Nack name promised = e ∙ ap (λ n. Nack n promised) (named_as g (ap group_of_mail e)) in
        let on : GoesOn promised r = so.nacks rows seat number mail promised r t.delivers body t.row_.was in
        elim (cases_Bool (below r.top promised)) [
          | inr low ↦ ShowsNone (same_least r.top after.top (ap (λ b. (mailed mail.from b (r, [])).0.0.top) e ∙ (nacked_low All_ (λ x. x ≡ r.top) mail.from g promised r on low (stands (λ x. x ≡ r.top) refl)).1))
          | inl up ↦ elim ((nacked_stands All_ (λ x. (x ≡ r.top) ⊎ (x ≡ promised)) mail.from g promised r on (inr refl) (stands (λ x. (x ≡ r.top) ⊎ (x ≡ promised)) (inl refl))).1) [
            | inl same ↦ ShowsNone (same_least r.top after.top (ap (λ b. (mailed mail.from b (r, [])).0.0.top) e ∙ same))
            | inr new ↦ ShowsRefused number mail promised t.event_is t.takes.sent body up (ap (λ b. (mailed mail.from b (r, [])).0.0.top) e ∙ new)
          ]
        ]
    shows (Learn g slot command) e = plainly (subst (IsPlainMail All_) (sym e) tt) (λ off. told g slot command e off)
    shows (Install g slot state sets) e = plainly (subst (IsPlainMail All_) (sym e) tt) (λ off. elim (installed_keeps r mail.from g slot state sets off) [
      | inl runs ↦ ShowsOwn (ap (λ b. (mailed mail.from b (r, [])).0.0.running) e ∙ runs)
      | inr same ↦ ShowsNone (same_least r.top after.top (ap (λ b. (mailed mail.from b (r, [])).0.0.top) e ∙ same))
    ])
    shows (Ask g from_slot) e = absurd (so.asks rows seat number mail from_slot t.delivers (e ∙ ap (λ n. Ask n from_slot) (named_as g (ap group_of_mail e))))
    shows (Promise g ballot reports) e =
        let body : mail.body ≡ Promise name ballot reports = e ∙ ap (λ n. Promise n ballot reports) (named_as g (ap group_of_mail e)) in
        idly (subst (IsPlainMail All_) (sym e) (so.plain rows seat number mail ballot reports t.delivers body)) (subst (IsIdleMail r) (sym e) tt)
    shows (Accepted g ballot slot) e = idly (subst (IsPlainMail All_) (sym e) tt) (subst (IsIdleMail r) (sym e) tt)
    shows _ e = idly (subst (IsPlainMail All_) (sym e) tt) (subst (IsIdleMail r) (sym e) tt)

  -- ---- an order

  module _ (line : OrderLine) (node : NodeState) (r : ReplicaState) (view_r : view_at all rows base.core.id seat.who ≡ Some r) (viewed : view_at all (with_event rows seat event) base.core.id seat.who ≡ Some (ordered_row node.draws line (r, [])).0) where
    shows_order : Shows rows event base r (ordered_row node.draws line (r, [])).0
    shows_order = elim (cases_Bool r.running) [
      | inr off ↦ ShowsNone (same_least r.top (ordered_row node.draws line (r, [])).0.top (order_idly r node.draws line off).1)
      | inl runs ↦ elim (cases_Bool (ordered_row node.draws line (r, [])).0.running) [
        | inl on ↦ ShowsOwn on
        | inr off ↦ elim (order_sees seat.who node.draws line r (kept_of words at over by scenario rows seat event base course idle wb one so timely born calm was r view_r)) [
          | inl low ↦ ShowsNone low
          | inr own ↦ ShowsNone (same_least r.top (ordered_row node.draws line (r, [])).0.top (sym own ∙ (stopped_ballot r (ordered_row node.draws line (r, [])).0 view_r viewed runs off later kind ∙ sym (led_top r view_r runs))))
        ]
      ]
    ]

  -- ---- whatever it is: the replica that was there, or a new one

  -- a new one saw the group's first ballot, or runs
  abbrev pub Begins : ReplicaState → Type 0
  Begins q = (q.running ≡ true) ⊎ (q.top ≡ first_ballot base.core)

  pub shown : (q : ReplicaState) → view_at (births as_nodes scenario) (with_event rows seat event) base.core.id seat.who ≡ Some q
      → ((r : ReplicaState) × (view_at (births as_nodes scenario) rows base.core.id seat.who ≡ Some r) × Shows rows event base r q) ⊎ ((view_at (births as_nodes scenario) rows base.core.id seat.who ≡ None) × Begins q)
  shown q fact = by_turn (turn words at over by scenario rows seat event base course idle wb one so timely born calm was)
    where
      Result : ReplicaState → Type 0
      Result x = ((r : ReplicaState) × (view_at all rows base.core.id seat.who ≡ Some r) × Shows rows event base r x) ⊎ ((view_at all rows base.core.id seat.who ≡ None) × Begins x)

      to : (p : ReplicaState) → view_at all (with_event rows seat event) base.core.id seat.who ≡ Some p → Result p → Result q
      to p view_p k = subst (λ x. Result x) (same_Some p q (sym view_p ∙ fact)) k

      by_turn : IsTurn at by words all rows seat event base → Result q
      by_turn (TurnRests same none) = inl (q, sym same ∙ fact, ShowsNone (at_least_itself q.top))
      by_turn (TurnCreates none made) = to (born_replica slots_ahead seat.who base) made (inr (none, inr refl))
      by_turn (TurnTakes number mail node r t) = to (mailed mail.from mail.body (r, [])).0.0 (viewed number mail node r t) (inl (r, t.row_.was, shows number mail node r t mail.body refl))
      by_turn (TurnMakes from slot state sets t) = to (made_by seat.who from base.core.id slot state sets).0 t.then_ (elim (made_keeps seat.who from base.core.id slot state sets) [ inl runs ↦ inr (t.was, inl runs) | inr same ↦ inr (t.was, inr (same ∙ t.logs.firsts)) ])
      by_turn (TurnTold line node r t) = to (ordered_row node.draws line (r, [])).0 t.then_ (inl (r, t.was, shows_order line node r t.was t.then_))

-- ---- so none saw a later ballot than the leader's

module _ (words : ℕ → ℕ → ℕ × ℕ) (at : Sets) (over : Ends) (by : SlotLeaders) (scenario : Scenario) (rows : Rows) (seat : Seat Player) (event : Event OrderLine) (base : Base) (course : Course) (idle : JournalsKeepIdle) (wb : AreWellBorn (births as_nodes scenario))
    (one : HasOneLog at over by (births as_nodes scenario) (with_event rows seat event) base) (so : IsSentSo (births as_nodes scenario) (with_event rows seat event) base) (timely : AreInTime (players words (births as_nodes scenario)) (with_event rows seat event))
    (born : IsSeat (births as_nodes scenario) seat) (calm : IsCalmEvent (players words (births as_nodes scenario)) rows seat.who event) (was : IsWellLed at over by words (births as_nodes scenario) rows base course)
    (sent : IsSentOn at words (births as_nodes scenario) rows base course) (k : IsAskedOn words (births as_nodes scenario) rows base course) (step : IsLedStep at over by words (births as_nodes scenario) rows seat event base course)
    (rises : (b : Ballot) → IsAtLeast course.ballot b → IsAtLeast step.later.ballot b) where
  abbrev all_ : List (Seat Player)
  all_ = births as_nodes scenario

  -- one that runs after it saw its own ballot last
  own_top : (q : ReplicaState) → view_at all_ (with_event rows seat event) base.core.id seat.who ≡ Some q → q.running ≡ true → IsAtLeast step.later.ballot q.top
  own_top q viewed runs =
      let top = ((replicas_kept all_ (with_event rows seat event) base.core.id seat.who q (scenarios_kept_born scenario) viewed).0.2 runs).0 in
      same_least step.later.ballot q.top (top ∙ (step.led.followed.given.gives seat.who q viewed runs).0.led.may.ballot)

  asked_low_ : (ballot : Ballot) → taken_mark base.core.id (mails rows) event ≡ Some (Prepares ballot) → IsAtLeast course.ballot ballot
  asked_low_ ballot fact =
      let row = rows_are words all_ rows (row_of player_table seat rows event) base course course timely in
      (subst (Each (IsKnown course)) (row.takes ∙ ap (λ o. listed o ++ row.left) fact) (was.followed.follows.known seat.who)).0

  refused_low : (number : ℕ) (mail : Mail) (promised : Ballot) → numbered (mails rows) number ≡ Some mail → mail.body ≡ Nack base.core.id promised → IsAtLeast course.ballot promised
  refused_low number mail promised sent_at body =
      subst (SaysWell base.core.id course.ballot) body (Each-among (λ (m : Mail). SaysWell base.core.id course.ballot m.body) (mails rows) mail sent.says (number_among (mails rows) number mail sent_at)) refl

  own_seen : (q : ReplicaState) → view_at (births as_nodes scenario) (with_event rows seat event) base.core.id seat.who ≡ Some q → IsAtLeast step.later.ballot q.top
  own_seen q viewed = by_shown (shown words at over by scenario rows seat event base course idle wb one so timely born calm was step.later step.row (λ r e. k.plain seat.who r e) q viewed)
    where
      by_shows : (r : ReplicaState) → view_at all_ rows base.core.id seat.who ≡ Some r → Shows rows event base r q → IsAtLeast step.later.ballot q.top
      by_shows r e (ShowsNone low) = rises q.top (at_least_trans course.ballot r.top q.top (k.seen seat.who r e) low)
      by_shows r e (ShowsAsked ballot fact same) = subst (IsAtLeast step.later.ballot) (sym same) (rises ballot (asked_low_ ballot fact))
      by_shows r e (ShowsRefused number mail promised is_event sent_at body up same) = subst (IsAtLeast step.later.ballot) (sym same) (rises promised (refused_low number mail promised sent_at body))
      by_shows r e (ShowsOwn runs) = own_top q viewed runs

      by_begins : view_at all_ rows base.core.id seat.who ≡ None → (q.running ≡ true) ⊎ (q.top ≡ first_ballot base.core) → IsAtLeast step.later.ballot q.top
      by_begins none (inl runs) = own_top q viewed runs
      by_begins none (inr first) = subst (IsAtLeast step.later.ballot) (sym first) (rises (first_ballot base.core) (subst (λ o. IsAtLeast course.ballot (promise_in base o)) none (was.followed.follows.promised seat.who)))

      by_shown : ((r : ReplicaState) × (view_at all_ rows base.core.id seat.who ≡ Some r) × Shows rows event base r q) ⊎ ((view_at all_ rows base.core.id seat.who ≡ None) × ((q.running ≡ true) ⊎ (q.top ≡ first_ballot base.core))) → IsAtLeast step.later.ballot q.top
      by_shown (inl old) = by_shows old.0 old.1 old.2
      by_shown (inr new) = by_begins new.0 new.1

  pub seen_then : (who : ℕ) (q : ReplicaState) → view_at (births as_nodes scenario) (with_event rows seat event) base.core.id who ≡ Some q → IsAtLeast step.later.ballot q.top
  seen_then who q viewed = elim (cases_eq who seat.who) [
    | inl fact ↦ own_seen q (subst (λ n. view_at all_ (with_event rows seat event) base.core.id n ≡ Some q) fact viewed)
    | inr ne ↦ rises q.top (k.seen who q (sym (view_others all_ rows (row_of player_table seat rows event) base.core.id who ne) ∙ viewed))
  ]
