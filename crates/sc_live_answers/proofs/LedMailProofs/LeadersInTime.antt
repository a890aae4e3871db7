-- A group of a journal whose rows come in time has leaders, and is well led after each of them.
use Rattle.sc_live_journals.proofs.GroupsProofs.PrefixesInTime.{kept_by_all}
use Rattle.std.proofs.Common.{◌≡◌, ℕ, ◌+◌, ◌≤◌, true, false, List, [], ◌∷◌, ◌++◌, Option, Some, None, inl, inr, refl, sym, ◌∙◌, ap, subst, arith, append_assoc, append-nil}
use Rattle.std.proofs.lemmas.Bool.{lt-ltb, le-ltb}
use Rattle.sc_base.specs.Definitions.{Among, Each}
use Rattle.sc_node_table.specs.Values.{Draw, Base, OrderLine, Mail, Install, Seat, Event, Row}
use Rattle.sc_actor.specs.Definitions.{mails, row_of}
use Rattle.sc_actor.proofs.Lemmas.{mails-append, mails-snoc}
use Rattle.sc_live_orderly.specs.OrderlyDefinitions.{IsCalmEvent, AreInTime}
use Rattle.sc_words.proofs.PaxosProofs.PaxosLemmas.{Each-among, Each-append}
use Rattle.sc_scenario.specs.declared.scenario.scenarios.Scenario.{Scenario}
use Rattle.sc_node_table.specs.NodeDefinitions.{ReplicaState, next, last_slot}
use Rattle.sc_meaning.specs.sound.SoundDefinitions.{Player, player_table, births, as_nodes}
use Rattle.sc_live_steps.specs.calm.CalmDefinitions.{players}
use Rattle.sc_law_entries.specs.logs.LogDefinitions.{Rows}
use Rattle.sc_law_groups.proofs.GroupProofs.GroupLemmas.{number_among}
use Rattle.sc_live_steps.specs.following.FollowingDefinitions.{Mark, Installs, Prepares, mark_of, Course, Sets, members_at, SlotLeaders, marks_for}
use Rattle.sc_live_steps.proofs.FollowingProofs.FollowingLemmas.{least_in, among-either, reached-least, same_mark}
use Rattle.sc_live_journals.specs.rows.RowDefinitions.{next_in, view_at, marks_at, progress_at, led_course, IsSeat, with_event}
use Rattle.sc_live_journals.specs.logs.LogDefinitions.{logged_sets, IsGroupOf, SlotsHaveRosters}
use Rattle.sc_live_journals.specs.groups.GroupDefinitions.{ReplicasAreKept, ScenariosAreKeptBorn, IsGroupRow, RowPasses, RowRests, RowTakes, RowMakes, RowLeads, RowElects, IsLedStep, Ends, IsWellLed, IsLedOn, CountsAsMember, IsStateFrom, IsRowOf, Delivers, HasOneLog, IsSentSo, ScenariosAreWellBorn, EventsGoOn}
use Rattle.sc_live_journals.proofs.GroupsProofs.GroupLemmas.{each_among, among_marks}
use Rattle.sc_live_answers.specs.AnswerDefinitions.{over_at, HasLeaders, LedLogsAreOne, has_executed, first_to, slot_leaders_at, AreFew, GroupsBeginLed, GroupsAreLed, LedRowsGoOn}
use Rattle.sc_live_answers.proofs.LedGroupsProofs.SlotLeaders.{last_parts, first_hit, none_hit, slot_leader_member, slot_leader_first, answers_none, offers_none, tells_within}
use Rattle.sc_live_answers.proofs.LedGroupsProofs.SingleLogs.{whole_split}

pub none_behind : (before : Rows) (row : Row Mail OrderLine) (more : Rows) → [] ≡ (before ++ row ∷ []) ++ more → ⊥
none_behind [] row more e = cc
none_behind (x ∷ before) row more e = cc

-- what is known of the mail of some rows is known of that of the first of them
sent_before : (rows before more : Rows) (mail : Mail) → rows ≡ before ++ more → Among mail (mails before) → Among mail (mails rows)
sent_before rows before more mail e a = subst (λ l. Among mail (mails l)) (sym e) (subst (Among mail) (sym (mails-append before more)) (left (mails before) a))
  where
    left : (xs : List Mail) → Among mail xs → Among mail (xs ++ mails more)
    left [] a = absurd a
    left (x ∷ xs) (inl fact) = inl fact
    left (x ∷ xs) (inr b) = inr (left xs b)

-- a row of first rows is one of all
longer_row : (all rows more : Rows) → all ≡ rows ++ more → {before : Rows} {seat : Seat Player} {event : Event OrderLine} → IsRowOf rows before seat event → IsRowOf all before seat event
longer_row all rows more e {before} {seat} {event} row = record { more = row.more ++ more; fact = e ∙ (ap (λ l. l ++ more) row.fact ∙ append_assoc (with_event before seat event) row.more more) }

longer_mail : (all rows more : Rows) → all ≡ rows ++ more → {before : Rows} {seat : Seat Player} {number : ℕ} {mail : Mail} → Delivers rows before seat number mail → Delivers all before seat number mail
longer_mail all rows more e d = record { row = longer_row all rows more e d.row; sent = d.sent }

-- mail that is sent so in all rows is so in the first
sent_so : (seats : List (Seat Player)) (all rows more : Rows) (base : Base) → all ≡ rows ++ more → IsSentSo seats all base → IsSentSo seats rows base
sent_so seats all rows more base e so = record {
  comes = λ before seat number mail d. so.comes before seat number mail (longer_mail all rows more e d);
  clients = λ before seat number mail client d. so.clients before seat number mail client (longer_mail all rows more e d);
  finds = λ before seat number mail node d. so.finds before seat number mail node (longer_mail all rows more e d);
  asks = λ before seat number mail from_slot d. so.asks before seat number mail from_slot (longer_mail all rows more e d);
  plain = λ before seat number mail ballot reports d. so.plain before seat number mail ballot reports (longer_mail all rows more e d);
  nacks = λ before seat number mail promised r d. so.nacks before seat number mail promised r (longer_mail all rows more e d);
}

module _ (well : ScenariosAreWellBorn) (kept : ScenariosAreKeptBorn) (keeps : ReplicasAreKept) (go_on : EventsGoOn) (one_log : LedLogsAreOne) (rosters : SlotsHaveRosters) (begins : GroupsBeginLed) where
  module _ (words : ℕ → ℕ → ℕ × ℕ) (scenario : Scenario) (journal prefix rest : Rows) (base : Base) (group : IsGroupOf as_nodes words scenario journal base) (few : AreFew as_nodes scenario journal base) (split : journal ≡ prefix ++ rest)
      (so : IsSentSo (births as_nodes scenario) prefix base) where
    abbrev all : List (Seat Player)
    all = births as_nodes scenario

    abbrev name : Draw
    name = base.core.id

    abbrev at : Sets
    at = logged_sets as_nodes base journal

    abbrev over : Ends
    over = over_at as_nodes base journal

    abbrev by : SlotLeaders
    by = slot_leaders_at as_nodes scenario base journal

    -- a state that is sent is of one who leads at its slot
    abbrev GivesAllowedOrder : Mail → Type 0
    GivesAllowedOrder mail = (slot : ℕ) (state : Base) (sets : List (List ℕ)) → mail.body ≡ Install base.core.id slot state sets → (mail.from ≡ by slot) × (slot ≤ last_slot)

    -- a leader of these rows counts what it executes as a member
    abbrev CountedIn : Rows → Type 0
    CountedIn rows = (before : Rows) (seat : Seat Player) (event : Event OrderLine) (r after : ReplicaState) → IsRowOf rows before seat event → view_at all before name seat.who ≡ Some r → r.running ≡ true → view_at all (with_event before seat event) name seat.who ≡ Some after
        → CountsAsMember at by r after seat.who

    -- what goes on from row to row
    record Goes (rows : Rows) : Type 0 where
      course : Course
      led : IsWellLed at over by words all rows base course
      fresh : (slot : ℕ) → course.newest ≤ slot → first_to all name slot [] rows ≡ None
      sent : Each GivesAllowedOrder (mails rows)
      counted : CountedIn rows

    has_leaders : (rows more : Rows) → journal ≡ rows ++ more → ((before : Rows) (row : Row Mail OrderLine) (after : Rows) → rows ≡ before ++ row ∷ after → (mail : Mail) → Among mail (mails before) → GivesAllowedOrder mail) → CountedIn rows
        → HasLeaders as_nodes by scenario journal rows base
    has_leaders rows more e sent counted = record {
      leads = λ slot. slot_leader_member (members_at at slot) (first_to all name slot [] journal) (least_in (members_at at slot) (rosters.rosters as_nodes words scenario journal base group (slot + 3)).some);
      rounds = λ before after who r f view. record { seen = (keeps all before name who r (kept scenario) view).0.1; later = (few before (after ++ more) who r (parts before after f) view).1 };
      told = λ before seat number mail slot command r d body view there.
          (let low = (few before ((row_of player_table seat before _ ∷ d.row.more) ++ more) seat.who r (parts before _ (d.row.fact ∙ append_assoc before (_ ∷ []) d.row.more)) view).0 in omega (arith, low, there));
      sent = λ before seat number mail slot state sets d body.
          sent before _ d.row.more (d.row.fact ∙ append_assoc before (_ ∷ []) d.row.more) mail (number_among (mails before) number mail d.sent) slot state sets body;
      counted = counted;
    }
      where
        parts : (before after : Rows) → rows ≡ before ++ after → journal ≡ before ++ (after ++ more)
        parts before after f = e ∙ (ap (λ l. l ++ more) f ∙ append_assoc before after more)

    -- who executes something first, as a member, leads there
    new_counts : (before : Rows) (seat : Seat Player) (event : Event OrderLine) (r after : ReplicaState) (tail : Rows) → journal ≡ with_event before seat event ++ tail → view_at all before name seat.who ≡ Some r → r.running ≡ true
        → view_at all (with_event before seat event) name seat.who ≡ Some after → Goes before → CountsAsMember at by r after seat.who
    new_counts before seat event r after tail e view runs then_ g members slot least most =
        slot_leader_first (members_at at slot) (first_to all name slot [] journal) seat.who
        (ap (first_to all name slot []) (e ∙ append_assoc before (row_of player_table seat before event ∷ []) tail)
        ∙ first_hit all name slot [] before (row_of player_table seat before event) tail (g.fresh slot low) (ap (has_executed slot) then_ ∙ lt-ltb slot (next after) most))
        (members slot least most)
      where
        low : g.course.newest ≤ slot
        low = (let fact = (g.led.followed.given.gives seat.who r view runs).0.newest in omega (arith, least, fact))

    -- ---- one row more

    module _ (rows : Rows) (seat : Seat Player) (event : Event OrderLine) (more : Rows) (starts : prefix ≡ with_event rows seat event ++ more) (born : IsSeat (births as_nodes scenario) seat) (calm : IsCalmEvent (players words (births as_nodes scenario)) rows seat.who event)
        (timely : AreInTime (players words (births as_nodes scenario)) (with_event rows seat event)) (g : Goes rows) where
      abbrev then_ : Rows
      then_ = with_event rows seat event

      abbrev row : Row Mail OrderLine
      row = row_of player_table seat rows event

      in_journal : journal ≡ then_ ++ (more ++ rest)
      in_journal = whole_split journal prefix rest split then_ more starts

      counted_then : CountedIn then_
      counted_then before who event2 r after i view runs next_ =
          elim (last_parts rows row before (row_of player_table who before event2) i.more (i.fact ∙ append_assoc before (row_of player_table who before event2 ∷ []) i.more)) [
            | inl p ↦ new_counts before who event2 r after (i.more ++ (more ++ rest)) (in_journal ∙ (ap (λ l. l ++ (more ++ rest)) i.fact ∙ append_assoc (with_event before who event2) i.more (more ++ rest))) view runs next_ (subst Goes (sym p.0) g)
            | inr q ↦ g.counted before who event2 r after (record { more = q.0; fact = q.1 ∙ sym (append_assoc before (row_of player_table who before event2 ∷ []) q.0) }) view runs next_
          ]

      sent_then : (before : Rows) (other : Row Mail OrderLine) (after : Rows) → then_ ≡ before ++ other ∷ after → (mail : Mail) → Among mail (mails before) → GivesAllowedOrder mail
      sent_then before other after e mail a = Each-among GivesAllowedOrder (mails rows) mail g.sent (elim (last_parts rows row before other after e) [
        | inl p ↦ subst (λ l. Among mail (mails l)) p.0 a
        | inr q ↦ sent_before rows before (other ∷ q.0) mail q.1 a
      ])

      one : HasOneLog at over by all then_ base
      one = one_log as_nodes words by scenario journal then_ (more ++ rest) base group in_journal (has_leaders then_ (more ++ rest) in_journal sent_then counted_then)

      step : IsLedStep at over by words all rows seat event base g.course
      step = go_on at over by words all then_ base (well scenario) one (sent_so all prefix then_ more base starts so) rows seat event g.course (record { more = []; fact = sym (append-nil then_) }) born calm timely g.led

      -- the newest state is no older
      rises : (later : Course) → IsGroupRow at over by all rows seat event base g.course later → g.course.newest ≤ later.newest
      rises later (RowPasses same leaves) = (let fact = ap (λ (c : Course). c.newest) same in omega (arith, fact))
      rises later (RowRests same r after row_ off still idle) = (let fact = ap (λ (c : Course). c.newest) same in omega (arith, fact))
      rises later (RowTakes same r after mark row_ taken steps takes) = (let fact = ap (λ (c : Course). c.newest) same in omega (arith, fact))
      rises later (RowMakes same from slot state sets row_ taken logs takes) = (let fact = ap (λ (c : Course). c.newest) same in omega (arith, fact))
      rises later (RowLeads r after row_ runs counts l same) = (let fact = ap (λ (c : Course). c.newest) same in let up = l.led.leads.newest in omega (arith, fact, up))
      rises later (RowElects r after ballot row_ off e same) = (let fact = ap (λ (c : Course). c.newest) same in omega (arith, fact))

      fresh_then : (slot : ℕ) → step.later.newest ≤ slot → first_to all name slot [] then_ ≡ None
      fresh_then slot least =
          none_hit all name slot [] rows row (g.fresh slot (let up = rises step.later step.row in omega (arith, up, least))) (by_view (view_at all then_ name seat.who) refl)
        where
          by_view : (o : Option ReplicaState) → view_at all then_ name seat.who ≡ o → has_executed slot o ≡ false
          by_view None e = refl
          by_view (Some q) e =
              let now = progress_at all then_ base step.later in
              let marks = marks_at (players words all) then_ name seat.who in
              let most = step.led.followed.follows.within seat.who in
              let up = reached-least (now.next seat.who) (now.promise seat.who) marks (step.led.followed.follows.fits seat.who) in
              let fact = ap (next_in base seat.who) e in
              le-ltb slot (next q) (omega (arith, most, up, fact, least))

      -- a state that it sends
      module _ (mail : Mail) (a : Among mail (row_of player_table seat rows event).sent) (slot : ℕ) (state : Base) (sets : List (List ℕ)) (body : mail.body ≡ Install base.core.id slot state sets) where
        abbrev sent_marks : List Mark
        sent_marks = marks_for name mail.to row.sent

        there : Among (Installs slot) sent_marks
        there = among_marks name row.sent mail (Installs slot) a (ap (mark_of name mail.from) body ∙ same_mark name (Installs slot))

        none_sent : sent_marks ≡ [] → ⊥
        none_sent e = subst (Among (Installs slot)) e there

        by_row : (later : Course) → IsGroupRow at over by all rows seat event base g.course later → (mail.from ≡ by slot) × (slot ≤ last_slot)
        by_row later (RowPasses same leaves) = absurd (none_sent ((leaves.idle g.course).sends mail.to))
        by_row later (RowRests same r after row_ off still idle) = absurd (none_sent (idle.sends mail.to))
        by_row later (RowTakes same r after mark row_ taken steps takes) = absurd (answers_none seat.who _ takes.mark mail.to slot (subst (Among (Installs slot)) (takes.sends mail.to) there))
        by_row later (RowMakes same from other state2 sets2 row_ taken logs takes) = absurd (answers_none seat.who _ takes.mark mail.to slot (subst (Among (Installs slot)) (takes.sends mail.to) there))
        by_row later (RowElects r after ballot row_ off e same) = elim (e.self_election.sends mail.to) [
          | inl none ↦ absurd (none_sent none)
          | inr asks ↦ absurd (no_state (subst (Among (Installs slot)) asks.1 there))
        ]
          where
            no_state : Among (Installs slot) (Prepares ballot ∷ []) → ⊥
            no_state (inl i) = cc
            no_state (inr i) = absurd i
        by_row later (RowLeads r after row_ runs counts l same) =
            elim (among-either (Installs slot) _ (l.led.leads.offers mail.to) (subst (Among (Installs slot)) (l.led.leads.sends mail.to) there)) [
              | inl told ↦ (let in_ = tells_within at g.course l.led.leads.executed g.course.newest mail.to slot told in
                  let low = in_.0 in
                  let high = in_.1 in
                  let up = l.led.leads.newest in
                  let fact = (g.led.followed.given.gives seat.who r row_.was runs).0.newest in
                  let room = (few then_ (more ++ rest) seat.who after.0 in_journal row_.fact).0 in
                  (Each-among (IsStateFrom name seat.who) after.1 mail l.states (subst (Among mail) row_.sends_all a) slot state sets body ∙ sym (counts slot (omega (arith, low, fact)) (omega (arith, high, up))), omega (arith, high, up, room)))
              | inr offered ↦ absurd (offers_none at (led_course l.led.bound g.course after.0) g.course.bound mail.to slot (l.led.leads.offers mail.to) (l.led.leads.asks mail.to) offered)
            ]

        told_so : (mail.from ≡ by slot) × (slot ≤ last_slot)
        told_so = by_row step.later step.row

      goes_on : Goes then_
      goes_on = record {
        course = step.later;
        led = step.led;
        fresh = fresh_then;
        sent = subst (Each GivesAllowedOrder) (sym (mails-snoc rows row)) (Each-append GivesAllowedOrder (mails rows) row.sent g.sent (each_among GivesAllowedOrder row.sent told_so));
        counted = counted_then;
      }

    -- ---- all rows

    begin : IsLedOn at over by words all [] base → Goes []
    begin led = record { course = led.0; led = led.1; fresh = λ slot least. refl; sent = tt; counted = λ before seat event r after i. absurd (none_behind before (row_of player_table seat before event) i.more i.fact) }

    goes_through : AreInTime (players words (births as_nodes scenario)) prefix → IsLedOn at over by words all [] base → Goes prefix
    goes_through timely led =
        kept_by_all words all prefix Goes (λ rows seat event place born calm timely_ was. goes_on rows seat event place.more place.fact born calm timely_ was) (begin led) timely

    led_through : AreInTime (players words (births as_nodes scenario)) prefix → IsLedOn at over by words all [] base → IsLedOn at over by words all prefix base × HasLeaders as_nodes by scenario journal prefix base
    led_through timely led =
        let g = goes_through timely led in
        ((g.course, g.led), has_leaders prefix rest split (λ before row after e mail a. Each-among GivesAllowedOrder (mails prefix) mail g.sent (sent_before prefix before (row ∷ after) mail e a)) g.counted)

  pub groups_are_led : GroupsAreLed
  groups_are_led words scenario journal prefix more base group timely few split so =
      led_through words scenario journal prefix more base group few split so (λ before row after e. timely before row (after ++ more) (split ∙ (ap (λ l. l ++ more) e ∙ append_assoc before (row ∷ after) more)))
      (begins words (slot_leaders_at as_nodes scenario base journal) scenario journal base group)

  pub led_rows_go_on : LedRowsGoOn
  led_rows_go_on words scenario journal prefix more base group timely few split so rows seat event row born calm =
      let this : Row Mail OrderLine = row_of player_table seat rows event in
      let begins_prefix : prefix ≡ rows ++ (this ∷ row.more) = row.fact ∙ append_assoc rows (this ∷ []) row.more in
      let begins_all : journal ≡ rows ++ ((this ∷ row.more) ++ more) = split ∙ (ap (λ l. l ++ more) begins_prefix ∙ append_assoc rows (this ∷ row.more) more) in
      let with_this : journal ≡ with_event rows seat event ++ (row.more ++ more) = split ∙ (ap (λ l. l ++ more) row.fact ∙ append_assoc (with_event rows seat event) row.more more) in
      let led = (groups_are_led words scenario journal rows ((this ∷ row.more) ++ more) base group timely few begins_all (sent_so (births as_nodes scenario) prefix rows (this ∷ row.more) base begins_prefix so)).0 in
      let has = (groups_are_led words scenario journal prefix more base group timely few split so).1 in
      let one = one_log as_nodes words (slot_leaders_at as_nodes scenario base journal) scenario journal prefix more base group split has in (
        led.0,
        led.1,
        go_on (logged_sets as_nodes base journal) (over_at as_nodes base journal) (slot_leaders_at as_nodes scenario base journal) words (births as_nodes scenario) prefix base (well scenario) one so rows seat event led.0 row born calm
            (λ before other after e. timely before other (after ++ (row.more ++ more)) (with_this ∙ (ap (λ l. l ++ (row.more ++ more)) e ∙ append_assoc before (other ∷ after) (row.more ++ more)))) led.1,
      )
