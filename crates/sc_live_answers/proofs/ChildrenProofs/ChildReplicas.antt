-- The members of children have them, row by row.
use Rattle.sc_live_journals.proofs.GroupsProofs.PrefixesInTime.{kept_by_all}
use Rattle.std.proofs.Common.{◌≡◌, ℕ, zero, suc, ◌+◌, ◌-◌, ◌<◌, ◌≤◌, ◌⊎◌, eqb, true, List, [], ◌∷◌, ◌++◌, take, Option, Some, None, inl, inr, refl, sym, ◌∙◌, ap, subst, arith}
use Rattle.std.specs.Prelude.{is_some}
use Rattle.std.proofs.lemmas.Bool.{cases_eq, cases_lt, cond-true, cond-false, ne_eqb}
use Rattle.sc_base.specs.Definitions.{Among, is_member}
use Rattle.sc_node_table.specs.Values.{Draw, Base, OrderLine, Seat, Event}
use Rattle.sc_group_table.specs.machine.MachineDefinitions.{group_of, state_after}
use Rattle.sc_actor.specs.Definitions.{mails, row_of}
use Rattle.sc_live_orderly.specs.OrderlyDefinitions.{IsCalmEvent, AreInTime}
use Rattle.sc_paxos_law.proofs.Lemmas.{Among-left, Among-right, Among-either}
use Rattle.sc_scenario.specs.scenario.Definitions.{ValidScenariosAreBounded}
use Rattle.sc_scenario.specs.declared.scenario.scenarios.Scenario.{Scenario}
use Rattle.sc_node_table.specs.NodeDefinitions.{ReplicaState, listed}
use Rattle.sc_meaning.specs.sound.SoundDefinitions.{decided_log, Player, player_table, births, as_nodes}
use Rattle.sc_live_steps.specs.calm.CalmDefinitions.{players, HasReplica}
use Rattle.sc_law_entries.specs.logs.LogDefinitions.{Rows}
use Rattle.sc_live_steps.specs.following.FollowingDefinitions.{Mark, Teaches, Course, Sets, members_at, SlotLeaders, IsRow, reported_of, taught_from, marks_for}
use Rattle.sc_live_journals.specs.rows.RowDefinitions.{view_at, progress_at, marks_at, taken_mark, begun_course, IsSeat, with_event}
use Rattle.sc_live_journals.proofs.RowsProofs.RowLemmas.{rows_are}
use Rattle.sc_live_journals.proofs.MailProofs.MailLemmas.{replicas_last}
use Rattle.sc_live_journals.specs.logs.LogDefinitions.{logged_sets, IsGroupOf}
use Rattle.sc_live_journals.specs.groups.GroupDefinitions.{BeginsSo, IsGroupRow, RowPasses, RowRests, RowTakes, RowMakes, RowLeads, RowElects, IsWellLed, ScenariosAreWellBorn, IsRowOf, HasOneLog, IsSentSo}
use Rattle.sc_live_journals.proofs.GroupsProofs.GroupLemmas.{scenarios_begin_led, children_begin_led, events_go_on}
use Rattle.sc_live_answers.specs.AnswerDefinitions.{over_at, GroupsAreBornOrNot, IsBirth, EntriesCreateChildren, AreBorn, IsBornOn, ChildrenAreMade}
use Rattle.sc_live_answers.proofs.ChildrenProofs.ChildRows.{learnt_creates, lead_creates}
use Rattle.sc_live_answers.proofs.ChildrenProofs.NamedChildren.{child_members, no_birth}

-- ---- what a leader tells

reported_in : (at : Sets) (course : Course) (start more who slot : ℕ) → start ≤ slot → slot < start + more → (who ≡ course.ballot.node → ⊥) → is_member (members_at at slot) who ≡ true → Among (Teaches slot) (taught_from at course start more who)
reported_in at course start zero who slot low high ne member = absurd (omega (arith, low, high))
reported_in at course start (suc more) who slot low high ne member = elim (cases_eq slot start) [
  | inl fact ↦ Among-left (Teaches slot) (reported_of at course start who) (taught_from at course (start + 1) more who) (subst (Among (Teaches slot)) (sym (first fact)) (inl (ap (λ n. Teaches n) (sym fact))))
  | inr no_ ↦ Among-right (Teaches slot) (reported_of at course start who) (taught_from at course (start + 1) more who) (reported_in at course (start + 1) more who slot (past no_) (omega (arith, high)) ne member)
]
  where
    first : slot ≡ start → reported_of at course start who ≡ Teaches start ∷ []
    first fact =
        cond-false (eqb who course.ballot.node) [] _ (ne_eqb who course.ballot.node ne)
        ∙ cond-true (is_member (members_at at start) who) (Teaches start ∷ []) _ (subst (λ n. is_member (members_at at n) who ≡ true) fact member)

    past : (slot ≡ start → ⊥) → start + 1 ≤ slot
    past no_ = elim (cases_lt start slot) [ inl lt ↦ omega (arith, lt) | inr ge ↦ absurd (no_ (omega (arith, low, ge))) ]

listed_is : (o : Option Mark) (mark : Mark) → Among mark (listed o) → o ≡ Some mark
listed_is None mark a = absurd a
listed_is (Some m) mark (inl e) = ap Some e
listed_is (Some m) mark (inr n) = absurd n

module _ (bear : EntriesCreateChildren) (wb : ScenariosAreWellBorn) (words : ℕ → ℕ → ℕ × ℕ) (by : SlotLeaders) (scenario : Scenario) (journal prefix rest : Rows) (base : Base) (group : IsGroupOf as_nodes words scenario journal base) (split : journal ≡ prefix ++ rest)
    (one : HasOneLog (logged_sets as_nodes base journal) (over_at as_nodes base journal) by (births as_nodes scenario) prefix base) (so : IsSentSo (births as_nodes scenario) prefix base) where
  abbrev at : Sets
  at = logged_sets as_nodes base journal

  abbrev seats : List (Seat Player)
  seats = births as_nodes scenario

  abbrev name : Draw
  name = base.core.id

  -- a child's member is one at the slot that names it
  was_member : (slot : ℕ) (child : Base) (who : ℕ) → IsBirth (decided_log as_nodes base journal) base slot child → is_member child.core.members who ≡ true → is_member (members_at (logged_sets as_nodes base journal) slot) who ≡ true
  was_member slot child who b member =
      let same : slot - 1 ≡ slot + 3 - 4 = omega arith in
      subst (λ n. is_member (state_after (group_of base) (take n (decided_log as_nodes base journal))).core.members who ≡ true) same
      (subst (λ l. is_member (state_after (group_of base) l).core.members who ≡ true) (sym b.before) (child_members (state_after (group_of base) b.prefix) b.command child who b.child_is member))

  -- ---- one row

  module _ (rows : Rows) (seat : Seat Player) (event : Event OrderLine) (course later : Course) (row : IsRowOf prefix rows seat event) (born : IsSeat (births as_nodes scenario) seat) (calm : IsCalmEvent (players words (births as_nodes scenario)) rows seat.who event)
      (timely : AreInTime (players words (births as_nodes scenario)) (with_event rows seat event)) (was : IsWellLed (logged_sets as_nodes base journal) (over_at as_nodes base journal) by words (births as_nodes scenario) rows base course)
      (kind : IsGroupRow (logged_sets as_nodes base journal) (over_at as_nodes base journal) by (births as_nodes scenario) rows seat event base course later) (old : AreBorn words scenario journal rows base course)
      (slot : ℕ) (child : Base) (who : ℕ) (b : IsBirth (decided_log as_nodes base journal) base slot child) (member : is_member child.core.members who ≡ true) where
    abbrev Goal : Type 0
    Goal = HasReplica (view_at (births as_nodes scenario) (with_event rows seat event)) child.core.id who ⊎ Among (Teaches slot) (marks_at (players words (births as_nodes scenario)) (with_event rows seat event) base.core.id who)

    abbrev sent : ℕ → List Mark
    sent to = marks_for base.core.id to (row_of player_table seat rows event).sent

    moved : IsRow (progress_at (births as_nodes scenario) rows base course) (progress_at (births as_nodes scenario) (with_event rows seat event) base later) seat.who (taken_mark base.core.id (mails rows) event) sent
        (marks_at (players words (births as_nodes scenario)) rows base.core.id) (marks_at (players words (births as_nodes scenario)) (with_event rows seat event) base.core.id)
    moved = rows_are words seats rows (row_of player_table seat rows event) base course later timely

    -- what it has it keeps
    lasts : HasReplica (view_at (births as_nodes scenario) rows) child.core.id who → Goal
    lasts has = (let l = replicas_last words scenario rows (row_of player_table seat rows event ∷ []) child.core.id who has.0 timely has.1 in inl (l.0, l.1))

    own_member : who ≡ seat.who → is_member child.core.members seat.who ≡ true
    own_member fact = subst (λ n. is_member child.core.members n ≡ true) fact member

    has_it : who ≡ seat.who → (x : ReplicaState) × (view_at (births as_nodes scenario) (with_event rows seat event) child.core.id seat.who ≡ Some x) → Goal
    has_it fact has = inl (has.0, subst (λ n. view_at seats (with_event rows seat event) child.core.id n ≡ Some has.0) (sym fact) has.1)

    -- a Learn for it is taken, or still under way
    reported_still : Among (Teaches slot) (marks_at (players words (births as_nodes scenario)) rows base.core.id who) → Goal
    reported_still a = elim (cases_eq who seat.who) [
      | inl fact ↦ own fact (Among-either (Teaches slot) (listed (taken_mark name (mails rows) event)) moved.left (subst (Among (Teaches slot)) (ap (marks_at (players words seats) rows name) fact ∙ moved.takes) a))
      | inr ne ↦ inr (subst (Among (Teaches slot)) (sym (moved.others who ne)) (Among-left (Teaches slot) (marks_at (players words seats) rows name who) (sent who) a))
    ]
      where
        own : who ≡ seat.who → Among (Teaches slot) (listed (taken_mark name (mails rows) event)) ⊎ Among (Teaches slot) moved.left → Goal
        own fact (inl t) =
            has_it fact
            (learnt_creates bear words scenario journal prefix rest split base group at (over_at as_nodes base journal) by (wb scenario) one so rows seat course born was slot child b (own_member fact) event row calm timely
            (listed_is (taken_mark name (mails rows) event) (Teaches slot) t))
        own fact (inr l) =
            inr (subst (Among (Teaches slot)) (sym (ap (marks_at (players words seats) (with_event rows seat event) name) fact ∙ moved.own)) (Among-left (Teaches slot) moved.left (sent seat.who) l))

    before : slot < course.newest → Goal
    before low = elim (old slot child who b low member) [ inl has ↦ lasts has | inr a ↦ reported_still a ]

    not_new : later ≡ course → course.newest ≤ slot → slot < later.newest → Goal
    not_new same high low = (let e = ap (λ (c : Course). c.newest) same in absurd (omega (arith, e, high, low)))

    -- the entries that a leader executes in this row
    fresh : IsGroupRow (logged_sets as_nodes base journal) (over_at as_nodes base journal) by (births as_nodes scenario) rows seat event base course later → course.newest ≤ slot → slot < later.newest → Goal
    fresh (RowPasses same leaves) high low = not_new same high low
    fresh (RowRests same r after row_ off still k) high low = not_new same high low
    fresh (RowTakes same r after mark row_ taken_ steps k) high low = not_new same high low
    fresh (RowMakes same from s state sets row_ taken_ logs k) high low = not_new same high low
    fresh (RowElects r after ballot row_ off e same) high low = (let k = ap (λ (c : Course). c.newest) same in absurd (omega (arith, k, high, low)))
    fresh (RowLeads r after row_ runs counts l same) high low =
        let leads = l.led.leads in
        let top = ap (λ (c : Course). c.newest) same in
        let reach : slot < course.newest + leads.executed = (let n = leads.newest in omega (arith, n, top, low)) in
        let place = (was.followed.given.gives seat.who r row_.was runs).0.newest in
        elim (cases_eq who seat.who) [
          | inl fact ↦ has_it fact
              (lead_creates bear words scenario journal prefix rest split base group at (over_at as_nodes base journal) by (wb scenario) one so rows seat course born was slot child b (own_member fact) event row calm timely
              r after.0 row_.was row_.fact runs leads.takes (omega (arith, place, high)) (omega (arith, top, low)))
          | inr ne ↦ inr (subst (Among (Teaches slot)) (sym (moved.others who ne)) (Among-right (Teaches slot) (marks_at (players words seats) rows name who) (sent who)
              (subst (Among (Teaches slot)) (sym (leads.sends who))
              (Among-left (Teaches slot) (taught_from at course course.newest leads.executed who) (leads.offers who)
              (reported_in at course course.newest leads.executed who slot high reach (λ e. ne (e ∙ sym leads.mine)) (was_member slot child who b member))))))
        ]

    after_all : slot < later.newest → Goal
    after_all low = elim (cases_lt slot course.newest) [ inl lt ↦ before lt | inr ge ↦ fresh kind ge low ]

  -- ---- all rows

  module _ (bounded : ValidScenariosAreBounded) (born_or_not : GroupsAreBornOrNot) where
    begins_so : BeginsSo (logged_sets as_nodes base journal) (over_at as_nodes base journal) base
    begins_so = record { sets = one.begins; stands = ap is_some one.stands; early = one.early; rosters = one.log.rosters }

    begun_led : IsWellLed (logged_sets as_nodes base journal) (over_at as_nodes base journal) by words (births as_nodes scenario) [] base (begun_course base)
    begun_led = elim (born_or_not words scenario journal base group) [
      | inl own ↦ scenarios_begin_led at (over_at as_nodes base journal) by words scenario base (bounded scenario group.valid) own begins_so
      | inr unborn ↦ children_begin_led at (over_at as_nodes base journal) by words seats [] base begins_so one.first unborn (λ who. refl)
    ]

    none_born : AreBorn words scenario journal [] base (begun_course base)
    none_born slot child who b low member = absurd (no_birth (decided_log as_nodes base journal) base child (subst (λ n. IsBirth (decided_log as_nodes base journal) base n child) (first slot low) b))
      where
        first : (n : ℕ) → n < 1 → n ≡ 0
        first n lt = omega (arith, lt)

    pub all_born : AreInTime (players words (births as_nodes scenario)) prefix → IsBornOn by words scenario journal prefix base
    all_born = kept_by_all words seats prefix (λ rows. IsBornOn by words scenario journal rows base) (λ rows seat event place born calm timely old. (
        let step = events_go_on at (over_at as_nodes base journal) by words seats prefix base (wb scenario) one so rows seat event old.course place born calm timely old.led in
        record {
          course = step.later;
          led = step.led;
          born = λ slot child who b low member. after_all rows seat event old.course step.later place born calm timely old.led step.row old.born slot child who b member low;
        })) (record { course = begun_course base; led = begun_led; born = none_born })

pub children_are_made : ValidScenariosAreBounded → GroupsAreBornOrNot → ScenariosAreWellBorn → EntriesCreateChildren → ChildrenAreMade
children_are_made bounded born_or_not wb bear words by scenario journal prefix more base group split timely one so = all_born bear wb words by scenario journal prefix more base group split one so bounded born_or_not timely
