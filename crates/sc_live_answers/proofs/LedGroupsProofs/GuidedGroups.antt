-- The groups of a calm journal at a row: each is guided at it, and well led after it.
use Rattle.std.proofs.Common.{◌≡◌, ℕ, ◌+◌, ◌≤◌, eqb, true, List, [], ◌∷◌, ◌++◌, length, Option, Some, None, ◌⊎◌, inl, inr, refl, sym, ◌∙◌, ap, subst, arith, append_assoc}
use Rattle.std.specs.List.{list_any}
use Rattle.std.proofs.lemmas.Bool.{cases_Bool, or_left, eq-eqb}
use Rattle.std.proofs.lemmas.Option.{none-some}
use Rattle.sc_base.specs.Definitions.{Among, Each, is_member}
use Rattle.sc_node_table.specs.Values.{Draw, Base, OrderLine, Mail, Seat, Event, Deliver, Row}
use Rattle.sc_actor.specs.Definitions.{System, row_of}
use Rattle.sc_live_orderly.specs.OrderlyDefinitions.{is_born, rest, AreInTime}
use Rattle.sc_live_orderly.proofs.OrderlyLemmas.{in_time_before, in_time_tidy, last_in_time, TakesFirst, takes_first, is_born-from}
use Rattle.sc_scenario.specs.declared.scenario.scenarios.Scenario.{Scenario}
use Rattle.sc_node_table.specs.NodeDefinitions.{group_of_mail, ReplicaState, listed, next}
use Rattle.sc_meaning.specs.sound.SoundDefinitions.{groups_at, Player, player_table, births, as_nodes}
use Rattle.sc_live_steps.specs.following.FollowingDefinitions.{Mark, marks_of, members_at, reached}
use Rattle.sc_live_steps.specs.calm.CalmDefinitions.{players, Rows}
use Rattle.sc_live_steps.specs.orders.OrderDefinitions.{bond_of, Bond}
use Rattle.sc_live_journals.specs.rows.RowDefinitions.{view_at, marks_at, next_in, IsSeat, with_event}
use Rattle.sc_live_journals.specs.mail.MailDefinitions.{SlotsAreLeft, IsLater, ReplicasLast}
use Rattle.sc_live_journals.specs.logs.LogDefinitions.{IsGroupOf, ViewsAreReplicas, SlotsHaveRosters, logged_sets}
use Rattle.sc_live_answers.specs.AnswerDefinitions.{state_at, ReplicasRunLogs, over_at, slot_leaders_at, AreBoundBy, IsGuided, IsNamedGuide, IsReached, IsReachedSo, NewestStay, IsQuietWhileYoung, IsSentThrough, IsSentStep, NextRowsAreSent, PrefixesAreFound, NoMailForStrangers, IsCalmJournal, IsPrefixOf, AreSent, ContinuesBy, IsNamedGroup, IsUnder, IsYoungAt, WellLedLeadAlone}
use Rattle.sc_live_journals.specs.scenes.SceneDefinitions.{IsThere, IsNowhere, LeadsAlone}
use Rattle.sc_live_journals.proofs.ScenesProofs.SceneLemmas.{calm_is}
use Rattle.sc_live_answers.proofs.OrdersProofs.OrderDeliveries.{there_or}
use Rattle.sc_live_answers.proofs.ChildrenProofs.ChildrenUnderOrders.{unmarked}
use Rattle.sc_live_answers.proofs.LedGroupsProofs.JournalGroups.{calm_group, calm_slots}
use Rattle.sc_base.proofs.Lemmas.{at_most_one}

-- ---- marks

pub no_marks_of : (name : Draw) (mails : List Mail) → Each (λ mail. group_of_mail mail.body ≡ Some name → ⊥) mails → marks_of name mails ≡ []
no_marks_of name [] none = refl
no_marks_of name (mail ∷ mails) none = ap (λ (o : Option Mark). listed o ++ marks_of name mails) (unmarked name mail.from mail.body none.0) ∙ no_marks_of name mails none.1

-- ---- the newest state

some_member : (members : List ℕ) → 1 ≤ length members → (who : ℕ) × (is_member members who ≡ true)
some_member [] some = absurd (omega (arith, some))
some_member (m ∷ members) some = (m, or_left (eqb m m) (list_any (λ other. eqb other m) members) (eq-eqb m m refl))

-- while a group is nowhere, its first members are sent nothing
abbrev pub AreQuietWhileYoung : (ℕ → ℕ → ℕ × ℕ) → Scenario → Rows → Rows → Type 0
AreQuietWhileYoung words scenario journal rows = (base : Base) → Among base (groups_at as_nodes scenario.groups journal) → IsQuietWhileYoung words (births as_nodes scenario) rows base

-- where no mail of a group is under way, some replica of it is at its newest state
module _ (rosters_law : SlotsHaveRosters) (logs_law : ReplicasRunLogs) (views_law : ViewsAreReplicas) (words : ℕ → ℕ → ℕ × ℕ) (scenario : Scenario) (journal rows more : Rows) (base : Base) (group : IsGroupOf as_nodes words scenario journal base) (split : journal ≡ rows ++ more)
    (t : IsSentThrough (logged_sets as_nodes base journal) (over_at as_nodes base journal) (slot_leaders_at as_nodes scenario base journal) words (births as_nodes scenario) rows base) (none : (who : ℕ) → marks_at (players words (births as_nodes scenario)) rows base.core.id who ≡ []) where
  abbrev seen : ℕ → Option ReplicaState
  seen = view_at (births as_nodes scenario) rows base.core.id

  abbrev newest : ℕ
  newest = t.course.newest

  a_member : (who : ℕ) × (is_member (members_at (logged_sets as_nodes base journal) newest) who ≡ true)
  a_member = some_member (members_at (logged_sets as_nodes base journal) newest) (rosters_law.rosters as_nodes words scenario journal base group (newest + 3)).some

  next_is : next_in base a_member.0 (seen a_member.0) ≡ newest
  next_is = ap (reached (next_in base a_member.0 (seen a_member.0))) (sym (none a_member.0)) ∙ t.led.followed.follows.members a_member.0 a_member.1

  low_next : (node : ℕ) (r : ReplicaState) → seen node ≡ Some r → next r ≤ newest
  low_next node r e = (let w = t.led.followed.follows.within node in subst (λ n. n ≤ newest) (ap (reached (next_in base node (seen node))) (none node) ∙ ap (next_in base node) e) w)

  some_next : (node : ℕ) (r : ReplicaState) → seen node ≡ Some r → 1 ≤ next r
  some_next node r e = (let v = views_law as_nodes words scenario journal base group rows more split node r e in (logs_law as_nodes words scenario journal base group rows v.0 v.1 r v.2).0)

  pub reached_even : IsReachedSo (births as_nodes scenario) rows base t.course
  reached_even there = by (seen a_member.0) refl
    where
      by : (o : Option ReplicaState) → seen a_member.0 ≡ o → IsReached (births as_nodes scenario) rows base t.course
      by (Some r) e = (a_member.0, r, e, sym (ap (next_in base a_member.0) e) ∙ next_is)
      by None e =
          let fact = sym (ap (next_in base a_member.0) e) ∙ next_is in
          let most = at_most_one (is_member base.core.members a_member.0) in
          let low = low_next there.0 there.1 there.2 in
          let some = some_next there.0 there.1 there.2 in
          (there.0, there.1, there.2, omega (arith, fact, most, low, some))

-- ---- a prefix

module _ (found_law : PrefixesAreFound) (words : ℕ → ℕ → ℕ × ℕ) (scenario : Scenario) (journal rows : Rows) (calm : IsCalmJournal words scenario journal) (prefix : IsPrefixOf journal rows) where
  -- a group that has a replica is one of the journal
  pub named_there : (name : Draw) → IsThere (births as_nodes scenario) rows name → IsNamedGroup scenario journal name
  named_there name there =
      let found = found_law words scenario journal rows calm prefix in
      let of = found.replicas name there.0 there.1 (found.views name there.0 ∙ there.2) in
      (of.base, found.later of.base of.among, of.named)

  -- one that runs leads alone
  pub lead_alone : WellLedLeadAlone → AreSent words scenario journal rows → (name : Draw) (node : ℕ) (r : ReplicaState) → view_at (births as_nodes scenario) rows name node ≡ Some r → r.running ≡ true → LeadsAlone (births as_nodes scenario) rows name node r
  lead_alone alone_law sent name node r e runs =
      let g = named_there name (node, r, e) in
      let t = sent g.0 g.1 in
      subst (λ n. LeadsAlone (births as_nodes scenario) rows n node r) g.2 (alone_law.alone _ _ _ words (births as_nodes scenario) rows g.0 t.course node r t.led (ap (λ n. view_at (births as_nodes scenario) rows n node) g.2 ∙ e) runs).0

-- ---- a row

module _ (few_law : SlotsAreLeft) (logs_law : ReplicasRunLogs) (views_law : ViewsAreReplicas) (rosters_law : SlotsHaveRosters) (next_law : NextRowsAreSent) (newest_law : NewestStay) (found_law : PrefixesAreFound) (no_law : NoMailForStrangers)
    (words : ℕ → ℕ → ℕ × ℕ) (scenario : Scenario) (journal rows : Rows) (seat : Seat Player) (event : Event OrderLine) (calm : IsCalmJournal words scenario journal)
    (prefix : IsPrefixOf journal (with_event rows seat event)) (seated : IsSeat (births as_nodes scenario) seat) (timely : AreInTime (players words (births as_nodes scenario)) (with_event rows seat event)) (sent : AreSent words scenario journal rows)
    (reached_so : (base : Base) (among : Among base (groups_at as_nodes scenario.groups journal)) → IsReachedSo (births as_nodes scenario) rows base (sent base among).course)
    (young : AreQuietWhileYoung words scenario journal rows) where
  abbrev s : System Player Mail OrderLine
  s = players words (births as_nodes scenario)

  abbrev row : Row Mail OrderLine
  row = row_of player_table seat rows event

  pub before : AreInTime s rows
  before = in_time_before s rows row timely

  pub split : journal ≡ rows ++ (row ∷ prefix.more)
  split = prefix.fact ∙ append_assoc rows (row ∷ []) prefix.more

  pub steps : (base : Base) (among : Among base (groups_at as_nodes scenario.groups journal))
      → IsSentStep (logged_sets as_nodes base journal) (over_at as_nodes base journal) (slot_leaders_at as_nodes scenario base journal) words (births as_nodes scenario) rows seat event base (sent base among).course
  steps base among = next_law words scenario journal base (calm_group words scenario journal calm base among) calm.timely (calm_slots words scenario journal calm few_law base) rows prefix.more seat event prefix.fact seated (sent base among) (young base among)

  abbrev pub sent_after : AreSent words scenario journal (with_event rows seat event)
  sent_after base among = (steps base among).through

  -- replicas are bound as the log has it
  abbrev bonds : Base → ℕ → Bond
  bonds base n = bond_of (state_at as_nodes base journal n).core

  bound_by : (base : Base) → Among base (groups_at as_nodes scenario.groups journal) → (first more : Rows) → journal ≡ first ++ more → AreBoundBy (bonds base) (births as_nodes scenario) first base.core.id
  bound_by base among first more e node r view =
      let v = views_law as_nodes words scenario journal base (calm_group words scenario journal calm base among) first more e node r view in
      let run = logs_law as_nodes words scenario journal base (calm_group words scenario journal calm base among) first v.0 v.1 r v.2 in
      ap (λ g. bond_of g.core) run.1

  pub guided : (base : Base) → Among base (groups_at as_nodes scenario.groups journal) → IsGuided words (births as_nodes scenario) rows seat event base
  guided base among = record {
    at = logged_sets as_nodes base journal;
    over = over_at as_nodes base journal;
    by = slot_leaders_at as_nodes scenario base journal;
    course = (sent base among).course;
    led = (sent base among).led;
    step = (steps base among).step;
    log = (steps base among).through.one;
    sends = (steps base among).through.so;
    bonds = bonds base;
    was_bound = bound_by base among rows (row ∷ prefix.more) split;
    is_bound = bound_by base among (with_event rows seat event) prefix.more prefix.fact;
    reached = reached_so base among;
  }

  pub here : IsPrefixOf journal rows
  here = record { more = row ∷ prefix.more; fact = split }

  pub guide_of : (name : Draw) → IsNamedGroup scenario journal name → IsNamedGuide words (births as_nodes scenario) rows seat event name
  guide_of name g = record { base = g.0; named = g.2; guided = guided g.0 g.1 }

  -- the newest state is reached after the row, where no mail is under way of a group that has no replica before it
  module _ (base : Base) (among : Among base (groups_at as_nodes scenario.groups journal)) where
    abbrev through : IsSentThrough (logged_sets as_nodes base journal) (over_at as_nodes base journal) (slot_leaders_at as_nodes scenario base journal) words (births as_nodes scenario) (with_event rows seat event) base
    through = (steps base among).through

    was_there : IsThere (births as_nodes scenario) rows base.core.id → IsReachedSo (births as_nodes scenario) (with_event rows seat event) base through.course
    unfolding guided
    was_there there there_then =
        subst (IsReached (births as_nodes scenario) (with_event rows seat event) base) (sym (steps base among).same) (newest_law.reached words (births as_nodes scenario) rows seat event base (guided base among) there timely)

    pub reached_after : (IsNowhere (births as_nodes scenario) rows base.core.id → IsYoungAt words (births as_nodes scenario) (with_event rows seat event) base)
        → IsReachedSo (births as_nodes scenario) (with_event rows seat event) base through.course
    reached_after is_young there_then = elim (there_or (births as_nodes scenario) rows base.core.id) [
      | inl there ↦ was_there there there_then
      | inr nowhere ↦ reached_even rosters_law logs_law views_law words scenario journal (with_event rows seat event) prefix.more base (calm_group words scenario journal calm base among) prefix.fact through (no_mail (is_young nowhere)) there_then
    ]
      where
        no_mail : IsYoungAt words (births as_nodes scenario) (with_event rows seat event) base → (who : ℕ) → marks_at s (with_event rows seat event) base.core.id who ≡ []
        no_mail y who = elim (cases_Bool (is_born s who)) [
          | inl t ↦ no_marks_of base.core.id (rest s (with_event rows seat event) who) (y.unsent who t)
          | inr f ↦ no_law.strangers words scenario journal (with_event rows seat event) calm prefix sent_after base.core.id who f
        ]

-- ---- a delivery

module _ (last_law : ReplicasLast) (no_law : NoMailForStrangers) (words : ℕ → ℕ → ℕ × ℕ) (scenario : Scenario) (first : Base) (journal quiet rows after : Rows) (seat : Seat Player) (number : ℕ) (calm : IsCalmJournal words scenario journal)
    (rows_are : rows ≡ quiet ++ after) (under : IsUnder words scenario first journal quiet rows) (on : ContinuesBy words scenario journal rows seat number) where
  abbrev all : List (Seat Player)
  all = births as_nodes scenario

  abbrev sys : System Player Mail OrderLine
  sys = players words (births as_nodes scenario)

  timely_before : AreInTime sys rows
  timely_before = in_time_before sys rows (row_of player_table seat rows (Deliver number)) on.timely

  -- who has a replica in the quiet has one later
  grows : (name : Draw) (who : ℕ) (r : ReplicaState) → view_at all quiet name who ≡ Some r → IsLater r (view_at all rows name who)
  grows name who r e = subst (λ l. IsLater r (view_at all l name who)) (sym rows_are) (last_law words scenario quiet after name who r (subst (AreInTime sys) rows_are timely_before) e)

  -- a first member without replica is sent nothing
  pub young_quiet : AreQuietWhileYoung words scenario journal rows
  young_quiet base among who member none = elim (there_or all quiet base.core.id) [
    | inl there ↦ (
        let has = under.rests.members base among there who member in
        let later = grows base.core.id who has.0 has.1 in
        absurd (none-some later.0 (sym none ∙ later.1)))
    | inr nowhere ↦ no_marks_of base.core.id (rest sys rows who) ((under.young base among nowhere).unsent who (no_law.born words scenario journal calm base among who member))
  ]

  -- a group of the journal has a replica then, or no mail of it is under way
  pub there_now : (name : Draw) → IsNamedGroup scenario journal name → IsThere all rows name ⊎ ((who : ℕ) → is_born sys who ≡ true → Each (λ mail. group_of_mail mail.body ≡ Some name → ⊥) (rest sys rows who))
  there_now name g = elim (there_or all quiet name) [
    | inl there ↦ inl (let later = grows name there.0 there.1 there.2 in (there.0, later.0, later.1))
    | inr nowhere ↦ inr (λ who fact.
        subst (λ n. Each (λ (mail : Mail). group_of_mail mail.body ≡ Some n → ⊥) (rest sys rows who)) g.2 ((under.young g.0 g.1 (subst (IsNowhere all quiet) (sym g.2) nowhere)).unsent who fact))
  ]

  -- what is nowhere then was nowhere in the quiet
  pub never_there : (name : Draw) → IsNowhere all rows name → IsNowhere all quiet name
  never_there name nowhere who = by (view_at all quiet name who) refl
    where
      by : (o : Option ReplicaState) → view_at all quiet name who ≡ o → view_at all quiet name who ≡ None
      by None e = e
      by (Some r) e = (let later = grows name who r e in absurd (none-some later.0 (sym (nowhere who) ∙ later.1)))

  pub delivered : TakesFirst sys rows seat.who number
  delivered = takes_first sys rows seat.who number (in_time_tidy sys rows timely_before) (is_born-from sys seat.who seat on.seated) (calm_is words all rows seat (Deliver number) (last_in_time sys rows (row_of player_table seat rows (Deliver number)) on.timely).0)
