-- In the next quiet journal each group that has a replica has one at each of its first members.
use Rattle.std.proofs.Common.{◌≡◌, ◌==◌, ℕ, zero, suc, ◌+◌, ◌-◌, ◌≤◌, ◌<◌, ◌||◌, Bool, true, false, true≢false, cond, List, [], ◌∷◌, ◌++◌, take, drop, Option, Some, None, inl, inr, refl, sym, ◌∙◌, ap, subst, arith}
use Rattle.std.specs.List.{list_any}
use Rattle.std.proofs.lemmas.Bool.{cases_Bool}
use Rattle.sc_base.specs.Definitions.{Among, is_member}
use Rattle.sc_node_table.specs.Values.{Draw, Base, OrderLine}
use Rattle.sc_actor.specs.Definitions.{is_quiet}
use Rattle.sc_live_orderly.specs.OrderlyDefinitions.{is_born, AreInTime}
use Rattle.sc_live_orderly.proofs.OrderlyLemmas.{in_time_tidy, quiet-empty}
use Rattle.sc_group_table.specs.machine.MachineDefinitions.{Group, group_of, state_after, staying, right_members}
use Rattle.sc_scenario.specs.declared.scenario.scenarios.Scenario.{Scenario}
use Rattle.sc_node_table.specs.NodeDefinitions.{ReplicaState, next}
use Rattle.sc_meaning.specs.sound.SoundDefinitions.{groups_at, decided_log, births, as_nodes}
use Rattle.sc_live_steps.specs.calm.CalmDefinitions.{players, HasReplica, Rows}
use Rattle.sc_live_steps.specs.following.FollowingDefinitions.{Mark, marks_of, reached, QuietMembersKnow}
use Rattle.sc_live_journals.specs.mail.MailDefinitions.{SlotsAreLeft, ReplicasLast}
use Rattle.sc_live_journals.specs.rows.RowDefinitions.{view_at, next_in, marks_at, progress_at}
use Rattle.sc_live_journals.specs.groups.GroupDefinitions.{IsTaughtOn, ScenariosAreWellBorn}
use Rattle.sc_live_journals.specs.logs.LogDefinitions.{logged_sets}
use Rattle.sc_live_answers.specs.AnswerDefinitions.{over_at, ChildrenAreBegun, GroupsAreTaught, slot_leaders_at, Task, IsTaskOf, DeliveriesKeepWork, IsCalmJournal, IsUnder, Knows, AreCreatedByOrder, AreOfGroups, ChildrenAreCreated}
use Rattle.sc_live_journals.specs.scenes.SceneDefinitions.{IsThere}
use Rattle.sc_live_answers.proofs.ChildrenProofs.KnownChildren.{HasCreated}
use Rattle.sc_live_answers.proofs.ChildrenProofs.CreatedGroups.{are_young}
use Rattle.sc_live_answers.proofs.ChildrenProofs.NewGroupDeliveries.{created_still}
use Rattle.sc_live_answers.proofs.ChildrenProofs.ChildrenAtStart.{created_first}
use Rattle.sc_live_answers.proofs.ChildrenProofs.ChildrenUnderOrders.{there_or, prefix_in_time}
use Rattle.sc_live_answers.proofs.ChildrenProofs.Lineage.{log_stays}
use Rattle.sc_live_answers.proofs.ChildrenProofs.ChildrenInLogs.{OfJournals, all_found, state_of, state_stays, first_known}
use Rattle.sc_live_answers.proofs.LedGroupsProofs.JournalGroups.{calm_slots, calm_group}

-- who goes was a member
any_behind : {X : Type 0} (p : X → Bool) (n : ℕ) (xs : List X) → list_any p (drop n xs) ≡ true → list_any p xs ≡ true
any_behind p zero xs e = e
any_behind p (suc n) [] e = e
any_behind p (suc n) (x ∷ xs) e = or_right (p x) (list_any p xs) (any_behind p n xs e)
  where
    or_right : (b c : Bool) → c ≡ true → b || c ≡ true
    or_right true c k = refl
    or_right false c k = k

-- the laws of what members learn
pub record OfMembers : Type 0 where
  pub last : ReplicasLast
  pub left : SlotsAreLeft
  pub taught : GroupsAreTaught
  pub know : QuietMembersKnow

module _ (laws : OfJournals) (more_laws : OfMembers) (words : ℕ → ℕ → ℕ × ℕ) (scenario : Scenario) (first : Base) (journal quiet rows more : Rows) (line : OrderLine) (task : Task) (calm : IsCalmJournal words scenario journal) (under : IsUnder words scenario first journal quiet rows)
    (at : rows ≡ quiet ++ more) (is_calm : is_quiet (players words (births as_nodes scenario)) rows ≡ true) (named : AreOfGroups scenario journal rows) (of : IsTaskOf (births as_nodes scenario) quiet line task) (prior : AreCreatedByOrder scenario journal quiet rows task)
    (strangers : (base : Base) (who : ℕ) → Among base (groups_at as_nodes scenario.groups journal) → is_born (players words (births as_nodes scenario)) who ≡ false → marks_at (players words (births as_nodes scenario)) rows base.core.id who ≡ []) where
  timely : AreInTime (players words (births as_nodes scenario)) rows
  timely = prefix_in_time words (births as_nodes scenario) journal rows under.prefix.more under.prefix.fact calm.timely

  -- what was there is there
  lasts : (name : Draw) (who : ℕ) → HasReplica (view_at (births as_nodes scenario) quiet) name who → HasReplica (view_at (births as_nodes scenario) rows) name who
  lasts name who had =
      let later = more_laws.last words scenario quiet more name who had.0 (subst (AreInTime (players words (births as_nodes scenario))) at timely) had.1 in
      (later.0, ap (λ r. view_at (births as_nodes scenario) r name who) at ∙ later.1)

  module _ (p : Base) (stands : Among p (groups_at as_nodes scenario.groups journal)) where
    taught : IsTaughtOn (logged_sets as_nodes p journal) (over_at as_nodes p journal) (slot_leaders_at as_nodes scenario p journal) words (births as_nodes scenario) rows p
    taught = (more_laws.taught words scenario journal rows under.prefix.more p (calm_group words scenario journal calm p stands) calm.timely (calm_slots words scenario journal calm more_laws.left p) under.prefix.fact (under.sent p stands).so).0

    no_marks : (who : ℕ) → marks_at (players words (births as_nodes scenario)) rows p.core.id who ≡ []
    no_marks who = elim (cases_Bool (is_born (players words (births as_nodes scenario)) who)) [
      | inr f ↦ strangers p who stands f
      | inl t ↦ ap (marks_of p.core.id) (quiet-empty (players words (births as_nodes scenario)) rows who (in_time_tidy (players words (births as_nodes scenario)) rows timely) t is_calm)
    ]

    abbrev Next : ℕ → ℕ
    Next who = next_in p who (view_at (births as_nodes scenario) rows p.core.id who)

    within : (who : ℕ) → Next who ≤ taught.course.newest
    within who = subst (λ (ms : List Mark). reached (Next who) ms ≤ taught.course.newest) (no_marks who) (taught.led.followed.follows.within who)

    -- a member of a state has learnt the entry after it
    learns : (m who : ℕ) → suc m < taught.course.newest → is_member (state_after (group_of p) (take m (decided_log as_nodes p journal))).core.members who ≡ true → suc m < Next who
    learns m who less member =
        more_laws.know (logged_sets as_nodes p journal) (progress_at (births as_nodes scenario) rows p taught.course) (marks_at (players words (births as_nodes scenario)) rows p.core.id) no_marks taught.taught who (suc m) less
        (let same : m ≡ suc m + 3 - 4 = omega arith in subst (λ k. is_member (state_after (group_of p) (take k (decided_log as_nodes p journal))).core.members who ≡ true) same member)

    next_some : (who : ℕ) (o : Option ReplicaState) → 1 < next_in p who o → (r : ReplicaState) × (o ≡ Some r)
    next_some who (Some r) less = (r, refl)
    next_some who None less = absurd (by (is_member p.core.members who) less)
      where
        by : (b : Bool) → 1 < cond b 1 0 → ⊥
        by true k = omega (arith, k)
        by false k = omega (arith, k)

  module _ (base : Base) (fact : Among base (groups_at as_nodes scenario.groups journal)) (there : IsThere (births as_nodes scenario) rows base.core.id) (who : ℕ) (member : is_member base.core.members who ≡ true) where
    abbrev Has : Type 0
    Has = HasReplica (view_at (births as_nodes scenario) rows) base.core.id who

    module _ (on : task.splitting ≡ true) (id : base.core.id ≡ task.name) where
      created_of : (r : ReplicaState) × (view_at (births as_nodes scenario) rows task.group there.0 ≡ Some r) × Knows task.name r
      created_of = prior.known on base fact id there.0 there.1 (ap (λ n. view_at (births as_nodes scenario) rows n there.0) (sym id) ∙ there.2)

      p : (base : Base) × Among base (groups_at as_nodes scenario.groups journal) × (base.core.id ≡ task.group)
      p = named task.group there.0 created_of.0 created_of.1

      abbrev State : ℕ → Group
      State k = state_after (group_of p.0) (take k (decided_log as_nodes p.0 journal))

      state : (k : ℕ) × (next created_of.0 ≡ suc k) × (created_of.0.group ≡ state_after (group_of p.0) (take k (decided_log as_nodes p.0 journal)))
      state = state_of laws words scenario journal calm p.0 p.1 rows under.prefix there.0 created_of.0 (ap (λ n. view_at (births as_nodes scenario) rows n there.0) p.2 ∙ created_of.1)

      -- the parent did not begin with it
      not_first : HasCreated task.name (state_after (group_of p.0) (take zero (decided_log as_nodes p.0 journal))).core.born → ⊥
      not_first has =
          let old = of.there on in
          let was = state_of laws words scenario journal calm p.0 p.1 quiet under.rests.prefix old.0 old.1 (ap (λ n. view_at (births as_nodes scenario) quiet n old.0) p.2 ∙ old.2) in
          true≢false (sym (subst (λ (g : Group). HasCreated task.name g.core.born) (sym was.2) (log_stays task.name (group_of p.0) (take was.0 (decided_log as_nodes p.0 journal)) has)) ∙ of.unknown on task.group old.0 old.1 old.2)

      -- the entry that creates it
      entry : (m : ℕ) × (m < state.0) × ((kid : Base) × Among kid (groups_at as_nodes scenario.groups journal) × (kid.core.id ≡ task.name) × (kid.core.members ≡ right_members (State m).core.members)) × HasCreated task.name (State (suc m)).core.born
      entry = first_known laws words scenario journal calm p.0 p.1 task.name state.0 (subst (λ (g : Group). HasCreated task.name g.core.born) state.2 created_of.2) not_first

      same : entry.2.0 ≡ base
      same = (all_found laws words scenario journal calm).apart entry.2.0 base entry.2.1 fact (entry.2.2 ∙ sym id)

      -- its members were members before
      before : is_member (State entry.0).core.members who ≡ true
      before = any_behind (λ x. x == who) (staying (State entry.0).core.members) (State entry.0).core.members (subst (λ ms. is_member ms who ≡ true) (ap (λ (b : Base). b.core.members) (sym same) ∙ entry.2.3) member)

      reach : next created_of.0 ≤ (taught p.0 p.1).course.newest
      reach = subst (λ o. next_in p.0 there.0 o ≤ (taught p.0 p.1).course.newest) (ap (λ n. view_at (births as_nodes scenario) rows n there.0) p.2 ∙ created_of.1) (within p.0 p.1 there.0)

      learnt : suc entry.0 < next_in p.0 who (view_at (births as_nodes scenario) rows p.0.core.id who)
      learnt = (let less = entry.1 in let here = state.1 in let least = reach in learns p.0 p.1 entry.0 who (omega (arith, less, here, least)) before)

      some : (r : ReplicaState) × (view_at (births as_nodes scenario) rows p.0.core.id who ≡ Some r)
      some = (let far = learnt in next_some p.0 p.1 who (view_at (births as_nodes scenario) rows p.0.core.id who) (omega (arith, far)))

      now : (k : ℕ) × (next some.0 ≡ suc k) × (some.0.group ≡ State k)
      now = state_of laws words scenario journal calm p.0 p.1 rows under.prefix who some.0 some.1

      knows : Knows task.name some.0
      knows =
          let far : suc entry.0 < next some.0 = subst (λ o. suc entry.0 < next_in p.0 who o) some.1 learnt in
          let next_is = now.1 in
          subst (λ (g : Group). HasCreated task.name g.core.born) (sym now.2) (state_stays laws words scenario journal calm p.0 p.1 task.name (suc entry.0) now.0 (omega (arith, far, next_is)) entry.3)

      by_entry : Has
      by_entry =
          let has = prior.kept on base fact id who some.0 member (ap (λ n. view_at (births as_nodes scenario) rows n who) (sym p.2) ∙ some.1) knows in
          (has.0, ap (λ n. view_at (births as_nodes scenario) rows n who) id ∙ has.1)

    pub has : Has
    has = elim (there_or (births as_nodes scenario) quiet base.core.id) [
      | inl old ↦ lasts base.core.id who (under.rests.members base fact old who member)
      | inr nowhere ↦ (let new = prior.only base fact nowhere there in by_entry new.0 new.1)
    ]

pub children_created : OfJournals → OfMembers → ScenariosAreWellBorn → ChildrenAreBegun → DeliveriesKeepWork → ChildrenAreCreated
children_created laws more_laws well begun keeps = record {
  begins = created_first;
  keeps = λ words scenario first journal quiet rows line task seat number w prior. created_still laws well keeps words scenario first journal quiet rows line task seat number w prior;
  young = λ words scenario first journal quiet rows line task seat number w prior mail group node r t here. are_young laws begun keeps words scenario first journal quiet rows line task seat number w prior mail group node r t here;
  members = λ words scenario first journal quiet rows more line task calm under at is_calm named of prior strangers base fact there node member.
      has laws more_laws words scenario first journal quiet rows more line task calm under at is_calm named of prior strangers base fact there node member;
}
