-- Groups begin well led.
use Rattle.std.proofs.Common.{◌≡◌, ℕ, zero, suc, ◌+◌, ◌<◌, ◌≤◌, true, true≢false, cond, List, [], Option, Some, None, inl, inr, refl, sym, ◌∙◌, ap, subst, arith}
use Rattle.std.proofs.lemmas.Bool.{cases_Bool, cond-true, cond-false, cond_both, eqb-true, eq-eqb}
use Rattle.sc_base.specs.Definitions.{Among, is_member}
use Rattle.sc_node_table.specs.Values.{Ballot, Base, Seat}
use Rattle.sc_live_orderly.specs.OrderlyDefinitions.{rest}
use Rattle.sc_scenario.specs.scenario.Definitions.{IsBounded}
use Rattle.sc_scenario.specs.declared.scenario.scenarios.Scenario.{Scenario}
use Rattle.sc_node_table.specs.NodeDefinitions.{ReplicaState, first_ballot, born_replica, slots_ahead}
use Rattle.sc_meaning.specs.sound.SoundDefinitions.{Player, births, as_nodes}
use Rattle.sc_live_steps.specs.calm.CalmDefinitions.{players, Rows}
use Rattle.sc_live_steps.specs.following.FollowingDefinitions.{AreLow, Mark, Progress, Sets, members_at, IsFollowing, SlotLeaders, IsLeadOf, IsOrderly, IsRow, IsIdle, begun}
use Rattle.sc_live_steps.proofs.FollowingProofs.FollowingLemmas.{leaders_begin, nothing, hints_are_kept, begins, idle-keeps, own_is_kept}
use Rattle.sc_live_journals.specs.rows.RowDefinitions.{view_at, next_in, promise_in, progress_at, marks_at, begun_course, IsLedBy, IsCourseOf}
use Rattle.sc_live_journals.proofs.RowsProofs.RowLemmas.{none_some, born_leads, born_facts, own_replica, view_born, next_born, promise_born}
use Rattle.sc_live_journals.specs.groups.GroupDefinitions.{BeginsSo, ScenariosBeginLed, ChildrenBeginLed, Ends, hint_in, hints_at, dated_at, IsWellLed}
use Rattle.sc_live_journals.proofs.GroupsProofs.Rows.{marks_all}

-- the first open slots have the members with which the group begins
pub first_slots : (at : Sets) (over : Ends) (base : Base) → BeginsSo at over base → (slot : ℕ) → slot < 1 + slots_ahead → at slot ≡ members_at at 1
first_slots at over base so slot low = so.sets slot low ∙ sym (so.sets 4 (omega arith))

-- a group whose nodes are all where they begin, and none of whose mail is under way
module _ (at : Sets) (over : Ends) (by : SlotLeaders) (words : ℕ → ℕ → ℕ × ℕ) (seats : List (Seat Player)) (rows : Rows) (base : Base) (so : BeginsSo at over base) (first : is_member base.core.members base.core.first ≡ true) where
  abbrev ballot : Ballot
  ballot = first_ballot base.core

  abbrev start : Progress
  start = begun (members_at at 1) ballot

  abbrev now : Progress
  now = progress_at seats rows base (begun_course base)

  abbrev marks : ℕ → List Mark
  marks = marks_at (players words seats) rows base.core.id

  abbrev hints : ℕ → Option ℕ
  hints = hints_at seats rows base

  firsts : members_at at 1 ≡ base.core.members
  firsts = so.sets 4 (omega arith)

  module _ (nexts : (who : ℕ) → now.next who ≡ (begun base.core.members ballot).next who) (promises : (who : ℕ) → now.promise who ≡ ballot) (none : (who : ℕ) → marks who ≡ []) (heads : (who : ℕ) → hints who ≡ Some base.core.first) where
    nexts_too : (who : ℕ) → now.next who ≡ start.next who
    nexts_too who = nexts who ∙ ap (λ (ms : List ℕ). (begun ms ballot).next who) (sym firsts)

    row : IsRow start now 0 None (λ who. []) (λ who. []) marks
    row = record { left = []; takes = refl; own = none 0; others = λ who ne. none who; next = λ who ne. nexts_too who; promise = λ who ne. promises who }

    idle : IsIdle start now 0 None (λ who. [])
    idle = record { takes = refl; next = nexts_too 0; promise = promises 0; course = refl; sends = λ who. refl }

    following : IsFollowing at start (λ node. [])
    following = begins at ballot (first_slots at over base so) (ap (λ (ms : List ℕ). is_member ms base.core.first) firsts ∙ first)

    well : IsCourseOf at seats rows base (begun_course base) → ((node : ℕ) (r : ReplicaState) → view_at seats rows base.core.id node ≡ Some r → r.running ≡ true → IsOrderly r) → IsWellLed at over by words seats rows base (begun_course base)
    well given orderly = record {
      followed = record { follows = idle-keeps start now 0 None (λ who. []) (λ who. []) marks row idle at following; given = given };
      heeded = hints_are_kept.idle at by start now 0 None (λ who. []) (λ who. []) marks hints hints so.rosters row idle following (λ who ne. refl) refl (hints_are_kept.begin at by ballot hints (λ node ne open_. heads node));
      low = λ who. subst (AreLow (now.next who)) (sym (nothing (dated_at (players words seats) rows base.core.id who) (marks_all base.core.id (rest (players words seats) rows who) ∙ none who))) tt;
      own = own_is_kept.idle at start now 0 None (λ who. []) (λ who. []) marks row idle following tt (own_is_kept.begin at ballot);
      orderly = orderly;
      young = λ _. refl;
      ends = sym so.stands;
      rests = some_slot;
    }
      where
        some_slot : (slot : ℕ) → over slot ≡ true → 1 ≤ slot
        some_slot zero e = absurd (true≢false (sym e ∙ so.early))
        some_slot (suc slot) e = omega arith

-- ---- a group of a scenario

module _ (at : Sets) (over : Ends) (by : SlotLeaders) (words : ℕ → ℕ → ℕ × ℕ) (scenario : Scenario) (base : Base) (bounded : IsBounded scenario) (a : Among base scenario.groups) (so : BeginsSo at over base) where
  abbrev born : List (Seat Player)
  born = births as_nodes scenario

  abbrev now_s : Progress
  now_s = progress_at born [] base (begun_course base)

  first_s : is_member base.core.members base.core.first ≡ true
  first_s = (born_facts scenario bounded base a).1

  own_hint : (who : ℕ) → hint_in base (own_replica who base) ≡ Some base.core.first
  own_hint who = cond_both (is_member base.core.members who) (Some (born_replica slots_ahead who base)) None (λ o. hint_in base o ≡ Some base.core.first) (λ _. refl) (λ _. refl)

  -- one that runs is the first member's
  one_runs : (node : ℕ) (r : ReplicaState) → view_at born [] base.core.id node ≡ Some r → r.running ≡ true → (born_replica slots_ahead base.core.first base ≡ r) × (node ≡ base.core.first)
  one_runs node r e runs =
      let there : cond (is_member base.core.members node) (Some (born_replica slots_ahead node base)) None ≡ Some r = sym (view_born scenario bounded base a node) ∙ e in
      elim (cases_Bool (is_member base.core.members node)) [
        | inr f ↦ absurd (none_some (sym (cond-false (is_member base.core.members node) (Some (born_replica slots_ahead node base)) None f) ∙ there))
        | inl t ↦ (let some : Some (born_replica slots_ahead node base) ≡ Some r = sym (cond-true (is_member base.core.members node) (Some (born_replica slots_ahead node base)) None t) ∙ there in
            let same_r : born_replica slots_ahead node base ≡ r = cc in
            let who : base.core.first ≡ node = eqb-true base.core.first node (ap (λ (x : ReplicaState). x.running) same_r ∙ runs) in
            (ap (λ n. born_replica slots_ahead n base) who ∙ same_r, sym who))
      ]

  scenario_led : IsWellLed at over by words born [] base (begun_course base)
  scenario_led =
      let facts = born_facts scenario bounded base a in
      well at over by words born [] base so first_s (next_born scenario bounded base a) (promise_born scenario bounded base a) (λ who. refl) (λ who. ap (hint_in base) (view_born scenario bounded base a who) ∙ own_hint who)
      (record {
        gives = λ node r e runs.
            (let one = one_runs node r e runs in (
              subst (IsLeadOf at now_s) one.0
                  (born_leads at base now_s so.sets facts.0 facts.1 facts.2 refl (next_born scenario bounded base a base.core.first ∙ cond-true (is_member base.core.members base.core.first) 1 0 facts.1) (promise_born scenario bounded base a base.core.first)),
              one.1,
            ));
        runs = λ _. subst (IsLedBy base (begun_course base))
            (sym (view_born scenario bounded base a base.core.first ∙ cond-true (is_member base.core.members base.core.first) (Some (born_replica slots_ahead base.core.first base)) None facts.1))
            (eq-eqb base.core.first base.core.first refl);
      })
      (λ node r e runs. subst IsOrderly (one_runs node r e runs).0 (leaders_begin at base.core.first base so.sets refl facts.1 facts.2 facts.0).1)

-- Each group of a bounded scenario is well led at its birth, whatever log it then has that begins with its first members.
pub scenarios_begin_led : ScenariosBeginLed
scenarios_begin_led at over by words scenario base bounded a so = scenario_led at over by words scenario base bounded a so

-- So is the child of a split, before any node has a replica of it.
pub children_begin_led : ChildrenBeginLed
children_begin_led at over by words seats rows base so first unborn none =
    well at over by words seats rows base so first (λ who. ap (next_in base who) (unborn who)) (λ who. ap (promise_in base) (unborn who)) none (λ who. ap (hint_in base) (unborn who))
    (record {
      gives = λ node r e runs. absurd (none_some (sym (unborn node) ∙ e));
      runs = λ _. subst (IsLedBy base (begun_course base)) (sym (unborn base.core.first)) refl;
    })
    (λ node r e runs. absurd (none_some (sym (unborn node) ∙ e)))
