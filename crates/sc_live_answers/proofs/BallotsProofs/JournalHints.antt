-- Hints rise through a calm journal, from the births on and row by row.
use Rattle.std.proofs.Common.{◌≡◌, ℕ, ◌+◌, ◌<◌, ◌≤◌, true, List, [], Some, None, inl, inr, sym, ◌∙◌, ap, subst, arith}
use Rattle.std.proofs.lemmas.Bool.{cases_Bool, cond-true, cond-false}
use Rattle.sc_node_table.specs.Values.{Ballot, Base, OrderLine, Mail, Seat, Event, Row}
use Rattle.sc_base.specs.Definitions.{is_member, least_of}
use Rattle.sc_actor.specs.Definitions.{row_of}
use Rattle.sc_live_orderly.specs.OrderlyDefinitions.{IsCalmEvent, AreInTime}
use Rattle.sc_live_orderly.proofs.OrderlyLemmas.{last_in_time}
use Rattle.sc_words.specs.paxos.PaxosDefinitions.{IsAtLeast}
use Rattle.sc_words.proofs.PaxosProofs.PaxosLemmas.{at_least_itself}
use Rattle.sc_scenario.specs.declared.scenario.scenarios.Scenario.{Scenario}
use Rattle.sc_node_table.specs.NodeDefinitions.{ReplicaState, first_ballot, born_replica, slots_ahead}
use Rattle.sc_meaning.specs.sound.SoundDefinitions.{Player, player_table, births, as_nodes}
use Rattle.sc_live_steps.specs.calm.CalmDefinitions.{players, Rows}
use Rattle.sc_live_steps.specs.following.FollowingDefinitions.{Course, Progress, Sets, members_at, IsOpen, IsFollowing, SlotLeaders}
use Rattle.sc_live_steps.proofs.FollowingProofs.FollowingLemmas.{least_in}
use Rattle.sc_live_journals.specs.rows.RowDefinitions.{view_at, marks_at, next_in, promise_in, progress_at, with_event}
use Rattle.sc_live_journals.specs.groups.GroupDefinitions.{Ends, hint_in, hints_at, ScenariosAreWellBorn}
use Rattle.sc_live_journals.specs.logs.LogDefinitions.{logged_sets}
use Rattle.sc_live_answers.specs.AnswerDefinitions.{over_at, slot_leaders_at, AreBornAsBegun, GroupsAreBornAsBegun, IsSentThrough, top_in, IsSeen, GroupsBeginRising, NextRowsRise, IsRisingOn}
use Rattle.sc_live_journals.specs.mail.MailDefinitions.{JournalsKeepIdle}
use Rattle.sc_live_answers.proofs.BallotsProofs.SeenBallots.{refuses_old, seen_then}
use Rattle.sc_live_answers.proofs.BallotsProofs.HintedMarks.{member_open}
use Rattle.sc_live_answers.proofs.BallotsProofs.HintInvariant.{fated_then}
use Rattle.sc_live_answers.proofs.BallotsProofs.PromisedBallots.{topped_then}

-- ---- the births

module _ (words : ℕ → ℕ → ℕ × ℕ) (at : Sets) (over : Ends) (by : SlotLeaders) (births : List (Seat Player)) (base : Base) (t : IsSentThrough at over by words births [] base) (born : AreBornAsBegun births base) where
  abbrev course : Course
  course = t.course

  abbrev now : Progress
  now = progress_at births [] base course

  follows : IsFollowing at now (marks_at (players words births) [] base.core.id)
  follows = t.led.followed.follows

  -- each replica is as the group begins
  promises : (who : ℕ) → now.promise who ≡ first_ballot base.core
  promises who = elim (born who) [ inl none ↦ ap (promise_in base) none | inr some ↦ ap (promise_in base) some.0 ]

  hints : (who : ℕ) → hints_at births [] base who ≡ Some base.core.first
  hints who = elim (born who) [ inl none ↦ ap (hint_in base) none | inr some ↦ ap (hint_in base) some.0 ]

  -- so the first member's ballot is the group's
  abbrev least : ℕ
  least = least_of (members_at at course.newest)

  least_member : is_member (members_at at course.newest) least ≡ true
  least_member = least_in (members_at at course.newest) (t.one.log.rosters (course.newest + 3)).some

  ballot_is : first_ballot base.core ≡ course.ballot
  ballot_is =
      let opened : IsOpen at course.newest least = member_open at least course.newest course.newest (omega arith) (omega arith) least_member in
      sym (promises least) ∙ (follows.ready least opened).promised

  -- and all that is executed is nothing
  newest_is : now.next least ≡ course.newest
  newest_is = follows.members least least_member

  next_least : now.next least ≤ 1
  next_least = elim (born least) [
    | inl none ↦ (let e = ap (next_in base least) none in low e)
    | inr some ↦ (let e = ap (next_in base least) some.0 in omega (arith, e))
  ]
    where
      low : now.next least ≡ next_in base least None → now.next least ≤ 1
      low e = elim (cases_Bool (is_member base.core.members least)) [
        | inl m ↦ (let f : next_in base least None ≡ 1 = cond-true (is_member base.core.members least) 1 0 m in omega (arith, e, f))
        | inr m ↦ (let f : next_in base least None ≡ 0 = cond-false (is_member base.core.members least) 1 0 m in omega (arith, e, f))
      ]

  first_next : now.next base.core.first ≡ 1
  first_next = elim (born base.core.first) [
    | inl none ↦ ap (next_in base base.core.first) none ∙ cond-true (is_member base.core.members base.core.first) 1 0 t.one.first
    | inr some ↦ ap (next_in base base.core.first) some.0
  ]

  pub begins : IsRisingOn at by words births [] base t.course
  begins = record {
    fated = record {
      fates = λ who prem. inr (record { hint_is = hints who ∙ ap (λ (b : Ballot). Some b.node) (sym (promises who)); passed = inl (promises who ∙ ballot_is) });
      last = λ off gone. (let some = follows.some in let low = next_least in let fact = newest_is in let one = first_next in
          let here : now.next course.ballot.node ≡ now.next base.core.first = ap (λ (b : Ballot). now.next b.node) (sym ballot_is) in
          omega (arith, some, low, fact, one, here));
      left = λ off stands. absurd (let low = follows.self_election off stands in let fact = newest_is in no_less low fact);
    };
    seen = λ who r view. elim (born who) [
      | inl none ↦ absurd (some_none r (sym view ∙ none))
      | inr some ↦ (let same : born_replica slots_ahead who base ≡ r = (let e : Some (born_replica slots_ahead who base) ≡ Some r = sym some.0 ∙ view in cc) in
          subst (λ (x : ReplicaState). IsAtLeast x.acceptor.promised x.top) same (at_least_itself (first_ballot base.core)))
    ];
    home = record { first = first_top; promised = λ who. subst (IsSeen births [] base) (sym (promises who)) first_seen; asked = λ who. tt; refused = tt };
  }
    where
      first_top : (who : ℕ) → IsAtLeast (top_in base (view_at births [] base.core.id who)) (first_ballot base.core)
      first_top who =
          let top : top_in base (view_at births [] base.core.id who) ≡ first_ballot base.core = elim (born who) [ inl none ↦ ap (top_in base) none | inr some ↦ ap (top_in base) some.0 ] in
          subst (λ b. IsAtLeast b (first_ballot base.core)) (sym top) (at_least_itself (first_ballot base.core))

      first_seen : IsSeen births [] base (first_ballot base.core)
      first_seen = first_top (first_ballot base.core).node

      some_none : (x : ReplicaState) → Some x ≡ None → ⊥
      some_none x e = cc

      no_less : now.next (least_of (members_at at course.newest)) < course.newest → now.next least ≡ course.newest → ⊥
      no_less low fact = absurd (omega (arith, low, fact))

pub groups_begin : GroupsAreBornAsBegun → GroupsBeginRising
groups_begin born words scenario journal base group t =
    begins words (logged_sets as_nodes base journal) (over_at as_nodes base journal) (slot_leaders_at as_nodes scenario base journal) (births as_nodes scenario) base t (born words scenario journal base group)

-- ---- one row more

pub calm_of : (words : ℕ → ℕ → ℕ × ℕ) (scenario : Scenario) (rows : Rows) (seat : Seat Player) (event : Event OrderLine) → AreInTime (players words (births as_nodes scenario)) (with_event rows seat event) → IsCalmEvent (players words (births as_nodes scenario)) rows seat.who event
calm_of words scenario rows seat event timely =
    let s = players words (births as_nodes scenario) in
    let calm = (last_in_time s rows (row_of player_table seat rows event) timely).0 in
    let who : seat.who ≡ calm.seat.who = ap (λ (r : Row Mail OrderLine). r.who) calm.row_is in
    let same : event ≡ calm.event = ap (λ (r : Row Mail OrderLine). r.event) calm.row_is in
    subst (λ w. IsCalmEvent (players words (births as_nodes scenario)) rows w event) (sym who) (subst (λ e. IsCalmEvent (players words (births as_nodes scenario)) rows calm.seat.who e) (sym same) calm.calm)

pub next_rows : JournalsKeepIdle → ScenariosAreWellBorn → NextRowsRise
next_rows idle wb words at over by scenario rows seat event base timely born t s rising =
    let calm = calm_of words scenario rows seat event timely in
    let refuses = refuses_old words at over by scenario rows seat event base t.course timely born calm t.led s.step rising.home in
    subst (IsRisingOn at by words (births as_nodes scenario) (with_event rows seat event) base) (sym s.same) (record {
      fated = fated_then words at over by scenario rows seat event base t.course idle (wb scenario) s.through.one s.through.so timely born calm t.led rising.fated s.step.later s.step.led s.step.row;
      seen = topped_then words at over by scenario rows seat event base t.course idle (wb scenario) s.through.one s.through.so timely born calm t.led s.step (λ r e. t.asked.plain seat.who r e) rising.seen refuses;
      home = seen_then words at over by scenario rows seat event base t.course timely born calm t.led s.step rising.home;
    })
