-- Each row of players, by its kind in a group, keeps the group well led.
use Rattle.std.proofs.Common.{◌≡◌, ℕ, ◌≤◌, true, true≢false, List, [], ◌∷◌, Option, Some, None, inl, inr, refl, sym, ◌∙◌, ap, subst, append-nil}
use Rattle.std.specs.Option.{option_map}
use Rattle.std.proofs.lemmas.Bool.{cases_eq}
use Rattle.sc_base.specs.Definitions.{Among, Each}
use Rattle.sc_node_table.specs.Values.{Ballot, Draw, Base, OrderLine, Mail, Seat, Event}
use Rattle.sc_actor.specs.Definitions.{mails, row_of}
use Rattle.sc_live_orderly.specs.OrderlyDefinitions.{rest}
use Rattle.sc_node_table.specs.NodeDefinitions.{ReplicaState, Place}
use Rattle.sc_meaning.specs.sound.SoundDefinitions.{Player, player_table}
use Rattle.sc_live_steps.specs.calm.CalmDefinitions.{players, Rows}
use Rattle.sc_live_steps.specs.following.FollowingDefinitions.{Dated, dated_for, marks_in, IsNoPrepare, AreLow, IsAskedLow, IsDatedRow, Mark, Course, Progress, Sets, IsFollowing, SlotLeaders, GoesBy, IsOrderly, IsRow, IsIdle, Takes, Leads, Elects, IsOffered, marks_for}
use Rattle.sc_live_steps.proofs.FollowingProofs.FollowingLemmas.{slots_are_kept, prepares_are_known, hints_are_kept, idle-keeps, own_is_kept}
use Rattle.sc_live_journals.specs.rows.RowDefinitions.{view_at, progress_at, marks_at, taken_mark, begun_course, led_course, elected_course, with_event, IsKind, IsReplicasRow}
use Rattle.sc_live_journals.proofs.RowsProofs.RowLemmas.{rows_keep, same_some, rows_are, view_others}
use Rattle.sc_live_journals.specs.groups.GroupDefinitions.{Ends, hint_in, hints_at, dated_at, IsWellLed, IsStage, LeavesWell, LeadsWell, ElectsWell, RowsKeepLed}
use Rattle.sc_live_journals.proofs.GroupsProofs.DatedMarks.{taken_dated, taken_same, with_slot, with_none, rows_dated}
pub use Rattle.sc_live_steps.proofs.FollowingProofs.AskedSlots.{marks_all}

-- ---- what is the same for marks that are the same

following_same : (at : Sets) (now : Progress) (one two : ℕ → List Mark) → ((who : ℕ) → two who ≡ one who) → IsFollowing at now one → IsFollowing at now two
following_same at now one two same f =
    idle-keeps now now 0 None (λ who. []) one two
    (record { left = one 0; takes = refl; own = same 0 ∙ sym (append-nil (one 0)); others = λ who ne. same who ∙ sym (append-nil (one who)); next = λ who ne. refl; promise = λ who ne. refl })
    (record { takes = refl; next = refl; promise = refl; course = refl; sends = λ who. refl }) at f

takes_same : (at : Sets) (now after : Progress) (node : ℕ) (taken : Option Mark) (one two : ℕ → List Mark) → ((who : ℕ) → two who ≡ one who) → Takes at now after node taken one → Takes at now after node taken two
takes_same at now after node taken one two same t =
    record { mark = t.mark; takes = t.takes; next = t.next; promise = t.promise; course = t.course; sends = λ who. same who ∙ t.sends who; counts = t.counts; waits = t.waits }

leads_same : (at : Sets) (now after : Progress) (node : ℕ) (taken : Option Mark) (one two : ℕ → List Mark) → ((who : ℕ) → two who ≡ one who) → Leads at now after node taken one → Leads at now after node taken two
leads_same at now after node taken one two same l = record {
  runs = l.runs;
  mine = l.mine;
  takes = l.takes;
  executed = l.executed;
  newest = l.newest;
  next = l.next;
  promise = l.promise;
  ballot = l.ballot;
  first = l.first;
  within = l.within;
  bound = l.bound;
  high = l.high;
  stays = l.stays;
  leaves = l.leaves;
  stops = l.stops;
  offers = l.offers;
  sends = λ who. same who ∙ l.sends who;
  asks = l.asks;
  unvoted = l.unvoted;
  flying = l.flying;
  kept = l.kept;
  grown = λ slot voters e. elim (l.grown slot voters e) [ inl o ↦ inl (offered_too slot voters o) | inr c ↦ inr c ];
  counted = l.counted;
  counts = l.counts;
}
  where
    offered_too : (slot : ℕ) (voters : List ℕ) → IsOffered at now.course one slot voters → IsOffered at now.course two slot voters
    offered_too slot voters o = record { from = o.from; none = o.none; asks = λ who m. subst (Among _) (sym (same who)) (o.asks who m) }

elects_same : (at : Sets) (now after : Progress) (node : ℕ) (taken : Option Mark) (one two : ℕ → List Mark) → ((who : ℕ) → two who ≡ one who) → Elects at now after node taken one → Elects at now after node taken two
elects_same at now after node taken one two same e = record {
  mark = e.mark;
  takes = e.takes;
  last = e.last;
  idle = e.idle;
  stands = e.stands;
  least = e.least;
  next = e.next;
  promise = e.promise;
  newest = e.newest;
  bound = e.bound;
  later = e.later;
  mine = e.mine;
  first = e.first;
  runs = e.runs;
  stays = e.stays;
  voters = e.voters;
  sends = λ who. elim (e.sends who) [ inl none ↦ inl (same who ∙ none) | inr asks ↦ inr (asks.0, same who ∙ asks.1) ];
  asks = λ who o. same who ∙ e.asks who o;
}

-- marks with slots, of which none asks to promise
none_of : (dated : List Dated) → Each IsNoPrepare (marks_in dated) → Each (λ d. IsNoPrepare d.0) dated
none_of [] e = tt
none_of (d ∷ dated) e = (e.0, none_of dated e.1)

-- ---- the rows

module _ (at : Sets) (over : Ends) (by : SlotLeaders) (words : ℕ → ℕ → ℕ × ℕ) (births : List (Seat Player)) (rows : Rows) (seat : Seat Player) (event : Event OrderLine) (base : Base) (course : Course)
    (stage : IsStage at over by words births rows seat event base course) where
  abbrev then_ : Rows
  then_ = with_event rows seat event

  abbrev name : Draw
  name = base.core.id

  abbrev now : Progress
  now = progress_at births rows base course

  abbrev taken : Option Mark
  taken = taken_mark name (mails rows) event

  abbrev all_sent : List Mail
  all_sent = (row_of player_table seat rows event).sent

  abbrev sent : ℕ → List Mark
  sent who = marks_for name who all_sent

  abbrev marks : ℕ → List Mark
  marks = marks_at (players words births) rows name

  abbrev marks_then : ℕ → List Mark
  marks_then = marks_at (players words births) then_ name

  abbrev hints : ℕ → Option ℕ
  hints = hints_at births rows base

  abbrev hints_then : ℕ → Option ℕ
  hints_then = hints_at births then_ base

  abbrev dated : ℕ → List Dated
  dated = dated_at (players words births) rows name

  abbrev dated_then : ℕ → List Dated
  dated_then = dated_at (players words births) then_ name

  abbrev sent_dated : ℕ → List Dated
  sent_dated who = dated_for name who all_sent

  abbrev after_ : Course → Progress
  after_ c = progress_at births then_ base c

  row_in : (c : Course) → IsRow now (after_ c) seat.who taken sent marks marks_then
  row_in c = rows_are words births rows (row_of player_table seat rows event) base course c stage.timely

  dated_row : (c : Course) → IsDatedRow now (after_ c) seat.who (taken_dated name (mails rows) event) sent_dated dated dated_then
  dated_row c = rows_dated words births rows (row_of player_table seat rows event) base course c stage.timely

  others_view : (who : ℕ) → (who ≡ seat.who → ⊥) → view_at births then_ name who ≡ view_at births rows name who
  others_view who ne = view_others births rows (row_of player_table seat rows event) name who ne

  others_hint : (who : ℕ) → (who ≡ seat.who → ⊥) → hints_then who ≡ hints who
  others_hint who ne = ap (hint_in base) (others_view who ne)

  -- the marks of what is sent, and of what is under way, are those with slots
  sent_same : (who : ℕ) → marks_in (sent_dated who) ≡ sent who
  sent_same who = prepares_are_known.same name who all_sent

  abbrev was_low : IsAskedLow now dated
  was_low = stage.was.low

  -- replicas that run are in order
  orderly_then : ((r : ReplicaState) → view_at births then_ name seat.who ≡ Some r → r.running ≡ true → IsOrderly r) → (node : ℕ) (r : ReplicaState) → view_at births then_ name node ≡ Some r → r.running ≡ true → IsOrderly r
  orderly_then own node r e runs = elim (cases_eq node seat.who) [
    | inl fact ↦ own r (subst (λ n. view_at births then_ name n ≡ Some r) fact e) runs
    | inr ne ↦ stage.was.orderly node r (sym (others_view node ne) ∙ e) runs
  ]

  -- where the first member's node has no replica after it, it had none
  none_before : (view_at births then_ name seat.who ≡ None → view_at births rows name seat.who ≡ None) → view_at births then_ name base.core.first ≡ None → view_at births rows name base.core.first ≡ None
  none_before there none = elim (cases_eq base.core.first seat.who) [
    | inl fact ↦ subst (λ n. view_at births rows name n ≡ None) (sym fact) (there (subst (λ n. view_at births then_ name n ≡ None) fact none))
    | inr ne ↦ sym (others_view base.core.first ne) ∙ none
  ]

  keeps_idle : LeavesWell at births rows seat event base course → IsKind IsIdle births rows seat event base course course → hints_then seat.who ≡ hints seat.who → IsWellLed at over by words births then_ base course
  keeps_idle leaves idle hint = record {
    followed = rows_keep.idle at words births rows seat event base course stage.rosters stage.timely stage.was.followed leaves.lead idle;
    heeded = hints_are_kept.idle at by now (after_ course) seat.who taken sent marks marks_then hints hints_then stage.rosters (row_in course) idle stage.was.followed.follows others_hint hint stage.was.heeded;
    low = (let none = with_none (taken_dated name (mails rows) event) (taken_same name (mails rows) event ∙ idle.takes) in
        slots_are_kept.idle at now (after_ course) seat.who sent_dated dated dated_then (subst (λ o. IsDatedRow now (after_ course) seat.who o sent_dated dated dated_then) none (dated_row course))
        (record { takes = refl; next = idle.next; promise = idle.promise; course = idle.course; sends = λ who. sent_same who ∙ idle.sends who }) was_low);
    own = own_is_kept.idle at now (after_ course) seat.who taken sent marks marks_then (row_in course) idle stage.was.followed.follows tt stage.was.own;
    orderly = orderly_then leaves.orderly;
    young = λ none. stage.was.young (none_before leaves.there none);
    ends = stage.was.ends;
    rests = stage.was.rests;
  }

  keeps_taking : LeavesWell at births rows seat event base course → IsKind (Takes at) births rows seat event base course course → GoesBy at by now (after_ course) seat.who taken (hints seat.who) (hints_then seat.who) → IsWellLed at over by words births then_ base course
  keeps_taking leaves takes hint = record {
    followed = rows_keep.takes at words births rows seat event base course stage.rosters stage.timely stage.was.followed leaves.lead takes;
    heeded = hints_are_kept.takes at by now (after_ course) seat.who taken sent marks marks_then hints hints_then stage.rosters (row_in course) takes stage.was.followed.follows others_hint hint stage.was.heeded;
    low = (let some = with_slot (taken_dated name (mails rows) event) takes.mark (taken_same name (mails rows) event ∙ takes.takes) in
        slots_are_kept.takes at now (after_ course) seat.who some.0 sent_dated dated dated_then (subst (λ o. IsDatedRow now (after_ course) seat.who o sent_dated dated dated_then) some.1 (dated_row course))
        (takes_same at now (after_ course) seat.who (Some some.0.0) sent (λ who. marks_in (sent_dated who)) sent_same (subst (λ o. Takes at now (after_ course) seat.who o sent) (takes.takes ∙ ap Some (sym some.2)) takes)) was_low);
    own = own_is_kept.takes at now (after_ course) seat.who taken sent marks marks_then (row_in course) takes stage.was.followed.follows tt stage.was.own;
    orderly = orderly_then leaves.orderly;
    young = λ none. stage.was.young (none_before leaves.there none);
    ends = stage.was.ends;
    rests = stage.was.rests;
  }

  -- the marks that are under way, of those with slots
  marks_same : (who : ℕ) → marks_in (dated who) ≡ marks who
  marks_same who = marks_all name (rest (players words births) rows who)

  followed_dated : IsFollowing at now (λ who. marks_in (dated who))
  followed_dated = following_same at now marks (λ who. marks_in (dated who)) marks_same stage.was.followed.follows

  -- one that has a replica after it, and where none has one at the first member's node
  some_there : (place : Place) → view_at births then_ name seat.who ≡ Some place.0 → view_at births then_ name seat.who ≡ None → view_at births rows name seat.who ≡ None
  some_there place fact none = (let bad : Some place.0 ≡ None = sym fact ∙ none in cc)

  keeps_leading : (r : ReplicaState) (after : Place) → IsReplicasRow births rows seat event name (Some r) after → (l : LeadsWell at over by births rows seat event base course after) → IsWellLed at over by words births then_ base (led_course l.led.bound course after.0)
  keeps_leading r after row l =
      let c = led_course l.led.bound course after.0 in
      let leads = l.led.leads in
      let dated_leads : Leads at now (after_ c) seat.who (option_map (λ d. d.0) (taken_dated name (mails rows) event)) (λ who. marks_in (sent_dated who)) =
      subst (λ o. Leads at now (after_ c) seat.who o (λ who. marks_in (sent_dated who))) (sym (taken_same name (mails rows) event)) (leads_same at now (after_ c) seat.who taken sent (λ who. marks_in (sent_dated who)) sent_same leads) in
      record {
        followed = rows_keep.leads at words births rows seat event base course r after stage.rosters stage.timely stage.was.followed row l.led;
        heeded = hints_are_kept.leads at by now (after_ c) seat.who taken sent marks marks_then hints hints_then stage.rosters (row_in c) leads stage.was.followed.follows others_hint l.last stage.was.heeded;
        low = slots_are_kept.leads at now (after_ c) seat.who (taken_dated name (mails rows) event) sent_dated dated dated_then (dated_row c) followed_dated dated_leads
            (record {
              low = λ who next. subst (λ ms. AreLow next (dated_for name who ms)) (sym row.sends_all) (l.low who next);
              own = λ some. none_of (dated seat.who) (subst (Each IsNoPrepare) (sym (marks_same seat.who)) (own_is_kept.execution at now (after_ c) seat.who (option_map (λ d. d.0) (taken_dated name (mails rows) event)) (λ who. marks_in (sent_dated who)) marks dated_leads stage.was.own some));
            }) was_low;
        own = own_is_kept.leads at now (after_ c) seat.who taken sent marks marks_then (row_in c) leads stage.was.followed.follows l.counts stage.was.own;
        orderly = orderly_then (λ other e runs.
            (let same : after.0 ≡ other = same_some (view_at births then_ name seat.who) after.0 other row.fact e in
            subst IsOrderly same (l.orderly (ap (λ (x : ReplicaState). x.running) same ∙ runs))));
        young = λ none. absurd (never_led r after row leads.mine (stage.was.young (none_before (some_there after row.fact) none)) none);
        ends = l.ends;
        rests = l.rests;
      }
    where
      -- the first member's node has a replica where it leads
      never_led : (r : ReplicaState) (after : Place) → IsReplicasRow births rows seat event name (Some r) after → seat.who ≡ course.ballot.node → course ≡ begun_course base → view_at births then_ name base.core.first ≡ None → ⊥
      never_led r after row mine begins none =
          (let first : seat.who ≡ base.core.first = mine ∙ ap (λ (c : Course). c.ballot.node) begins in
          let bad : Some after.0 ≡ None = sym row.fact ∙ subst (λ n. view_at births then_ name n ≡ None) (sym first) none in
          cc)

  keeps_electing : (ballot : Ballot) (r : ReplicaState) (after : Place) → IsReplicasRow births rows seat event name (Some r) after → ElectsWell at births rows seat event base course ballot after → IsWellLed at over by words births then_ base (elected_course course ballot)
  keeps_electing ballot r after row e =
      let c = elected_course course ballot in
      let self_election = e.self_election in
      let some = with_slot (taken_dated name (mails rows) event) self_election.mark (taken_same name (mails rows) event ∙ self_election.takes) in
      record {
        followed = rows_keep.self_election at words births rows seat event base course ballot r after stage.rosters stage.timely stage.was.followed row self_election e.runs e.leads;
        heeded = hints_are_kept.self_election at by now (after_ c) seat.who taken sent marks marks_then hints hints_then stage.rosters (row_in c) self_election stage.was.followed.follows others_hint tt stage.was.heeded;
        low = slots_are_kept.self_election at now (after_ c) seat.who some.0 sent_dated dated dated_then (subst (λ o. IsDatedRow now (after_ c) seat.who o sent_dated dated dated_then) some.1 (dated_row c)) followed_dated
            (elects_same at now (after_ c) seat.who (Some some.0.0) sent (λ who. marks_in (sent_dated who)) sent_same (subst (λ o. Elects at now (after_ c) seat.who o sent) (self_election.takes ∙ ap Some (sym some.2)) self_election))
            (λ who. subst (λ ms. Each (λ (d : Dated). course.newest ≤ d.1) (dated_for name who ms)) (sym row.sends_all) (e.low who)) was_low;
        own = own_is_kept.self_election at now (after_ c) seat.who taken sent marks marks_then (row_in c) self_election stage.was.followed.follows (record { none = λ who. refl; told = e.told }) stage.was.own;
        orderly = orderly_then (λ other view runs. subst IsOrderly (same_some (view_at births then_ name seat.who) after.0 other row.fact view) e.orderly);
        young = λ none. absurd (true≢false (sym (ap (λ (x : Course). x.running) (stage.was.young (none_before (some_there after row.fact) none))) ∙ self_election.idle));
        ends = sym self_election.stands ∙ stage.was.ends;
        rests = stage.was.rests;
      }

-- Each row of players keeps a group well led, by what it is in the group: one that does nothing, of a node that takes a mail, of the leader, or of one that elects itself.
pub rows_keep_led : RowsKeepLed
rows_keep_led = record {
  idle = λ at over by words births rows seat event base course stage leaves idle hint. keeps_idle at over by words births rows seat event base course stage leaves idle hint;
  takes = λ at over by words births rows seat event base course stage leaves takes hint. keeps_taking at over by words births rows seat event base course stage leaves takes hint;
  leads = λ at over by words births rows seat event base course r after stage row l. keeps_leading at over by words births rows seat event base course stage r after row l;
  self_election = λ at over by words births rows seat event base course ballot r after stage row e. keeps_electing at over by words births rows seat event base course stage ballot r after row e;
}
