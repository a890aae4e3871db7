-- A node that takes mail of its group, or an order, and does not lead, leaves the group well led.
use Rattle.std.proofs.Common.{◌≡◌, ℕ, suc, ◌+◌, ◌<◌, ◌&&◌, true, false, true≢false, List, [], ◌∷◌, ◌++◌, Option, Some, None, ◌⊎◌, inl, inr, refl, sym, ◌∙◌, ap, subst, arith}
use Rattle.std.specs.Prelude.{is_some}
use Rattle.std.specs.Option.{option_map}
use Rattle.std.proofs.lemmas.Bool.{cases_lt, cond-false}
use Rattle.sc_base.specs.Definitions.{same_ballot, is_member}
use Rattle.sc_node_table.specs.Values.{Ballot, Draw, Command, Base, OrderLine, Mail, Prepare, Promise, Accept, Accepted, Install, Seat, Event, Deliver, Report}
use Rattle.sc_actor.specs.declared.rows.Event.TheVariants.{Told}
use Rattle.sc_actor.specs.Definitions.{mails, row_of}
use Rattle.sc_live_orderly.specs.OrderlyDefinitions.{AreInTime}
use Rattle.sc_words.specs.paxos.PaxosDefinitions.{below, LeaderState, flight_at, promise_counted}
use Rattle.sc_node_table.specs.NodeDefinitions.{NodeState, replica_of, group_of_mail, group_of_order, ordered_row, pumped, ReplicaState, Place, Executed, childless, listed, either, taken_at, name_of, next, first_ballot, set_at, mailed, made_by, at_slot, leads, promise_row, voted, accepted_row}
use Rattle.sc_meaning.specs.sound.SoundDefinitions.{Player, player_table}
use Rattle.sc_live_steps.specs.calm.CalmDefinitions.{players, Rows}
use Rattle.sc_live_steps.specs.following.FollowingDefinitions.{from_slot_of, Mark, Asks, Votes, Installs, Prepares, Promises, mark_of, Course, Progress, Sets, members_at, SlotLeaders, hint_by, AreHeeded, IsOther, GoesBy, IsAside, AreApart, HasBallot, IsOrderly, IsRow, IsCount, marks_for, StepsBy}
use Rattle.sc_live_steps.proofs.FollowingProofs.FollowingLemmas.{prepares_are_known, nodes_heed, tables, same_mark, states, hints_follow}
use Rattle.sc_live_journals.specs.rows.RowDefinitions.{IsUnmoved, view_at, next_in, promise_in, progress_at, marks_at, mark_in, taken_mark, LeavesLead, IsScene, TakesMail, HoldsReplica, WaitsStill, with_event, IsReplicasRow}
use Rattle.sc_live_journals.proofs.RowsProofs.RowLemmas.{asides_still, same_some, aside_mark, apart_off, goes_on, idle_apart, waits_here, row_in, head, all_fit, known, within, no_lead, named, row_to, fit, taken, leads_stay, steps_take, states_take, uncounted_pass, still_idle, rows_replicas}
use Rattle.sc_live_journals.specs.groups.GroupDefinitions.{RowRests, RowTakes, RowMakes, IsLedStep, Ends, hint_in, hints_at, dated_at, IsLogsState, IsLedScene, IsStage, LeavesWell}
use Rattle.sc_live_journals.proofs.GroupsProofs.DatedMarks.{dated_in, taken_dated, rows_dated}
use Rattle.sc_live_journals.proofs.GroupsProofs.Rows.{rows_keep_led}

-- what is in order stays so where the leader, what is ready and the next slot stay
pub orderly_same : (r q : ReplicaState) → next q ≡ next r → q.leader ≡ r.leader → q.ready ≡ r.ready → IsOrderly r → IsOrderly q
orderly_same r q n l e o = record {
  apart = subst (λ (x : LeaderState Command). AreApart x.flights) (sym l) o.apart;
  single = λ slot least fact. ap (λ (x : LeaderState Command). flight_at slot x.flights) l ∙ o.single slot (omega (arith, n, least)) (ap (λ es. is_some (at_slot es slot)) (sym e) ∙ fact);
  alone = λ slot other command least fact act most some. o.alone slot other command (omega (arith, n, least)) (sym (taken slot) ∙ fact) act (omega (arith, n, most)) (ap is_some (sym (taken other)) ∙ some);
  plain = ap (λ (x : LeaderState Command). x.reports) l ∙ o.plain;
  asked = λ slot least fact. ballot (o.asked slot (omega (arith, n, least)) (ap is_some (sym (taken slot)) ∙ fact));
}
  where
    taken : (slot : ℕ) → taken_at q slot ≡ taken_at r slot
    taken slot = ap (λ (x : LeaderState Command). either (option_map (λ flight. flight.value) (flight_at slot x.flights)) (at_slot q.ready slot)) l ∙ ap (λ es. either (option_map (λ flight. flight.value) (flight_at slot r.leader.flights)) (at_slot es slot)) e

    ballot : HasBallot r → HasBallot q
    ballot (inl first) = inl (ap (λ (x : LeaderState Command). x.is_first) l ∙ first)
    ballot (inr one) = inr (one.0, ap (λ (x : LeaderState Command). is_member x.promisers one.0) l ∙ one.1)

-- votes and promises that no leader counts leave whom it takes for that
vote_hint : (from : ℕ) (ballot : Ballot) (slot : ℕ) (r : ReplicaState) → leads ballot r ≡ false → (mailed from (Accepted (name_of r) ballot slot) (r, [])).0.0.hint ≡ r.hint
unfolding mailed accepted_row
vote_hint from ballot slot r off = ap (λ (p : Executed). p.0.0.hint) (cond-false (leads ballot r) (voted from ballot slot (set_at slot r) (r, [])) (childless (r, [])) off)

promise_hint : (from : ℕ) (ballot : Ballot) (reports : List (Report Command)) (r : ReplicaState) → leads ballot r ≡ false → (mailed from (Promise (name_of r) ballot reports) (r, [])).0.0.hint ≡ r.hint
unfolding mailed promise_row
promise_hint from ballot reports r off = ap (λ (p : Place). p.0.hint) (cond-false (leads ballot r) (pumped (record r { leader = (promise_counted from ballot reports r.leader).1 }, [])) (r, []) off)

module _ (at : Sets) (over : Ends) (by : SlotLeaders) (words : ℕ → ℕ → ℕ × ℕ) (births : List (Seat Player)) (rows : Rows) (seat : Seat Player) (node : NodeState) (base : Base) (course : Course) (s : IsLedScene at over by words births rows seat node base course) where
  abbrev pub scene : IsScene at words births rows seat node base course
  scene = record { rosters = s.log.rosters; seated = s.seated; fact = s.fact; followed = s.led.followed }

  abbrev pub stage : (event : Event OrderLine) → AreInTime (players words births) (with_event rows seat event) → IsStage at over by words births rows seat event base course
  stage event timely = record { rosters = s.log.rosters; timely = timely; was = s.led }

-- ---- a state that is sent

module _ (at : Sets) (over : Ends) (by : SlotLeaders) (words : ℕ → ℕ → ℕ × ℕ) (births : List (Seat Player)) (rows : Rows) (seat : Seat Player) (node : NodeState) (base : Base) (course : Course) (s : IsLedScene at over by words births rows seat node base course)
    (number : ℕ) (mail : Mail) (takes : TakesMail words births rows seat number mail) (slot : ℕ) (fact : mark_of base.core.id mail.from mail.body ≡ Some (Installs slot)) where
  abbrev in_ : IsRow (progress_at births rows base course) (progress_at births (with_event rows seat (Deliver number)) base course) seat.who (taken_mark base.core.id (mails rows) (Deliver number))
      (λ who. marks_for base.core.id who (row_of player_table seat rows (Deliver number)).sent) (marks_at (players words births) rows base.core.id) (marks_at (players words births) (with_event rows seat (Deliver number)) base.core.id)
  in_ = row_in at words births rows seat node base course (scene at over by words births rows seat node base course s) number mail takes

  first_is : marks_at (players words births) rows base.core.id seat.who ≡ Installs slot ∷ in_.left
  first_is = head at words births rows seat node base course (scene at over by words births rows seat node base course s) number mail takes (Installs slot) fact

  -- a member sends it
  sent_member : (state : Base) → members_at at (slot + 1) ≡ state.core.members → (course.running ≡ true → seat.who ≡ course.ballot.node → ⊥) → is_member state.core.members (by slot) ≡ true
  sent_member state same apart =
      ap (λ ms. is_member ms (by slot)) (sym same)
      ∙ (subst (AreHeeded at by course seat.who ((progress_at births rows base course).promise seat.who) (hints_at births rows base seat.who)) first_is (s.led.heeded.heeds seat.who apart)).0

  -- it is not the last one where none leads
  sent_waits : course.running ≡ false → course.gone ≡ false → suc slot < course.newest
  sent_waits idle stands =
      elim (cases_lt (suc slot) course.newest) [
        | inl lt ↦ lt
        | inr ge ↦ (let most = within at words births rows seat node base course (scene at over by words births rows seat node base course s) number mail takes (Installs slot) fact in
            absurd (nodes_heed.sent at by (progress_at births rows base course) (hints_at births rows base) (marks_at (players words births) rows base.core.id) seat.who slot in_.left s.led.heeded idle stands first_is (omega (arith, ge, most))))
      ]

module _ (at : Sets) (over : Ends) (by : SlotLeaders) (words : ℕ → ℕ → ℕ × ℕ) (births : List (Seat Player)) (rows : Rows) (seat : Seat Player) (node : NodeState) (base : Base) (course : Course) (s : IsLedScene at over by words births rows seat node base course) where
  abbrev name : Draw
  name = base.core.id

  abbrev now : Progress
  now = progress_at births rows base course

  abbrev the_scene : IsScene at words births rows seat node base course
  the_scene = scene at over by words births rows seat node base course s

  -- a row in which the node's replica becomes another
  module _ (event : Event OrderLine) (before : Option ReplicaState) (after : Place) (row : IsReplicasRow births rows seat event base.core.id before after) where
    -- a row after which the replica does not lead leaves all well
    pub leaves_off : LeavesLead at births rows seat event base course → after.0.running ≡ false → LeavesWell at births rows seat event base course
    leaves_off lead off = record {
      lead = lead;
      orderly = λ other e runs. absurd (true≢false (sym runs ∙ (ap (λ (x : ReplicaState). x.running) (same_some (view_at births (with_event rows seat event) name seat.who) other after.0 e row.fact) ∙ off)));
      there = λ none. (let bad : Some after.0 ≡ None = sym row.fact ∙ none in cc);
    }

    -- a row after which the replica leads on as it was leaves all well
    pub leaves_same : (r : ReplicaState) → before ≡ Some r → LeavesLead at births rows seat event base course → next after.0 ≡ next r → after.0.running ≡ r.running → (r.running ≡ true → (after.0.leader ≡ r.leader) × (after.0.ready ≡ r.ready)) → LeavesWell at births rows seat event base course
    leaves_same r fact lead place runs_same leads_same = record {
      lead = lead;
      orderly = λ other e runs.
          (let same : after.0 ≡ other = same_some (view_at births (with_event rows seat event) name seat.who) after.0 other row.fact e in
          let ran : r.running ≡ true = sym runs_same ∙ (ap (λ (x : ReplicaState). x.running) same ∙ runs) in
          let kept = leads_same ran in
          subst IsOrderly same (orderly_same r after.0 place kept.0 kept.1 (s.led.orderly seat.who r (row.was ∙ fact) ran)));
      there = λ none. (let bad : Some after.0 ≡ None = sym row.fact ∙ none in cc);
    }

    -- whom it takes for the leader goes by the mail
    pub goes_by : (mark : Mark) → taken_mark name (mails rows) event ≡ Some mark
        → (IsOther course seat.who → (after.0.hint ≡ hint_by at by (promise_in base before) (hint_in base before) mark) ⊎ ((course.gone ≡ true) × (next after.0 ≡ course.newest)))
        → GoesBy at by now (progress_at births (with_event rows seat event) base course) seat.who (taken_mark name (mails rows) event) (hints_at births rows base seat.who) (hints_at births (with_event rows seat event) base seat.who)
    goes_by mark fact goes = λ m e other. elim (goes other) [
      | inl said ↦ (let same : mark ≡ m = (let both : Some mark ≡ Some m = sym fact ∙ e in cc) in
          inl (subst (λ x. hints_at births (with_event rows seat event) base seat.who ≡ hint_by at by (now.promise seat.who) (hints_at births rows base seat.who) x) same
          (ap (hint_in base) row.fact ∙ (said ∙ ap (λ o. hint_by at by (promise_in base o) (hint_in base o) mark) (sym row.was)))))
      | inr over_ ↦ inr (over_.0, ap (next_in base seat.who) row.fact ∙ over_.1)
    ]

  -- a row in which the node's replica does not run, and stays where it is
  stays_unmoved : (event : Event OrderLine) (r : ReplicaState) (after : Place) → AreInTime (players words births) (with_event rows seat event) → IsReplicasRow births rows seat event name (Some r) after → r.running ≡ false → taken_mark name (mails rows) event ≡ None
      → IsUnmoved name r after → IsLedStep at over by words births rows seat event base course
  stays_unmoved event r after timely row off none still =
      let kind = still_idle births rows seat event base course r after row none still.next_is still.promise_is still.silent in
      record {
        later = course;
        led = rows_keep_led.idle at over by words births rows seat event base course (stage at over by words births rows seat node base course s event timely)
            (leaves_off event (Some r) after row (leads_stay.quiet at births rows seat event base course after.0 row.fact still.off (idle_apart at words births rows seat node base course the_scene r row.was off)) still.off) kind
            (ap (hint_in base) row.fact ∙ (still.hint_is ∙ sym (ap (hint_in base) row.was)));
        row = RowRests refl r after row off still kind;
      }

  -- ---- a mail

  module _ (number : ℕ) (mail : Mail) (takes : TakesMail words births rows seat number mail) (r : ReplicaState) (has : HoldsReplica seat node base r) where
    module _ (mark : Mark) (fact : mark_of base.core.id mail.from mail.body ≡ Some mark) (after : Place) (row : IsReplicasRow births rows seat (Deliver number) base.core.id (Some r) after) where
      abbrev takes_it : taken_mark base.core.id (mails rows) (Deliver number) ≡ Some mark
      takes_it = taken at words births rows seat node base course the_scene number mail takes mark fact

      off_other : IsOther course seat.who → r.running ≡ false
      off_other other = apart_off at words births rows seat node base course the_scene r row.was other

      -- a mail that leaves the next slot
      keeps_place : StepsBy mark r after → next after.0 ≡ next r → (course.running ≡ true → seat.who ≡ course.ballot.node → IsCount mark → ⊥) → LeavesLead at births rows seat (Deliver number) base course
          → (r.running ≡ false → after.0.hint ≡ hint_by at by r.acceptor.promised r.hint mark) → IsLedStep at over by words births rows seat (Deliver number) base course
      keeps_place steps same counts lead hint =
          let kind = steps_take at births rows seat (Deliver number) base course mark r after row (named at words births rows seat node base course the_scene number mail takes r has) has.well.0 takes_it steps counts
          (λ off stands least. (let low = waits_here at words births rows seat node base course the_scene r row.was off stands least in omega (arith, low, same))) in
          record {
            later = course;
            led = rows_keep_led.takes at over by words births rows seat (Deliver number) base course (stage at over by words births rows seat node base course s (Deliver number) takes.timely) (leaves_same (Deliver number) (Some r) after row r refl lead same steps.runs steps.leads) kind
                (goes_by (Deliver number) (Some r) after row mark takes_it (λ other. inl (hint (off_other other))));
            row = RowTakes refl r after mark row takes_it steps kind;
          }

      -- a mail that takes the node further, where it does not lead
      pub takes_further : r.running ≡ false → StepsBy mark r after → (IsCount mark → ⊥) → (course.running ≡ true → seat.who ≡ course.ballot.node → ⊥) → WaitsStill at course seat.who (next after.0)
          → (after.0.hint ≡ hint_by at by r.acceptor.promised r.hint mark) ⊎ ((course.gone ≡ true) × (next after.0 ≡ course.newest)) → IsLedStep at over by words births rows seat (Deliver number) base course
      takes_further off steps none apart waits hint =
          let kind = steps_take at births rows seat (Deliver number) base course mark r after row (named at words births rows seat node base course the_scene number mail takes r has) has.well.0 takes_it steps (λ runs mine. none) waits in
          record {
            later = course;
            led = rows_keep_led.takes at over by words births rows seat (Deliver number) base course (stage at over by words births rows seat node base course s (Deliver number) takes.timely)
                (leaves_off (Deliver number) (Some r) after row (leads_stay.quiet at births rows seat (Deliver number) base course after.0 row.fact (steps.runs ∙ off) apart) (steps.runs ∙ off)) kind
                (goes_by (Deliver number) (Some r) after row mark takes_it (λ other. hint));
            row = RowTakes refl r after mark row takes_it steps kind;
          }

    pub own_name : name_of r ≡ name
    own_name = named at words births rows seat node base course the_scene number mail takes r has

    pub accepts : (ballot : Ballot) (slot : ℕ) (command : Command) → mail.from ≡ ballot.node → mail.body ≡ Accept name ballot slot command → IsLedStep at over by words births rows seat (Deliver number) base course
    accepts ballot slot command from body =
        let mark = Asks ballot slot in
        let fact : mark_of name mail.from mail.body ≡ Some mark = ap (mark_of name mail.from) body ∙ same_mark name mark in
        let row = row_to at words births rows seat node base course the_scene number mail takes r has ballot.node (Accept (name_of r) ballot slot command) from (body ∙ ap (λ n. Accept n ballot slot command) (sym own_name)) (ap group_of_mail body) in
        let after = (mailed ballot.node (Accept (name_of r) ballot slot command) (r, [])).0 in
        let fits = fit at words births rows seat node base course the_scene number mail takes r has mark fact after row in
        let goes = goes_on at words births rows seat node base course the_scene r row.was ballot (ap (below course.ballot) (fits.2 ∙ sym (ap (promise_in base) row.was)) ∙ the_scene.followed.follows.promised seat.who) in
        let steps = tables.accept ballot slot command r fits goes has.well.2 in
        keeps_place mark fact after row steps steps.reaches (λ runs mine count. count) (leads_stay.accepts at words births rows seat (Deliver number) base course ballot.node slot ballot command r the_scene.followed has.well.0 goes row)
        (λ off. hints_follow.accept at by ballot slot command r fits goes has.well.2 off)

    -- what is asked for is above what the acceptor has forgotten
    asked_low : (ballot : Ballot) (from_slot : ℕ) → mail.body ≡ Prepare name ballot from_slot → view_at births rows name seat.who ≡ Some r → r.acceptor.floor < from_slot
    asked_low ballot from_slot body was =
        let fact : mark_of name mail.from mail.body ≡ Some (Prepares ballot) = ap (mark_of name mail.from) body ∙ same_mark name (Prepares ballot) in
        let dated = rows_dated words births rows (row_of player_table seat rows (Deliver number)) base course course takes.timely in
        let one : taken_dated name (mails rows) (Deliver number) ≡ Some (Prepares ballot, from_slot) = ap (dated_in name) takes.sent ∙ (ap (option_map (λ mark. (mark, from_slot_of mail.body))) fact ∙ ap (λ b. Some (Prepares ballot, from_slot_of b)) body) in
        prepares_are_known.above now (dated_at (players words births) rows name) seat.who ballot from_slot dated.left r s.led.low (dated.takes ∙ ap (λ o. listed o ++ dated.left) one) (sym (ap (next_in base seat.who) was)) has.well.2

    pub prepares : (ballot : Ballot) (from_slot : ℕ) → mail.from ≡ ballot.node → mail.body ≡ Prepare name ballot from_slot → IsLedStep at over by words births rows seat (Deliver number) base course
    prepares ballot from_slot from body =
        let mark = Prepares ballot in
        let fact : mark_of name mail.from mail.body ≡ Some mark = ap (mark_of name mail.from) body ∙ same_mark name mark in
        let row = row_to at words births rows seat node base course the_scene number mail takes r has ballot.node (Prepare (name_of r) ballot from_slot) from (body ∙ ap (λ n. Prepare n ballot from_slot) (sym own_name)) (ap group_of_mail body) in
        let after = (mailed ballot.node (Prepare (name_of r) ballot from_slot) (r, [])).0 in
        let fits = fit at words births rows seat node base course the_scene number mail takes r has mark fact after row in
        let goes = goes_on at words births rows seat node base course the_scene r row.was ballot (known at words births rows seat node base course the_scene number mail takes mark fact) in
        let low = asked_low ballot from_slot body row.was in
        let steps = tables.prepare ballot from_slot r fits goes low in
        keeps_place mark fact after row steps steps.reaches (λ runs mine count. count) (leads_stay.promises at words births rows seat (Deliver number) base course ballot.node from_slot ballot r the_scene.followed has.well.0 goes row)
        (λ off. hints_follow.prepare at by ballot from_slot r fits goes low off)

    pub installs : (slot : ℕ) (state : Base) (sets : List (List ℕ)) → mail.body ≡ Install name slot state sets → IsLogsState at by base slot mail.from state sets → IsLedStep at over by words births rows seat (Deliver number) base course
    installs slot state sets body logs =
        let mark = Installs slot in
        let fact : mark_of name mail.from mail.body ≡ Some mark = ap (mark_of name mail.from) body ∙ same_mark name mark in
        let row = row_to at words births rows seat node base course the_scene number mail takes r has (by slot) (Install (name_of r) slot state sets) logs.slot_leader (body ∙ ap (λ n. Install n slot state sets) (sym own_name)) (ap group_of_mail body) in
        let after = (mailed (by slot) (Install (name_of r) slot state sets) (r, [])).0 in
        let fits = fit at words births rows seat node base course the_scene number mail takes r has mark fact after row in
        let at_most = (all_fit at words births rows seat node base course the_scene number mail takes mark fact).0 in
        let apart = no_lead at words births rows seat node base course the_scene number mail takes mark fact (omega (arith, at_most)) in
        let off = apart_off at words births rows seat node base course the_scene r row.was apart in
        let member = sent_member at over by words births rows seat node base course s number mail takes slot fact state logs.members_are apart in
        let steps = tables.install (by slot) slot state sets r fits off logs.whole.low (logs.whole.open_ ∙ sym has.well.1) member in
        takes_further mark fact after row off steps (λ count. count) apart (λ idle stands least. (let w = sent_waits at over by words births rows seat node base course s number mail takes slot fact idle stands in let to = steps.reaches in omega (arith, w, to)))
        (inl (hints_follow.install at by slot state sets r fits off logs.whole.low (logs.whole.open_ ∙ sym has.well.1) member))

    pub passes_vote : (ballot : Ballot) (slot : ℕ) → mail.body ≡ Accepted name ballot slot → r.running ≡ false → IsLedStep at over by words births rows seat (Deliver number) base course
    passes_vote ballot slot body off =
        let mark = Votes mail.from ballot slot in
        let fact : mark_of name mail.from mail.body ≡ Some mark = ap (mark_of name mail.from) body ∙ same_mark name mark in
        let row = row_to at words births rows seat node base course the_scene number mail takes r has mail.from (Accepted (name_of r) ballot slot) refl (body ∙ ap (λ n. Accepted n ballot slot) (sym own_name)) (ap group_of_mail body) in
        let after = (mailed mail.from (Accepted (name_of r) ballot slot) (r, [])).0 in
        let leads_not : leads ballot r ≡ false = ap (λ b. b && same_ballot ballot r.leader.ballot) off in
        let steps = uncounted_pass.vote mail.from ballot slot r leads_not in
        let apart = idle_apart at words births rows seat node base course the_scene r row.was off in
        keeps_place mark fact after row steps steps.reaches (λ runs mine count. apart runs mine) (leads_stay.quiet at births rows seat (Deliver number) base course after.0 row.fact (steps.runs ∙ off) apart) (λ _. vote_hint mail.from ballot slot r leads_not)

    pub passes_promise : (ballot : Ballot) (reports : List (Report Command)) → mail.body ≡ Promise name ballot reports → r.running ≡ false → IsLedStep at over by words births rows seat (Deliver number) base course
    passes_promise ballot reports body off =
        let mark = Promises mail.from ballot in
        let fact : mark_of name mail.from mail.body ≡ Some mark = ap (mark_of name mail.from) body ∙ same_mark name mark in
        let row = row_to at words births rows seat node base course the_scene number mail takes r has mail.from (Promise (name_of r) ballot reports) refl (body ∙ ap (λ n. Promise n ballot reports) (sym own_name)) (ap group_of_mail body) in
        let after = (mailed mail.from (Promise (name_of r) ballot reports) (r, [])).0 in
        let leads_not : leads ballot r ≡ false = ap (λ b. b && same_ballot ballot r.leader.ballot) off in
        let steps = uncounted_pass.promise mail.from ballot reports r leads_not in
        let apart = idle_apart at words births rows seat node base course the_scene r row.was off in
        keeps_place mark fact after row steps steps.reaches (λ runs mine count. apart runs mine) (leads_stay.quiet at births rows seat (Deliver number) base course after.0 row.fact (steps.runs ∙ off) apart) (λ _. promise_hint mail.from ballot reports r leads_not)

    pub stays_aside : group_of_mail mail.body ≡ Some name → IsAside r mail.body → r.running ≡ false → IsLedStep at over by words births rows seat (Deliver number) base course
    stays_aside group aside off =
        let row = row_to at words births rows seat node base course the_scene number mail takes r has mail.from mail.body refl refl group in
        let after = (mailed mail.from mail.body (r, [])).0 in
        let none : taken_mark name (mails rows) (Deliver number) ≡ None = ap (mark_in name) takes.sent ∙ aside_mark name mail.from r mail.body aside in
        let still = asides_still.mailed mail.from mail.body r off aside name in
        stays_unmoved (Deliver number) r after takes.timely row off none still

  -- ---- a replica that is made of a state

  pub makes : (number : ℕ) (mail : Mail) (takes : TakesMail words births rows seat number mail) (slot : ℕ) (state : Base) (sets : List (List ℕ)) → node.me ≡ seat.who → replica_of name node.replicas ≡ None → mail.body ≡ Install name slot state sets
      → IsLogsState at by base slot mail.from state sets → IsLedStep at over by words births rows seat (Deliver number) base course
  makes number mail takes slot state sets me none body logs =
      let mark = Installs slot in
      let fact : mark_of name mail.from mail.body ≡ Some mark = ap (mark_of name mail.from) body ∙ same_mark name mark in
      let after = made_by node.me (by slot) name slot state sets in
      let row : IsReplicasRow births rows seat (Deliver number) name None after = subst (λ n. IsReplicasRow births rows seat (Deliver number) name None (made_by node.me n name slot state sets)) logs.slot_leader
      (rows_replicas.made births rows seat number mail name slot state sets node s.seated s.fact takes.sent takes.comes body logs.whole none) in
      let at_most = (all_fit at words births rows seat node base course the_scene number mail takes mark fact).0 in
      let apart = no_lead at words births rows seat node base course the_scene number mail takes mark fact (omega (arith, at_most)) in
      let member = sent_member at over by words births rows seat node base course s number mail takes slot fact state logs.members_are apart in
      let off = states.runs node.me (by slot) name slot state sets member in
      let takes_it = taken at words births rows seat node base course the_scene number mail takes mark fact in
      let kind = states_take at births rows seat (Deliver number) base course node.me (by slot) slot state sets row takes_it logs.firsts member
      (λ idle stands least. sent_waits at over by words births rows seat node base course s number mail takes slot fact idle stands) in
      record {
        later = course;
        led = rows_keep_led.takes at over by words births rows seat (Deliver number) base course (stage at over by words births rows seat node base course s (Deliver number) takes.timely)
            (leaves_off (Deliver number) None after row (leads_stay.quiet at births rows seat (Deliver number) base course after.0 row.fact off apart) off) kind
            (goes_by (Deliver number) None after row mark takes_it (λ other. inl (hints_follow.made at by (first_ballot base.core) (Some base.core.first) node.me name slot state sets member)));
        row = RowMakes refl (by slot) slot state sets (subst (λ n. IsReplicasRow births rows seat (Deliver number) name None (made_by n (by slot) name slot state sets)) me row) takes_it
            (subst (λ n. IsLogsState at by base slot n state sets) logs.slot_leader logs) kind;
      }

  -- ---- an order

  pub stays_ordered : (line : OrderLine) (r : ReplicaState) → AreInTime (players words births) (with_event rows seat (Told line)) → HoldsReplica seat node base r → group_of_order line.order ≡ name → r.running ≡ false
      → IsLedStep at over by words births rows seat (Told line) base course
  stays_ordered line r timely has group off =
      let after : Place = ordered_row node.draws line (r, []) in
      let here : replica_of (group_of_order line.order) node.replicas ≡ Some r = ap (λ n. replica_of n node.replicas) group ∙ has.here in
      let row : IsReplicasRow births rows seat (Told line) name (Some r) after = subst (λ n. IsReplicasRow births rows seat (Told line) n (Some r) after) group (rows_replicas.ordered births rows seat line node r s.seated s.fact here) in
      let still = asides_still.ordered node.draws line r off name in
      stays_unmoved (Told line) r after timely row off refl still
