-- Hints rise after one row more of a calm journal.
use Rattle.std.proofs.Common.{◌≡◌, ℕ, ◌+◌, ◌<◌, ◌≤◌, Bool, true, false, cond, true≢false, List, [], ◌∷◌, ◌++◌, Some, None, inl, inr, refl, sym, ◌∙◌, ap, subst, arith}
use Rattle.sc_base.specs.Definitions.{same_draw, is_member}
use Rattle.sc_node_table.specs.Values.{Ballot, Draw, Command, Base, OrderLine, Mail, MailBody, Prepare, Promise, Accept, Accepted, Learn, Install, Seat, Event, Row}
use Rattle.sc_base.proofs.Lemmas.{draw_is}
use Rattle.sc_actor.specs.Definitions.{mails, row_of}
use Rattle.sc_live_orderly.specs.OrderlyDefinitions.{IsCalmEvent, AreInTime}
use Rattle.sc_words.specs.paxos.PaxosDefinitions.{IsAtLeast}
use Rattle.sc_scenario.specs.declared.scenario.scenarios.Scenario.{Scenario}
use Rattle.sc_node_table.specs.NodeDefinitions.{ReplicaState, Place, listed, next, mailed, made_by}
use Rattle.sc_meaning.specs.sound.SoundDefinitions.{Player, player_table, births, as_nodes}
use Rattle.sc_live_steps.specs.calm.CalmDefinitions.{players, Rows}
use Rattle.sc_live_steps.specs.following.FollowingDefinitions.{Mark, Asks, Votes, Teaches, Installs, Prepares, Promises, mark_of, pledged, Course, Progress, Sets, members_at, IsOpen, SlotLeaders, hint_by, AreHeeded, GoesBy, AreLearntLast, IsRow, marks_for, next_ballot}
use Rattle.sc_live_steps.proofs.FollowingProofs.FollowingLemmas.{tables_elect, least_in, hints_follow}
use Rattle.sc_live_journals.specs.rows.RowDefinitions.{view_at, marks_at, mark_in, taken_mark, promise_in, progress_at, led_course, elected_course, IsSeat, with_event, IsReplicasRow}
use Rattle.sc_live_journals.proofs.RowsProofs.RowLemmas.{entered_name, rows_are, view_others}
use Rattle.sc_live_journals.specs.groups.GroupDefinitions.{IsGroupRow, RowPasses, RowRests, RowTakes, RowMakes, RowLeads, RowElects, Ends, hint_in, hints_at, IsWellLed, IsLogsState, ElectsWell, AreWellBorn, HasOneLog, IsSentSo}
use Rattle.sc_live_journals.proofs.GroupsProofs.GroupLemmas.{pledged_none}
use Rattle.sc_live_journals.specs.mail.MailDefinitions.{JournalsKeepIdle}
use Rattle.sc_live_answers.proofs.BallotsProofs.PrepareSlots.{MovesLast}
use Rattle.sc_live_answers.proofs.BallotsProofs.PrepareSlotRows.{turn, leader_last}
use Rattle.sc_live_answers.proofs.BallotsProofs.GreatestBallots.{taught_idly}
use Rattle.sc_live_answers.proofs.ReplicasProofs.PlayerEvents.{IsTurn, TurnRests, TurnCreates, TurnTakes, TurnMakes, TurnTold}
use Rattle.sc_live_answers.specs.AnswerDefinitions.{AreFated}
use Rattle.sc_live_answers.proofs.LedMailProofs.FormerMembers.{idle_fates, takes_fates, leads_fates, elects_fates}
use Rattle.sc_live_answers.proofs.BallotsProofs.RowHints.{told_fit, own_body, none_flies, told_or, takes_by}
use Rattle.sc_live_answers.proofs.BallotsProofs.HintedMarks.{round_most, member_open}
use Rattle.sc_live_answers.proofs.BallotsProofs.SeenBallotBounds.{topped}
use Rattle.std.proofs.lemmas.Option.{same_Some, none-some}

-- the mark of an entry
module _ (name : Draw) (slot : ℕ) where
  same_one : (b : Bool) (mark : Mark) → cond b (Some mark) None ≡ Some (Teaches slot) → (b ≡ true) × (mark ≡ Teaches slot)
  same_one true mark e = (refl, cc)
  same_one false mark e = cc

  abbrev IsEntry : MailBody → Type 0
  IsEntry body = (command : Command) × (body ≡ Learn name slot command)

  entry_of : (from : ℕ) (body : MailBody) → mark_of name from body ≡ Some (Teaches slot) → IsEntry body
  entry_of from (Learn g at command) e =
      let o = same_one (same_draw g name) (Teaches at) e in
      let there : at ≡ slot = (let f : Teaches at ≡ Teaches slot = o.1 in cc) in
      (command, ap (λ n. Learn n at command) (draw_is g name o.0) ∙ ap (λ n. Learn name n command) there)
  entry_of from (Accept g ballot at command) e = (let f = (same_one (same_draw g name) (Asks ballot at) e).1 in cc)
  entry_of from (Accepted g ballot at) e = (let f = (same_one (same_draw g name) (Votes from ballot at) e).1 in cc)
  entry_of from (Install g at state sets) e = (let f = (same_one (same_draw g name) (Installs at) e).1 in cc)
  entry_of from (Prepare g ballot at) e = (let f = (same_one (same_draw g name) (Prepares ballot) e).1 in cc)
  entry_of from (Promise g ballot reports) e = (let f = (same_one (same_draw g name) (Promises from ballot) e).1 in cc)
  entry_of from _ e = cc

module _ (words : ℕ → ℕ → ℕ × ℕ) (at : Sets) (over : Ends) (by : SlotLeaders) (scenario : Scenario) (rows : Rows) (seat : Seat Player) (event : Event OrderLine) (base : Base) (course : Course) (idle : JournalsKeepIdle) (wb : AreWellBorn (births as_nodes scenario))
    (one : HasOneLog at over by (births as_nodes scenario) (with_event rows seat event) base) (so : IsSentSo (births as_nodes scenario) (with_event rows seat event) base) (timely : AreInTime (players words (births as_nodes scenario)) (with_event rows seat event))
    (born : IsSeat (births as_nodes scenario) seat) (calm : IsCalmEvent (players words (births as_nodes scenario)) rows seat.who event) (was : IsWellLed at over by words (births as_nodes scenario) rows base course) where
  abbrev all : List (Seat Player)
  all = births as_nodes scenario

  abbrev name : Draw
  name = base.core.id

  abbrev then_ : Rows
  then_ = with_event rows seat event

  abbrev row : Row Mail OrderLine
  row = row_of player_table seat rows event

  abbrev now : Progress
  now = progress_at all rows base course

  abbrev marks : ℕ → List Mark
  marks = marks_at (players words all) rows name

  abbrev marks_then : ℕ → List Mark
  marks_then = marks_at (players words all) then_ name

  abbrev after_ : Course → Progress
  after_ c = progress_at all then_ base c

  row_in : (c : Course) → IsRow now (after_ c) seat.who (taken_mark name (mails rows) event) (λ who. marks_for name who row.sent) marks marks_then
  row_in c = rows_are words all rows row base course c timely

  others_hint : (who : ℕ) → (who ≡ seat.who → ⊥) → hints_at all then_ base who ≡ hints_at all rows base who
  others_hint who ne = ap (hint_in base) (view_others all rows row name who ne)

  -- ---- a replica that is made of a state takes who sends it for the leader

  module _ (from slot : ℕ) (state : Base) (sets : List (List ℕ)) (row_ : IsReplicasRow all rows seat event base.core.id None (made_by seat.who from base.core.id slot state sets)) (took : taken_mark base.core.id (mails rows) event ≡ Some (Installs slot)) (logs : IsLogsState at by base slot from state sets) where
    makes_by : GoesBy at by now (progress_at all (with_event rows seat event) base course) seat.who (taken_mark name (mails rows) event) (hints_at all rows base seat.who) (hints_at all (with_event rows seat event) base seat.who)
    makes_by m e other =
        let fact : Installs slot ≡ m = same_Some (Installs slot) m (sym took ∙ e) in
        let first : marks seat.who ≡ Installs slot ∷ (row_in course).left = (row_in course).takes ∙ ap (λ o. listed o ++ (row_in course).left) took in
        let member : is_member state.core.members (by slot) ≡ true = ap (λ ms. is_member ms (by slot)) (sym logs.members_are) ∙ (subst (AreHeeded at by course seat.who (now.promise seat.who) (hints_at all rows base seat.who)) first (was.heeded.heeds seat.who other)).0 in
        inl (ap (hint_in base) row_.fact ∙ (ap (λ n. (made_by seat.who n base.core.id slot state sets).0.hint) logs.slot_leader
        ∙ (hints_follow.made at by (now.promise seat.who) (hints_at all rows base seat.who) seat.who base.core.id slot state sets member ∙ ap (hint_by at by (now.promise seat.who) (hints_at all rows base seat.who)) fact)))

  -- ---- one that elects itself does so with a later round

  module _ (r : ReplicaState) (after : Place) (ballot : Ballot) (row_ : IsReplicasRow all rows seat event base.core.id (Some r) after) (off : r.running ≡ false) (e : ElectsWell at all rows seat event base course ballot after) where
    least_member : is_member (members_at at course.newest) seat.who ≡ true
    least_member = ap (is_member (members_at at course.newest)) e.self_election.least ∙ least_in (members_at at course.newest) (one.log.rosters (course.newest + 3)).some

    -- it has promised the group's ballot
    promised_it : now.promise seat.who ≡ course.ballot
    promised_it =
        let first : marks seat.who ≡ Teaches e.told.0 ∷ (row_in course).left = (row_in course).takes ∙ ap (λ o. listed o ++ (row_in course).left) e.told.2 in
        let none = (subst (AreLearntLast course.newest) first (was.own.stop e.self_election.idle seat.who)).0 e.told.1 in
        let opened : IsOpen at course.newest seat.who = member_open at seat.who course.newest course.newest (omega arith) (omega arith) least_member in
        sym (pledged_none (now.promise seat.who) (row_in course).left none) ∙ (ap (pledged (now.promise seat.who)) (sym first) ∙ (was.followed.follows.ready seat.who opened).promised)

    seen_it : course.ballot.round ≤ r.top.round
    seen_it = round_most r.top course.ballot (subst (IsAtLeast r.top) (sym (ap (promise_in base) row_.was) ∙ promised_it) (topped scenario rows base seat.who r row_.was).1)

    pub next_round : ballot.round ≡ r.top.round + 1
    next_round = by_turn (turn words at over by scenario rows seat event base course idle wb one so timely born calm was)
      where
        none_left : view_at all rows base.core.id seat.who ≡ None → ⊥
        none_left none = (let bad : Some r ≡ None = sym row_.was ∙ none in cc)

        ballot_is : after.0.leader.ballot ≡ ballot
        ballot_is = e.leads.led.may.ballot

        by_turn : IsTurn at by words all rows seat event base → ballot.round ≡ r.top.round + 1
        by_turn (TurnRests same none) = absurd (none-some (Teaches e.told.0) (sym (none) ∙ e.told.2))
        by_turn (TurnCreates none made) = absurd (none_left none)
        by_turn (TurnMakes from slot state sets t) = absurd (none_left t.was)
        by_turn (TurnTold line node q t) = absurd (none-some (Teaches e.told.0) (sym ((ap (taken_mark name (mails rows)) t.event_is)) ∙ e.told.2))
        by_turn (TurnTakes number mail node q t) =
            let here : q ≡ r = same_Some q r (sym t.row_.was ∙ row_.was) in
            let viewed : view_at all (with_event rows seat event) base.core.id seat.who ≡ Some (mailed mail.from mail.body (q, [])).0.0 = ap (λ e_. view_at all (with_event rows seat e_) name seat.who) t.event_is ∙ t.row_.fact in
            let there : (mailed mail.from mail.body (q, [])).0.0 ≡ after.0 = same_Some (mailed mail.from mail.body (q, [])).0.0 after.0 (sym viewed ∙ row_.fact) in
            let mark : mark_of name mail.from mail.body ≡ Some (Teaches e.told.0) = sym (ap (mark_in name) t.takes.sent) ∙ (sym (ap (taken_mark name (mails rows)) t.event_is) ∙ e.told.2) in
            let entry = entry_of name e.told.0 mail.from mail.body mark in
            let off_q : q.running ≡ false = ap (λ (x : ReplicaState). x.running) here ∙ off in
            let fits = told_fit words at over by scenario rows seat event base course idle wb one so timely born calm was number mail node q t e.told.0 entry.0 entry.1 in
            let none = none_flies words at over by scenario rows seat event base course idle wb one so timely born calm was number mail node q t e.told.0 entry.0 entry.1 off_q in
            let low = (one.told rows seat number mail e.told.0 entry.0 q t.delivers entry.1 t.row_.was fits.1).0 in
            elim (told_or words at over by scenario rows seat event base course idle wb one so timely born calm was number mail node q t e.told.0 entry.0 entry.1 off_q) [
              | inl stays ↦ absurd (true≢false (sym e.runs ∙ (ap (λ (x : ReplicaState). x.running) (sym there) ∙ (ap (λ b. (mailed mail.from b (q, [])).0.0.running) entry.1 ∙ (taught_idly q mail.from base.core.id e.told.0 entry.0 off_q none fits.1 low stays).0))))
              | inr may ↦ (let own_ = own_body words at over by scenario rows seat event base course idle wb one so timely born calm was number mail node q t e.told.0 entry.0 entry.1 in
                  let leads_ = (tables_elect mail.from e.told.0 entry.0 q fits off_q none low may (entered_name entry.0 q)).leads in
                  let same : (mailed mail.from mail.body (q, [])).0.0.leader.ballot ≡ next_ballot q = ap (λ b. (mailed mail.from b (q, [])).0.0.leader.ballot) own_ ∙ ap (λ l. l.ballot) leads_ in
                  ap (λ (b : Ballot). b.round) (sym ballot_is ∙ (ap (λ (x : ReplicaState). x.leader.ballot) (sym there) ∙ same)) ∙ ap (λ (x : ReplicaState). x.top.round + 1) here)
            ]

    elected_later : course.ballot.round < ballot.round
    elected_later = (let a = seen_it in let b = next_round in omega (arith, a, b))

  -- ---- those that left

  module _ (fated : AreFated at by (progress_at (births as_nodes scenario) rows base course) (hints_at (births as_nodes scenario) rows base) (marks_at (players words (births as_nodes scenario)) rows base.core.id)) where
    abbrev Fated : Course → Type 0
    Fated c = AreFated at by (after_ c) (hints_at all then_ base) marks_then

    pub fated_then : (later : Course) → IsWellLed at over by words all (with_event rows seat event) base later → IsGroupRow at over by all rows seat event base course later → Fated later
    fated_then later led (RowPasses same leaves) =
        let led_ : IsWellLed at over by words all then_ base course = subst (IsWellLed at over by words all then_ base) same led in
        let hint : hints_at all then_ base seat.who ≡ hints_at all rows base seat.who = elim (leaves.view) [ inl stays ↦ ap (hint_in base) stays | inr creation ↦ ap (hint_in base) creation.1 ∙ sym (ap (hint_in base) creation.0) ] in
        subst Fated (sym same) (idle_fates at by now (after_ course) seat.who (taken_mark name (mails rows) event) (λ who. marks_for name who row.sent) marks marks_then (hints_at all rows base) (hints_at all then_ base) (row_in course) was.followed.follows led_.followed.follows others_hint fated (leaves.idle course) hint)
    fated_then later led (RowRests same r after row_ off still i) =
        let led_ : IsWellLed at over by words all then_ base course = subst (IsWellLed at over by words all then_ base) same led in
        let hint : hints_at all then_ base seat.who ≡ hints_at all rows base seat.who = ap (hint_in base) row_.fact ∙ (still.hint_is ∙ sym (ap (hint_in base) row_.was)) in
        subst Fated (sym same) (idle_fates at by now (after_ course) seat.who (taken_mark name (mails rows) event) (λ who. marks_for name who row.sent) marks marks_then (hints_at all rows base) (hints_at all then_ base) (row_in course) was.followed.follows led_.followed.follows others_hint fated i hint)
    fated_then later led (RowTakes same r after mark row_ took steps i) =
        let led_ : IsWellLed at over by words all then_ base course = subst (IsWellLed at over by words all then_ base) same led in
        subst Fated (sym same) (takes_fates at by now (after_ course) seat.who (taken_mark name (mails rows) event) (λ who. marks_for name who row.sent) marks marks_then (hints_at all rows base) (hints_at all then_ base) (row_in course) was.followed.follows led_.followed.follows others_hint fated i
        (takes_by words at over by scenario rows seat event base course idle wb one so timely born calm was r after mark row_ took steps))
    fated_then later led (RowMakes same from slot state sets row_ took logs i) =
        let led_ : IsWellLed at over by words all then_ base course = subst (IsWellLed at over by words all then_ base) same led in
        subst Fated (sym same) (takes_fates at by now (after_ course) seat.who (taken_mark name (mails rows) event) (λ who. marks_for name who row.sent) marks marks_then (hints_at all rows base) (hints_at all then_ base) (row_in course) was.followed.follows led_.followed.follows others_hint fated i
        (makes_by from slot state sets row_ took logs))
    fated_then later led (RowLeads r after row_ runs counts l same) =
        let c = led_course l.led.bound course after.0 in
        let led_ : IsWellLed at over by words all then_ base c = subst (IsWellLed at over by words all then_ base) same led in
        let moves : MovesLast at course course.newest (next after.0) = (let last = leader_last words at over by scenario rows seat event base course idle wb one so timely born calm was r after row_ runs l.led in let up = l.led.leads.newest in λ slot least less. last slot least (omega (arith, less, up))) in
        subst Fated (sym same) (leads_fates at by now (after_ c) seat.who (taken_mark name (mails rows) event) (λ who. marks_for name who row.sent) marks marks_then (hints_at all rows base) (hints_at all then_ base) (row_in c) was.followed.follows led_.followed.follows others_hint fated l.led.leads was.heeded moves)
    fated_then later led (RowElects r after ballot row_ off e same) =
        let c = elected_course course ballot in
        let led_ : IsWellLed at over by words all then_ base c = subst (IsWellLed at over by words all then_ base) same led in
        subst Fated (sym same) (elects_fates at by now (after_ c) seat.who (taken_mark name (mails rows) event) (λ who. marks_for name who row.sent) marks marks_then (hints_at all rows base) (hints_at all then_ base) (row_in c) was.followed.follows led_.followed.follows others_hint fated e.self_election
        (elected_later r after ballot row_ off e) (least_member r after ballot row_ off e))
