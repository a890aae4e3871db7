-- Whom a node takes for the leader after a row in which it takes a mail goes by that mail; and one that elects itself does so with a later round.
use Rattle.std.proofs.Common.{◌≡◌, ℕ, suc, ◌+◌, ◌-◌, ◌^◌, ◌<◌, ◌≤◌, ◌&&◌, true, false, true≢false, List, [], ◌∷◌, ◌++◌, Option, Some, None, ◌⊎◌, inl, inr, refl, sym, ◌∙◌, ap, subst, arith}
use Rattle.std.specs.Prelude.{is_some}
use Rattle.std.proofs.lemmas.Bool.{cond-false}
use Rattle.sc_base.specs.Definitions.{same_ballot, is_member}
use Rattle.sc_node_table.specs.Values.{Ballot, Draw, Command, Base, Route, OrderLine, Mail, MailBody, Prepare, Promise, Accept, Accepted, Nack, Learn, Install, Seat, Event, Report}
use Rattle.sc_actor.specs.Definitions.{mails, row_of}
use Rattle.sc_live_orderly.specs.OrderlyDefinitions.{IsCalmEvent, AreInTime}
use Rattle.sc_live_orderly.proofs.OrderlyLemmas.{in_time_before}
use Rattle.sc_words.specs.paxos.PaxosDefinitions.{IsAtLeast, promise_counted}
use Rattle.sc_scenario.specs.declared.scenario.scenarios.Scenario.{Scenario}
use Rattle.sc_node_table.specs.NodeDefinitions.{entered, NodeState, group_of_mail, pumped, ReplicaState, Place, Executed, childless, listed, name_of, next, set_at, mailed, leads, promise_row, voted, accepted_row}
use Rattle.sc_law_walks.specs.WalkDefinitions.{GoesOn}
use Rattle.sc_law_walks.proofs.WalkLemmas.{entered_next}
use Rattle.sc_meaning.specs.sound.SoundDefinitions.{Player, player_table, births, as_nodes}
use Rattle.sc_live_steps.specs.calm.CalmDefinitions.{players, Rows}
use Rattle.sc_live_steps.specs.following.FollowingDefinitions.{from_slot_of, next_by, Mark, Asks, Votes, Teaches, Installs, Prepares, Promises, mark_of, Course, Progress, Sets, members_at, IsFit, SlotLeaders, hint_by, AreHeeded, GoesBy, StepsBy, Stays, MayElect}
use Rattle.sc_live_steps.proofs.FollowingProofs.FollowingLemmas.{prepares_are_known, tables_elect, same_mark, hints_follow}
use Rattle.sc_live_journals.specs.rows.RowDefinitions.{view_at, mark_in, taken_mark, next_in, promise_in, progress_at, IsScene, IsSeat, with_event, IsReplicasRow}
use Rattle.sc_live_journals.proofs.RowsProofs.RowMarks.{HasMark}
use Rattle.sc_live_journals.proofs.GroupsProofs.JournalEvents.{asks_own}
use Rattle.sc_live_journals.proofs.RowsProofs.RowLemmas.{entered_name, apart_off, head, within, fit, known}
use Rattle.sc_live_journals.specs.groups.GroupDefinitions.{Ends, hint_in, hints_at, dated_at, IsWellLed, IsOfLog, AreWellBorn, HasOneLog, IsSentSo}
use Rattle.sc_live_journals.proofs.GroupsProofs.GroupLemmas.{rows_dated, scene}
use Rattle.sc_live_journals.specs.mail.MailDefinitions.{JournalsKeepIdle}
use Rattle.sc_live_answers.proofs.BallotsProofs.PrepareSlotRows.{NamesAlone, FitsMail, kept_of, turn, s, named_is, own_name, marked, dated_is, most, goes}
use Rattle.sc_live_answers.proofs.BallotsProofs.GreatestBallots.{stays_or_may, entered_top}
use Rattle.sc_live_answers.proofs.ReplicasProofs.PlayerEvents.{TurnsMail, IsTurn, TurnRests, TurnCreates, TurnTakes, TurnMakes, TurnTold}
use Rattle.std.proofs.lemmas.Option.{same_Some, none-some}

-- votes and promises that no leader counts leave whom it takes for that
vote_hint : (from : ℕ) (group : Draw) (ballot : Ballot) (slot : ℕ) (r : ReplicaState) → r.running ≡ false → (mailed from (Accepted group ballot slot) (r, [])).0.0.hint ≡ r.hint
unfolding mailed accepted_row
vote_hint from group ballot slot r off = ap (λ (p : Executed). p.0.0.hint) (cond-false (leads ballot r) (voted from ballot slot (set_at slot r) (r, [])) (childless (r, [])) (ap (λ b. b && same_ballot ballot r.leader.ballot) off))

promise_hint : (from : ℕ) (group : Draw) (ballot : Ballot) (reports : List (Report Command)) (r : ReplicaState) → r.running ≡ false → (mailed from (Promise group ballot reports) (r, [])).0.0.hint ≡ r.hint
unfolding mailed promise_row
promise_hint from group ballot reports r off =
    ap (λ (p : Place). p.0.hint) (cond-false (leads ballot r) (pumped (record r { leader = (promise_counted from ballot reports r.leader).1 }, [])) (r, []) (ap (λ b. b && same_ballot ballot r.leader.ballot) off))

module _ (words : ℕ → ℕ → ℕ × ℕ) (at : Sets) (over : Ends) (by : SlotLeaders) (scenario : Scenario) (rows : Rows) (seat : Seat Player) (event : Event OrderLine) (base : Base) (course : Course) (idle : JournalsKeepIdle) (wb : AreWellBorn (births as_nodes scenario))
    (one : HasOneLog at over by (births as_nodes scenario) (with_event rows seat event) base) (so : IsSentSo (births as_nodes scenario) (with_event rows seat event) base) (timely : AreInTime (players words (births as_nodes scenario)) (with_event rows seat event))
    (born : IsSeat (births as_nodes scenario) seat) (calm : IsCalmEvent (players words (births as_nodes scenario)) rows seat.who event) (was : IsWellLed at over by words (births as_nodes scenario) rows base course) where
  abbrev all : List (Seat Player)
  all = births as_nodes scenario

  abbrev name : Draw
  name = base.core.id

  abbrev now : Progress
  now = progress_at all rows base course

  module _ (number : ℕ) (mail : Mail) (node : NodeState) (r : ReplicaState) (t : TurnsMail words (births as_nodes scenario) rows seat event base number mail node r) where
    abbrev after : ReplicaState
    after = (mailed mail.from mail.body (r, [])).0.0

    the_scene : IsScene at words all rows seat node base course
    the_scene = scene at over by words all rows seat node base course (s words at over by scenario rows seat event base course idle wb one so timely born calm was number mail node r t)

    pub own : name_of r ≡ base.core.id
    own = named_is words at over by scenario rows seat event base course idle wb one so timely born calm was number mail node r t

    named_as : NamesAlone base mail
    named_as g e = own_name words at over by scenario rows seat event base course idle wb one so timely born calm was number mail node r t g e

    mark_is : (mark : Mark) → mark_of base.core.id mail.from mail.body ≡ Some mark → taken_mark base.core.id (mails rows) event ≡ Some mark
    mark_is mark e = marked words at over by scenario rows seat event base course idle wb one so timely born calm was number mail node r t mark e

    fits : FitsMail base mail r
    fits mark fact = fit at words all rows seat node base course the_scene number mail t.takes r t.has mark fact (mailed mail.from mail.body (r, [])).0 t.row_

    -- an entry that it learns
    module _ (slot : ℕ) (command : Command) (body : mail.body ≡ Learn base.core.id slot command) where
      abbrev is_told : HasMark base mail (Teaches slot)
      is_told = ap (mark_of name mail.from) body ∙ same_mark name (Teaches slot)

      pub told_fit : IsFit (next r) r.acceptor.promised (Teaches slot)
      told_fit = fits (Teaches slot) is_told

      pub own_body : mail.body ≡ Learn (name_of r) slot command
      own_body = body ∙ ap (λ n. Learn n slot command) (sym own)

      e_next : next (entered command r) ≡ suc slot
      e_next = (let up = entered_next command r in let here = told_fit.1 in omega (arith, up, here))

      most_slot : suc slot ≤ course.newest
      most_slot = within at words all rows seat node base course the_scene number mail t.takes (Teaches slot) is_told

      pub none_flies : r.running ≡ false → r.leader.flights ≡ []
      none_flies off = ((kept_of words at over by scenario rows seat event base course idle wb one so timely born calm was r t.row_.was).2.0 off).0

      -- it does not elect itself by it, or runs then
      pub told_or : r.running ≡ false → Stays (entered command r) ⊎ MayElect (entered command r)
      told_or off =
          let rounds = one.rounds rows (row_of player_table seat rows event ∷ []) seat.who r refl t.row_.was in
          stays_or_may (entered command r) (subst (λ (b : Ballot). b.round < 2 ^ 32 - 1) (sym (entered_top command r)) rounds.later)

      told_hint : (off : r.running ≡ false) → Stays (entered command r) → next after ≡ suc slot → (after.hint ≡ hint_by at by r.acceptor.promised r.hint (Teaches slot)) ⊎ ((course.gone ≡ true) × (next after ≡ course.newest))
      told_hint off stays reaches = by_gone (entered command r).group.core.gone refl
        where
          log : IsOfLog at over (entered command r)
          log = (one.told rows seat number mail slot command r t.delivers body t.row_.was told_fit.1).1

          by_gone : (o : Option Route) → (entered command r).group.core.gone ≡ o → (after.hint ≡ hint_by at by r.acceptor.promised r.hint (Teaches slot)) ⊎ ((course.gone ≡ true) × (next after ≡ course.newest))
          by_gone None g =
              let low = (one.told rows seat number mail slot command r t.delivers body t.row_.was told_fit.1).0 in
              let members : members_at at (slot + 1) ≡ _ = (let up = e_next in let same : slot + 1 ≡ next (entered command r) = omega (arith, up) in ap (members_at at) same ∙ log.members_are) in
              inl (ap (λ b. (mailed mail.from b (r, [])).0.0.hint) own_body ∙ hints_follow.learn at by mail.from slot command r told_fit off (none_flies off) low stays g members)
          by_gone (Some into) g =
              let gone : over (suc slot) ≡ true = ap over (sym e_next) ∙ (sym log.ends ∙ ap is_some g) in
              let least = was.rests (suc slot) gone in
              let up = most_slot in
              let last : suc slot ≡ course.newest = omega (arith, least, up) in
              inr (was.ends ∙ (ap over (sym last) ∙ gone), reaches ∙ last)

    -- ---- whatever it takes

    abbrev Hinted : Mark → Type 0
    Hinted mark = (after.hint ≡ hint_by at by r.acceptor.promised r.hint mark) ⊎ ((course.gone ≡ true) × (next after ≡ course.newest))

    module _ (mark : Mark) (took : taken_mark base.core.id (mails rows) event ≡ Some mark) (off : r.running ≡ false) (other : course.running ≡ true → seat.who ≡ course.ballot.node → ⊥) (steps : (mailed mail.from mail.body (r, [])).0.0.running ≡ false) (reaches : (slot : ℕ) → mark ≡ Teaches slot → next (mailed mail.from mail.body (r, [])).0.0 ≡ suc slot) where
      as_mark : (own_mark : Mark) → mark_of base.core.id mail.from mail.body ≡ Some own_mark → Hinted own_mark → Hinted mark
      as_mark own_mark fact h = subst Hinted (same_Some own_mark mark (sym (mark_is own_mark fact) ∙ took)) h

      unmarked : mark_of base.core.id mail.from mail.body ≡ None → Hinted mark
      unmarked none =
          let bad : None ≡ Some mark = sym none ∙ (sym (ap (mark_in name) t.takes.sent) ∙ (sym (ap (taken_mark name (mails rows)) t.event_is) ∙ took)) in
          absurd (none_some mark bad)
        where
          none_some : (m : Mark) → None ≡ Some m → ⊥
          none_some m e = cc

      hinted_by : (b : MailBody) → mail.body ≡ b → Hinted mark
      hinted_by (Accept g ballot slot command) e =
          let body : mail.body ≡ Accept name ballot slot command = e ∙ ap (λ n. Accept n ballot slot command) (named_as g (ap group_of_mail e)) in
          let fact : mark_of name mail.from mail.body ≡ Some (Asks ballot slot) = ap (mark_of name mail.from) body ∙ same_mark name (Asks ballot slot) in
          let f : IsFit (next r) r.acceptor.promised (Asks ballot slot) = fits (Asks ballot slot) fact in
          let on : GoesOn ballot r = goes words at over by scenario rows seat event base course idle wb one so timely born calm was number mail node r t ballot (subst (IsAtLeast course.ballot) (sym f.2) (most words at over by scenario rows seat event base course idle wb one so timely born calm was number mail node r t)) in
          as_mark (Asks ballot slot) fact (inl (ap (λ n. (mailed n mail.body (r, [])).0.0.hint) (asks_own words all rows wb.alone (in_time_before (players words all) rows (row_of player_table seat rows event) timely) number mail t.takes.sent (Accept g ballot slot command) e)
          ∙ (ap (λ b. (mailed ballot.node b (r, [])).0.0.hint) (body ∙ ap (λ n. Accept n ballot slot command) (sym own)) ∙ hints_follow.accept at by ballot slot command r f on t.has.well.2 off)))
      hinted_by (Prepare g ballot from_slot) e =
          let body : mail.body ≡ Prepare name ballot from_slot = e ∙ ap (λ n. Prepare n ballot from_slot) (named_as g (ap group_of_mail e)) in
          let fact : mark_of name mail.from mail.body ≡ Some (Prepares ballot) = ap (mark_of name mail.from) body ∙ same_mark name (Prepares ballot) in
          let f : IsFit (next r) r.acceptor.promised (Prepares ballot) = fits (Prepares ballot) fact in
          let on : GoesOn ballot r = goes words at over by scenario rows seat event base course idle wb one so timely born calm was number mail node r t ballot (known at words all rows seat node base course the_scene number mail t.takes (Prepares ballot) fact) in
          let dated = rows_dated words all rows (row_of player_table seat rows event) base course course timely in
          let dated_one = dated_is words at over by scenario rows seat event base course idle wb one so timely born calm was number mail node r t (Prepares ballot) fact ∙ ap (λ b. Some (Prepares ballot, from_slot_of b)) body in
          let low = prepares_are_known.above now (dated_at (players words all) rows name) seat.who ballot from_slot dated.left r was.low (dated.takes ∙ ap (λ o. listed o ++ dated.left) dated_one) (sym (ap (next_in base seat.who) t.row_.was)) t.has.well.2 in
          as_mark (Prepares ballot) fact (inl (ap (λ n. (mailed n mail.body (r, [])).0.0.hint) (asks_own words all rows wb.alone (in_time_before (players words all) rows (row_of player_table seat rows event) timely) number mail t.takes.sent (Prepare g ballot from_slot) e)
          ∙ (ap (λ b. (mailed ballot.node b (r, [])).0.0.hint) (body ∙ ap (λ n. Prepare n ballot from_slot) (sym own)) ∙ hints_follow.prepare at by ballot from_slot r f on low off)))
      hinted_by (Learn g slot command) e =
          let body : mail.body ≡ Learn name slot command = e ∙ ap (λ n. Learn n slot command) (named_as g (ap group_of_mail e)) in
          let fact : mark_of name mail.from mail.body ≡ Some (Teaches slot) = ap (mark_of name mail.from) body ∙ same_mark name (Teaches slot) in
          elim (told_or slot command body off) [
            | inl stays ↦ as_mark (Teaches slot) fact (told_hint slot command body off stays (reaches slot (same_Some mark (Teaches slot) (sym took ∙ mark_is (Teaches slot) fact))))
            | inr may ↦ absurd (elected_runs slot command body off may)
          ]
        where
          elected_runs : (slot : ℕ) (command : Command) (body : mail.body ≡ Learn base.core.id slot command) → r.running ≡ false → MayElect (entered command r) → ⊥
          elected_runs slot command body off may =
              let low = (one.told rows seat number mail slot command r t.delivers body t.row_.was (told_fit slot command body).1).0 in
              true≢false (sym (ap (λ b. (mailed mail.from b (r, [])).0.0.running) (own_body slot command body) ∙ (tables_elect mail.from slot command r (told_fit slot command body) off (none_flies slot command body off) low may (entered_name command r)).runs) ∙ steps)
      hinted_by (Install g slot state sets) e =
          let body : mail.body ≡ Install name slot state sets = e ∙ ap (λ n. Install n slot state sets) (named_as g (ap group_of_mail e)) in
          let fact : mark_of name mail.from mail.body ≡ Some (Installs slot) = ap (mark_of name mail.from) body ∙ same_mark name (Installs slot) in
          let logs = one.sent rows seat number mail slot state sets t.delivers body in
          let f : IsFit (next r) r.acceptor.promised (Installs slot) = fits (Installs slot) fact in
          let first = head at words all rows seat node base course the_scene number mail t.takes (Installs slot) fact in
          let member : is_member state.core.members (by slot) ≡ true = ap (λ ms. is_member ms (by slot)) (sym logs.members_are) ∙ (subst (AreHeeded at by course seat.who (now.promise seat.who) (hints_at all rows base seat.who)) first (was.heeded.heeds seat.who other)).0 in
          as_mark (Installs slot) fact (inl (ap (λ n. (mailed n mail.body (r, [])).0.0.hint) logs.slot_leader
          ∙ (ap (λ b. (mailed (by slot) b (r, [])).0.0.hint) (body ∙ ap (λ n. Install n slot state sets) (sym own)) ∙ hints_follow.install at by slot state sets r f off logs.whole.low (logs.whole.open_ ∙ sym t.has.well.1) member)))
      hinted_by (Accepted g ballot slot) e =
          as_mark (Votes mail.from ballot slot) (ap (mark_of name mail.from) (e ∙ ap (λ n. Accepted n ballot slot) (named_as g (ap group_of_mail e))) ∙ same_mark name (Votes mail.from ballot slot))
          (inl (ap (λ b. (mailed mail.from b (r, [])).0.0.hint) e ∙ vote_hint mail.from g ballot slot r off))
      hinted_by (Promise g ballot reports) e =
          as_mark (Promises mail.from ballot) (ap (mark_of name mail.from) (e ∙ ap (λ n. Promise n ballot reports) (named_as g (ap group_of_mail e))) ∙ same_mark name (Promises mail.from ballot))
          (inl (ap (λ b. (mailed mail.from b (r, [])).0.0.hint) e ∙ promise_hint mail.from g ballot reports r off))
      hinted_by (Nack g promised) e = unmarked (ap (mark_of name mail.from) e)
      hinted_by _ e = unmarked (ap (mark_of name mail.from) e)

  -- ---- the row of one that takes a mail

  module _ (r : ReplicaState) (after : Place) (mark : Mark) (row_ : IsReplicasRow all rows seat event base.core.id (Some r) after) (took : taken_mark base.core.id (mails rows) event ≡ Some mark) (steps : StepsBy mark r after) where
    some_none : (o : Option ReplicaState) → o ≡ Some r → o ≡ None → ⊥
    some_none o e f = (let bad : Some r ≡ None = sym e ∙ f in cc)

    pub takes_by : GoesBy at by now (progress_at all (with_event rows seat event) base course) seat.who (taken_mark name (mails rows) event) (hints_at all rows base seat.who) (hints_at all (with_event rows seat event) base seat.who)
    takes_by m e other = by_turn (turn words at over by scenario rows seat event base course idle wb one so timely born calm was)
      where
        Goal : Type 0
        Goal = (hints_at all (with_event rows seat event) base seat.who ≡ hint_by at by (now.promise seat.who) (hints_at all rows base seat.who) m) ⊎ ((course.gone ≡ true) × (next_in base seat.who (view_at all (with_event rows seat event) base.core.id seat.who) ≡ course.newest))

        ends : (after.0.hint ≡ hint_by at by r.acceptor.promised r.hint mark) ⊎ ((course.gone ≡ true) × (next after.0 ≡ course.newest)) → Goal
        ends (inl said) = inl (
            ap (hint_in base) row_.fact ∙ (said ∙ (ap (λ x. hint_by at by r.acceptor.promised r.hint x) (same_Some mark m (sym took ∙ e)) ∙ ap (λ o. hint_by at by (promise_in base o) (hint_in base o) m) (sym row_.was)))
            )
        ends (inr over_) = inr (over_.0, ap (next_in base seat.who) row_.fact ∙ over_.1)

        by_turn : IsTurn at by words all rows seat event base → Goal
        by_turn (TurnCreates none made) = absurd (some_none (view_at all rows base.core.id seat.who) row_.was none)
        by_turn (TurnMakes from slot state sets t) = absurd (some_none (view_at all rows base.core.id seat.who) row_.was t.was)
        by_turn (TurnRests same none) = absurd (none-some mark (sym (none) ∙ took))
        by_turn (TurnTold line node q t) = absurd (none-some mark (sym ((ap (taken_mark name (mails rows)) t.event_is)) ∙ took))
        by_turn (TurnTakes number mail node q t) =
            let here : q ≡ r = same_Some q r (sym t.row_.was ∙ row_.was) in
            let viewed : view_at all (with_event rows seat event) base.core.id seat.who ≡ Some (mailed mail.from mail.body (q, [])).0.0 = ap (λ e_. view_at all (with_event rows seat e_) name seat.who) t.event_is ∙ t.row_.fact in
            let there : (mailed mail.from mail.body (q, [])).0.0 ≡ after.0 = same_Some (mailed mail.from mail.body (q, [])).0.0 after.0 (sym viewed ∙ row_.fact) in
            let off : q.running ≡ false = apart_off at words all rows seat node base course (the_scene number mail node q t) q t.row_.was other in
            let off_r : r.running ≡ false = ap (λ (x : ReplicaState). x.running) (sym here) ∙ off in
            let still : (mailed mail.from mail.body (q, [])).0.0.running ≡ false = ap (λ (x : ReplicaState). x.running) there ∙ (steps.runs ∙ off_r) in
            ends (subst (λ x. (x.hint ≡ hint_by at by r.acceptor.promised r.hint mark) ⊎ ((course.gone ≡ true) × (next x ≡ course.newest))) there
            (subst (λ (x : ReplicaState). ((mailed mail.from mail.body (q, [])).0.0.hint ≡ hint_by at by x.acceptor.promised x.hint mark) ⊎ ((course.gone ≡ true) × (next (mailed mail.from mail.body (q, [])).0.0 ≡ course.newest))) here
            (hinted_by number mail node q t mark took off other still (λ slot fact. ap next there ∙ (steps.reaches ∙ ap (next_by (next r)) fact)) mail.body refl)))
