-- No replica saw a later ballot than it has promised, once it has taken its mail, after one row more.
use Rattle.std.proofs.Common.{◌≡◌, ℕ, true, true≢false, List, [], ◌∷◌, ◌++◌, Option, Some, None, ◌⊎◌, inl, inr, sym, ◌∙◌, ap, subst, arith}
use Rattle.std.proofs.lemmas.Bool.{cases_eq}
use Rattle.sc_node_table.specs.Values.{Ballot, Draw, Base, OrderLine, Mail, Seat, Event, Row}
use Rattle.sc_actor.specs.Definitions.{mails, row_of}
use Rattle.sc_live_orderly.specs.OrderlyDefinitions.{IsCalmEvent, AreInTime}
use Rattle.sc_words.specs.paxos.PaxosDefinitions.{IsAtLeast}
use Rattle.sc_words.proofs.PaxosProofs.PaxosLemmas.{at_least_itself, at_least_trans}
use Rattle.sc_scenario.specs.declared.scenario.scenarios.Scenario.{Scenario}
use Rattle.sc_node_table.specs.NodeDefinitions.{ReplicaState, listed, first_ballot}
use Rattle.sc_meaning.specs.sound.SoundDefinitions.{Player, player_table, births, as_nodes}
use Rattle.sc_live_steps.specs.calm.CalmDefinitions.{players, Rows}
use Rattle.sc_live_steps.specs.following.FollowingDefinitions.{Mark, Prepares, reached, pledged, AreFit, Course, Progress, Sets, IsOpen, SlotLeaders, IsRow, marks_for}
use Rattle.sc_live_steps.proofs.FollowingProofs.FollowingLemmas.{pledged-append}
use Rattle.sc_live_journals.specs.rows.RowDefinitions.{view_at, marks_at, taken_mark, promise_in, progress_at, IsSeat, with_event}
use Rattle.sc_live_journals.proofs.RowsProofs.RowLemmas.{rows_are, view_others}
use Rattle.sc_live_journals.specs.groups.GroupDefinitions.{IsLedStep, Ends, IsWellLed, AreWellBorn, HasOneLog, IsSentSo}
use Rattle.sc_live_journals.proofs.GroupsProofs.GroupLemmas.{replicas_kept, scenarios_kept_born}
use Rattle.sc_live_journals.specs.mail.MailDefinitions.{JournalsKeepIdle}
use Rattle.sc_live_answers.proofs.BallotsProofs.SeenBallotBounds.{Shows, ShowsNone, ShowsAsked, ShowsRefused, ShowsOwn, shown}
use Rattle.sc_live_answers.proofs.BallotsProofs.SeenBallots.{RefusesOld, promise_then}
use Rattle.sc_live_answers.proofs.BallotsProofs.HintedMarks.{member_open, pledged_rises, fit_behind}

-- ---- no promise falls

module _ (now after : Progress) (node : ℕ) (taken : Option Mark) (sent marks marks_after : ℕ → List Mark) (row : IsRow now after node taken sent marks marks_after) (fits : (who : ℕ) → AreFit (after.next who) (after.promise who) (marks_after who)) where
  own_rises : after.promise node ≡ pledged (now.promise node) (listed taken) → IsAtLeast (pledged (after.promise node) (marks_after node)) (pledged (now.promise node) (marks node))
  own_rises e =
      let start : pledged (after.promise node) row.left ≡ pledged (now.promise node) (marks node) = ap (λ p. pledged p row.left) e ∙ (sym (pledged-append (now.promise node) (listed taken) row.left) ∙ sym (ap (pledged (now.promise node)) row.takes)) in
      let all : pledged (after.promise node) (marks_after node) ≡ pledged (pledged (now.promise node) (marks node)) (sent node) =
      ap (pledged (after.promise node)) row.own ∙ (pledged-append (after.promise node) row.left (sent node) ∙ ap (λ p. pledged p (sent node)) start) in
      let fit : AreFit (reached (after.next node) row.left) (pledged (after.promise node) row.left) (sent node) = fit_behind (after.next node) (after.promise node) row.left (sent node) (subst (AreFit (after.next node) (after.promise node)) row.own (fits node)) in
      subst (λ p. IsAtLeast p (pledged (now.promise node) (marks node))) (sym all)
      (pledged_rises (reached (after.next node) row.left) (pledged (now.promise node) (marks node)) (sent node) (subst (λ p. AreFit (reached (after.next node) row.left) p (sent node)) start fit))

  pub others_rise : (who : ℕ) → (who ≡ node → ⊥) → IsAtLeast (pledged (after.promise who) (marks_after who)) (pledged (now.promise who) (marks who))
  others_rise who ne =
      let all : pledged (after.promise who) (marks_after who) ≡ pledged (pledged (now.promise who) (marks who)) (sent who) =
      ap (pledged (after.promise who)) (row.others who ne) ∙ (ap (λ p. pledged p (marks who ++ sent who)) (row.promise who ne) ∙ pledged-append (now.promise who) (marks who) (sent who)) in
      let fit : AreFit (now.next who) (now.promise who) (marks who ++ sent who) = subst (λ n. AreFit n (now.promise who) (marks who ++ sent who)) (row.next who ne) (subst (λ p. AreFit (after.next who) p (marks who ++ sent who)) (row.promise who ne)
      (subst (AreFit (after.next who) (after.promise who)) (row.others who ne) (fits who))) in
      subst (λ p. IsAtLeast p (pledged (now.promise who) (marks who))) (sym all)
      (pledged_rises (reached (now.next who) (marks who)) (pledged (now.promise who) (marks who)) (sent who) (fit_behind (now.next who) (now.promise who) (marks who) (sent who) fit))

module _ (words : ℕ → ℕ → ℕ × ℕ) (at : Sets) (over : Ends) (by : SlotLeaders) (scenario : Scenario) (rows : Rows) (seat : Seat Player) (event : Event OrderLine) (base : Base) (course : Course) (idle : JournalsKeepIdle) (wb : AreWellBorn (births as_nodes scenario))
    (one : HasOneLog at over by (births as_nodes scenario) (with_event rows seat event) base) (so : IsSentSo (births as_nodes scenario) (with_event rows seat event) base) (timely : AreInTime (players words (births as_nodes scenario)) (with_event rows seat event))
    (born : IsSeat (births as_nodes scenario) seat) (calm : IsCalmEvent (players words (births as_nodes scenario)) rows seat.who event) (was : IsWellLed at over by words (births as_nodes scenario) rows base course) (step : IsLedStep at over by words (births as_nodes scenario) rows seat event base course)
    (plain : (r : ReplicaState) → view_at (births as_nodes scenario) rows base.core.id seat.who ≡ Some r → r.leader.reports ≡ [])
    (old : (node : ℕ) (r : ReplicaState) → view_at (births as_nodes scenario) rows base.core.id node ≡ Some r → IsAtLeast (pledged r.acceptor.promised (marks_at (players words (births as_nodes scenario)) rows base.core.id node)) r.top)
    (refuses : RefusesOld (births as_nodes scenario) rows seat event base) where
  abbrev all : List (Seat Player)
  all = births as_nodes scenario

  abbrev name : Draw
  name = base.core.id

  abbrev then_ : Rows
  then_ = with_event rows seat event

  abbrev row : Row Mail OrderLine
  row = row_of player_table seat rows event

  abbrev now : Progress
  now = progress_at all rows base course

  abbrev after : Progress
  after = progress_at all then_ base step.later

  abbrev marks : ℕ → List Mark
  marks = marks_at (players words all) rows name

  abbrev marks_then : ℕ → List Mark
  marks_then = marks_at (players words all) then_ name

  row_in : IsRow now after seat.who (taken_mark name (mails rows) event) (λ who. marks_for name who row.sent) marks marks_then
  row_in = rows_are words all rows row base course step.later timely

  -- what the node of the row has promised after it
  own_promise : after.promise seat.who ≡ pledged (now.promise seat.who) (listed (taken_mark base.core.id (mails rows) event))
  own_promise = promise_then words at over by scenario rows seat event base course timely born calm was step

  all_rise : (who : ℕ) → IsAtLeast (pledged (after.promise who) (marks_then who)) (pledged (now.promise who) (marks who))
  all_rise who = elim (cases_eq who seat.who) [
    | inl fact ↦ subst (λ n. IsAtLeast (pledged (after.promise n) (marks_then n)) (pledged (now.promise n) (marks n))) (sym fact)
        (own_rises now after seat.who (taken_mark name (mails rows) event) (λ w. marks_for name w row.sent) marks marks_then row_in step.led.followed.follows.fits own_promise)
    | inr ne ↦ others_rise now after seat.who (taken_mark name (mails rows) event) (λ w. marks_for name w row.sent) marks marks_then row_in step.led.followed.follows.fits who ne
  ]

  -- what it saw before
  old_at : (who : ℕ) (r : ReplicaState) → view_at all rows base.core.id who ≡ Some r → IsAtLeast (pledged (now.promise who) (marks who)) r.top
  old_at who r e = subst (λ o. IsAtLeast (pledged (promise_in base o) (marks who)) r.top) (sym e) (old who r e)

  -- one that runs has promised its own ballot, once it has taken its mail
  own_top : (q : ReplicaState) → view_at all (with_event rows seat event) base.core.id seat.who ≡ Some q → q.running ≡ true → IsAtLeast (pledged (after.promise seat.who) (marks_then seat.who)) q.top
  own_top q viewed runs =
      let leads = step.led.followed.given.gives seat.who q viewed runs in
      let top : q.top ≡ step.later.ballot = ((replicas_kept all then_ name seat.who q (scenarios_kept_born scenario) viewed).0.2 runs).0 ∙ leads.0.led.may.ballot in
      let follows = step.led.followed.follows in
      let opened : IsOpen at step.later.newest seat.who = subst (IsOpen at step.later.newest) (sym leads.1) (member_open at step.later.ballot.node step.later.newest step.later.newest (omega arith) (omega arith) (follows.leads leads.0.runs).member) in
      subst (λ p. IsAtLeast p q.top) (sym (follows.ready seat.who opened).promised) (subst (IsAtLeast step.later.ballot) (sym top) (at_least_itself step.later.ballot))

  own_seen : (q : ReplicaState) → view_at (births as_nodes scenario) (with_event rows seat event) base.core.id seat.who ≡ Some q → IsAtLeast (pledged (after.promise seat.who) (marks_then seat.who)) q.top
  own_seen q viewed = by_shown (shown words at over by scenario rows seat event base course idle wb one so timely born calm was step.later step.row plain q viewed)
    where
      risen : (b : Ballot) → IsAtLeast (pledged (now.promise seat.who) (marks seat.who)) b → IsAtLeast (pledged (after.promise seat.who) (marks_then seat.who)) b
      risen b least = at_least_trans (pledged (after.promise seat.who) (marks_then seat.who)) (pledged (now.promise seat.who) (marks seat.who)) b (all_rise seat.who) least

      asked : (ballot : Ballot) → taken_mark base.core.id (mails rows) event ≡ Some (Prepares ballot) → IsAtLeast (pledged (now.promise seat.who) (marks seat.who)) ballot
      asked ballot fact =
          let first : marks seat.who ≡ Prepares ballot ∷ row_in.left = row_in.takes ∙ ap (λ o. listed o ++ row_in.left) fact in
          let fit = subst (AreFit (now.next seat.who) (now.promise seat.who)) first (was.followed.follows.fits seat.who) in
          subst (λ l. IsAtLeast (pledged (now.promise seat.who) l) ballot) (sym first) (pledged_rises (now.next seat.who) ballot row_in.left fit.1)

      by_shows : (r : ReplicaState) → view_at all rows base.core.id seat.who ≡ Some r → Shows rows event base r q → IsAtLeast (pledged (after.promise seat.who) (marks_then seat.who)) q.top
      by_shows r e (ShowsNone low) = risen q.top (at_least_trans (pledged (now.promise seat.who) (marks seat.who)) r.top q.top (old_at seat.who r e) low)
      by_shows r e (ShowsAsked ballot fact same) = risen q.top (subst (IsAtLeast (pledged (now.promise seat.who) (marks seat.who))) (sym same) (asked ballot fact))
      by_shows r e (ShowsRefused number mail promised is_event sent_at body up same) = absurd (true≢false (sym up ∙ refuses number mail promised r is_event sent_at body e))
      by_shows r e (ShowsOwn runs) = own_top q viewed runs

      by_begins : view_at all rows base.core.id seat.who ≡ None → (q.running ≡ true) ⊎ (q.top ≡ first_ballot base.core) → IsAtLeast (pledged (after.promise seat.who) (marks_then seat.who)) q.top
      by_begins none (inl runs) = own_top q viewed runs
      by_begins none (inr first) =
          let promise : now.promise seat.who ≡ first_ballot base.core = ap (promise_in base) none in
          risen q.top (subst (IsAtLeast (pledged (now.promise seat.who) (marks seat.who))) (promise ∙ sym first) (pledged_rises (now.next seat.who) (now.promise seat.who) (marks seat.who) (was.followed.follows.fits seat.who)))

      by_shown : ((r : ReplicaState) × (view_at all rows base.core.id seat.who ≡ Some r) × Shows rows event base r q) ⊎ ((view_at all rows base.core.id seat.who ≡ None) × ((q.running ≡ true) ⊎ (q.top ≡ first_ballot base.core)))
          → IsAtLeast (pledged (after.promise seat.who) (marks_then seat.who)) q.top
      by_shown (inl seen) = by_shows seen.0 seen.1 seen.2
      by_shown (inr new) = by_begins new.0 new.1

  pub topped_then : (node : ℕ) (q : ReplicaState) → view_at (births as_nodes scenario) (with_event rows seat event) base.core.id node ≡ Some q → IsAtLeast (pledged q.acceptor.promised (marks_at (players words (births as_nodes scenario)) (with_event rows seat event) base.core.id node)) q.top
  topped_then node q viewed = subst (λ o. IsAtLeast (pledged (promise_in base o) (marks_then node)) q.top) viewed by_node
    where
      by_node : IsAtLeast (pledged (after.promise node) (marks_then node)) q.top
      by_node = elim (cases_eq node seat.who) [
        | inl fact ↦ subst (λ n. IsAtLeast (pledged (after.promise n) (marks_then n)) q.top) (sym fact) (own_seen q (subst (λ n. view_at all then_ name n ≡ Some q) fact viewed))
        | inr ne ↦ at_least_trans (pledged (after.promise node) (marks_then node)) (pledged (now.promise node) (marks node)) q.top (all_rise node) (old_at node q (sym (view_others all rows row name node ne) ∙ viewed))
      ]
