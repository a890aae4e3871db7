-- A row of a group leaves it without rounds, where its leader has at most one command in flight, by which nobody comes.
use Rattle.std.proofs.Common.{◌≡◌, ℕ, zero, suc, ◌+◌, ◌≤◌, ◌==◌, true, true≢false, is_some, List, [], ◌∷◌, ◌++◌, Option, Some, None, ◌⊎◌, inl, inr, option_map, refl, sym, ◌∙◌, ap, subst, arith}
use Rattle.std.proofs.lemmas.Bool.{cases_eq, cases_lt, cond_both}
use Rattle.sc_base.specs.Definitions.{Each, is_member}
use Rattle.sc_node_table.specs.Values.{Ballot, Seat, Event, Command, Noop, Call, Base, OrderLine, Flight}
use Rattle.sc_actor.specs.Definitions.{row_of, mails}
use Rattle.sc_node_table.specs.NodeDefinitions.{is_act, ReplicaState, flying, listed, next, at_slot}
use Rattle.sc_live_orderly.proofs.OrderlyLemmas.{Each-behind}
use Rattle.sc_live_orderly.specs.OrderlyDefinitions.{AreInTime}
use Rattle.sc_words.specs.paxos.PaxosDefinitions.{flight_at}
use Rattle.sc_words.proofs.PaxosProofs.PaxosLemmas.{Each-among, Each-append, Each-weaker, find_found}
use Rattle.sc_meaning.specs.sound.SoundDefinitions.{Player, player_table}
use Rattle.sc_live_steps.specs.following.FollowingDefinitions.{Asks, Course, Mark, Prepares, Progress, Sets, Teaches, Votes, members_at, SlotLeaders, ActsAlone, IsLeadOf, IsLed, IsOrderly, IsOffer, IsRow, answered, taught_from, reported_of, welcome}
use Rattle.sc_live_steps.specs.calm.CalmDefinitions.{players, Rows}
use Rattle.sc_live_steps.specs.orders.OrderDefinitions.{work_by, Work}
use Rattle.sc_live_journals.specs.rows.RowDefinitions.{progress_at, view_at, led_course, with_event, taken_mark}
use Rattle.sc_live_journals.proofs.RowsProofs.RowLemmas.{rows_are}
use Rattle.sc_live_journals.specs.scenes.SceneDefinitions.{IsWork}
use Rattle.sc_live_journals.specs.groups.GroupDefinitions.{IsGroupRow, IsLedStep, RowElects, RowLeads, RowMakes, RowPasses, RowRests, RowTakes, Ends, IsWellLed}
use Rattle.sc_live_answers.specs.AnswerDefinitions.{IsOrdersAlone, HasNoRounds, IsNoRound}

-- ---- lists of marks

each_left : {X : Type 0} (P : X → Type 0) (xs ys : List X) → Each P (xs ++ ys) → Each P xs
each_left P [] ys e = tt
each_left P (x ∷ xs) ys e = (e.0, each_left P xs ys e.1)

taught_quiet : (at : Sets) (course : Course) (slot who : ℕ) → (is_member (members_at at (slot + 1)) who ≡ true → is_member (members_at at slot) who ≡ true) → Each IsNoRound (reported_of at course slot who)
taught_quiet at course slot who k =
    cond_both (who == course.ballot.node) [] _ (Each IsNoRound) (λ _. tt)
    (λ _. cond_both (is_member (members_at at slot) who) (Teaches slot ∷ []) _ (Each IsNoRound) (λ _. (tt, tt))
    (λ f. cond_both (is_member (members_at at (slot + 1)) who) (welcome course slot) [] (Each IsNoRound) (λ t. absurd (true≢false (sym (k t) ∙ f))) (λ _. tt)))

answers_quiet : (node : ℕ) (promise : Ballot) (mark : Mark) (who : ℕ) → IsNoRound mark → Each IsNoRound (answered node promise mark who)
answers_quiet node promise (Asks ballot slot) who k = cond_both (who == ballot.node) (Votes node ballot slot ∷ []) [] (Each IsNoRound) (λ _. (tt, tt)) (λ _. tt)
answers_quiet node promise (Prepares ballot) who k = absurd k
answers_quiet node promise _ who k = tt

offer_quiet : (at : Sets) (course : Course) (from who : ℕ) (mark : Mark) → IsOffer at course from who mark → IsNoRound mark
offer_quiet at course from who (Asks ballot slot) k = tt
offer_quiet at course from who _ k = absurd k

row_quiet : (now after : Progress) (node : ℕ) (taken : Option Mark) (sent marks marks_after : ℕ → List Mark) → IsRow now after node taken sent marks marks_after
    → ((who : ℕ) → Each IsNoRound (marks who)) → ((who : ℕ) → Each IsNoRound (sent who)) → (who : ℕ) → Each IsNoRound (marks_after who)
row_quiet now after node taken sent marks marks_after row had sends who = elim (cases_eq who node) [
  | inl fact ↦ subst (λ n. Each IsNoRound (marks_after n)) (sym fact)
      (subst (Each IsNoRound) (sym row.own)
      (Each-append IsNoRound row.left (sent node) (Each-behind IsNoRound (listed taken) row.left (subst (Each IsNoRound) row.takes (had node))) (sends node)))
  | inr ne ↦ subst (Each IsNoRound) (sym (row.others who ne)) (Each-append IsNoRound (marks who) (sent who) (had who) (sends who))
]

-- ---- one command in flight

pub work_act : (command : Command) (work : Work) → work_by command ≡ Some work → is_act command ≡ true
work_act Noop work e = cc
work_act (Call client seq op) work e = cc
work_act _ work e = refl

ready_work : (ready : List (ℕ × Command)) (slot : ℕ) (command : Command) → Each (λ entry. IsWork entry.1) ready → at_slot ready slot ≡ Some command → IsWork command
ready_work [] slot command all = λ e. cc
ready_work (entry ∷ ready) slot command all =
    cond_both (entry.0 == slot) (Some entry.1) (at_slot ready slot) (λ o. o ≡ Some command → IsWork command) (λ _ e. (let same : entry.1 ≡ command = cc in subst IsWork same all.0)) (λ _ e. ready_work ready slot command all.1 e)

flying_work : (r : ReplicaState) (slot : ℕ) (command : Command) → Each (λ (flight : Flight Command). IsWork flight.value) r.leader.flights → flying r slot ≡ Some command → IsWork command
flying_work r slot command all e = by (flight_at slot r.leader.flights) refl e
  where
    by : (o : Option (Flight Command)) → flight_at slot r.leader.flights ≡ o → option_map (λ (flight : Flight Command). flight.value) o ≡ Some command → IsWork command
    by None fact v = cc
    by (Some flight) fact v =
        let same : flight.value ≡ command = cc in
        subst IsWork same (Each-among (λ (x : Flight Command). IsWork x.value) r.leader.flights flight all (find_found (λ (x : Flight Command). x.slot == slot) r.leader.flights flight fact).0)

one_bound : (at : Sets) (course : Course) (r : ReplicaState) → IsLed at course r → ActsAlone course r → IsOrdersAlone r → course.bound ≤ next r + 1
one_bound at course r led alone work = elim (cases_lt (next r) course.bound) [
  | inr low ↦ omega (arith, low)
  | inl more ↦ by (flying r (next r)) refl (at_slot r.ready (next r)) refl (led.may.taken (next r) (omega arith) more)
]
  where
    bound_of : (command : Command) → (flying r (next r) ≡ Some command) ⊎ (at_slot r.ready (next r) ≡ Some command) → IsWork command → course.bound ≤ next r + 1
    bound_of command there w = (let fact = alone (next r) command (omega arith) there (work_act command w.0 w.1) in omega (arith, fact))

    by : (f : Option Command) → flying r (next r) ≡ f → (a : Option Command) → at_slot r.ready (next r) ≡ a → is_some (Rattle.sc_node_table.specs.Replica.either f a) ≡ true → course.bound ≤ next r + 1
    by (Some command) fact a ready some = bound_of command (inl fact) (flying_work r (next r) command work.flights fact)
    by None fact (Some command) ready some = bound_of command (inr ready) (ready_work r.ready (next r) command work.ready ready)
    by None fact None ready some = absurd (true≢false (sym some))

few_executed : (slot executed after bound : ℕ) → after ≡ slot + executed → after ≤ bound → bound ≤ slot + 1 → executed ≤ 1
few_executed slot executed after bound e f g = omega (arith, e, f, g)

-- ---- a row

module _ (at : Sets) (over : Ends) (by : SlotLeaders) (words : ℕ → ℕ → ℕ × ℕ) (births : List (Seat Player)) (rows : Rows) (seat : Seat Player) (event : Event OrderLine) (base : Base) (course : Course) (was : IsWellLed at over by words births rows base course)
    (timely : AreInTime (players words births) (with_event rows seat event)) (acts : (at : Sets) (course : Course) (r : ReplicaState) → IsLed at course r → IsOrderly r → ActsAlone course r) (host : ℕ) (r : ReplicaState)
    (has : view_at births rows base.core.id host ≡ Some r) (runs : r.running ≡ true) (alone : IsOrdersAlone r) (same : (then_ : ReplicaState) → view_at births (with_event rows seat event) base.core.id host ≡ Some then_ → members_at at (next then_) ≡ members_at at (next r))
    (none : HasNoRounds words births rows base.core.id) where
  leads : IsLeadOf at (progress_at births rows base course) r × (host ≡ course.ballot.node)
  leads = was.followed.given.gives host r has runs

  abbrev Quiet : Type 0
  Quiet = HasNoRounds words births (with_event rows seat event) base.core.id

  by_sent : (later : Course) → ((who : ℕ) → Each IsNoRound (Rattle.sc_live_steps.specs.following.PaxosTables.marks_for base.core.id who (row_of player_table seat rows event).sent)) → Quiet
  by_sent later sends =
      row_quiet (progress_at births rows base course) (progress_at births (with_event rows seat event) base later) seat.who _ _ _ _ (rows_are words births rows (row_of player_table seat rows event) base course later timely) none sends

  module _ (x : ReplicaState) (after : ReplicaState) (x_has : view_at births rows base.core.id seat.who ≡ Some x) (x_runs : x.running ≡ true) (fact : view_at births (with_event rows seat event) base.core.id seat.who ≡ Some after) where
    here : host ≡ seat.who
    here = leads.1 ∙ sym (was.followed.given.gives seat.who x x_has x_runs).1

    members_same : members_at at (next after) ≡ members_at at (next r)
    members_same = same after (ap (view_at births (with_event rows seat event) base.core.id) here ∙ fact)

    newest_is : course.newest ≡ next r
    newest_is = leads.0.newest

    few : (executed : ℕ) → next after ≡ course.newest + executed → next after ≤ course.bound → executed ≤ 1
    few executed e f = (let g = one_bound at course r leads.0.led (acts at course r leads.0.led (was.orderly host r has runs)) alone in let n = newest_is in few_executed course.newest executed (next after) course.bound e f (omega (arith, g, n)))

    taught_none : (executed : ℕ) → executed ≤ 1 → next after ≡ course.newest + executed → (who : ℕ) → Each IsNoRound (taught_from at course course.newest executed who)
    taught_none zero low e who = tt
    taught_none (suc zero) low e who =
        Each-append IsNoRound (reported_of at course course.newest who) [] (taught_quiet at course course.newest who (λ m.
        ap (λ n. is_member (members_at at n) who) newest_is ∙ (ap (λ s. is_member s who) (sym members_same) ∙ (ap (λ n. is_member (members_at at n) who) e ∙ m)))) tt
    taught_none (suc (suc more)) low e who = absurd (omega (arith, low))

  taken_quiet : (m : Mark) → taken_mark base.core.id (mails rows) event ≡ Some m → IsNoRound m
  taken_quiet m t =
      let row = rows_are words births rows (row_of player_table seat rows event) base course course timely in
      (each_left IsNoRound (m ∷ []) row.left (subst (Each IsNoRound) (row.takes ∙ ap (λ o. listed o ++ row.left) t) (none seat.who))).0

  by_row : (later : Course) → IsGroupRow at over by births rows seat event base course later → Quiet
  by_row later (RowPasses e leaves) = by_sent course (λ who. subst (Each IsNoRound) (sym ((leaves.idle course).sends who)) tt)
  by_row later (RowRests e x after row off unmoved idle) = by_sent course (λ who. subst (Each IsNoRound) (sym (idle.sends who)) tt)
  by_row later (RowTakes e x after mark row taken steps takes) = by_sent course (λ who. subst (Each IsNoRound) (sym (takes.sends who)) (answers_quiet seat.who _ takes.mark who (taken_quiet takes.mark takes.takes)))
  by_row later (RowMakes e from slot state sets row taken logs takes) = by_sent course (λ who. subst (Each IsNoRound) (sym (takes.sends who)) (answers_quiet seat.who _ takes.mark who (taken_quiet takes.mark takes.takes)))
  by_row later (RowLeads x after row x_runs counts l e) =
      let k = l.led.leads in
      by_sent (led_course l.led.bound course after.0) (λ who. subst (Each IsNoRound) (sym (k.sends who))
      (Each-append IsNoRound (taught_from at course course.newest k.executed who) (k.offers who)
      (taught_none x after.0 row.was x_runs row.fact k.executed (few x after.0 row.was x_runs row.fact k.executed k.newest k.within) k.newest who)
      (Each-weaker (IsOffer at (led_course l.led.bound course after.0) course.bound who) IsNoRound (offer_quiet at (led_course l.led.bound course after.0) course.bound who) (k.offers who) (k.asks who))))
  by_row later (RowElects x after ballot row off self_election e) = absurd (true≢false (sym leads.0.runs ∙ self_election.self_election.idle))

  pub rounds_stay : IsLedStep at over by words births rows seat event base course → HasNoRounds words births (with_event rows seat event) base.core.id
  rounds_stay step = by_row step.later step.row
