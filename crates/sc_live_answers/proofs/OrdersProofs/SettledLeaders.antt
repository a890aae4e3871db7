-- The group that gets an order, or coordinates its transaction, stays without rounds; so its leader has its promises.
use Rattle.std.proofs.Common.{◌≡◌, ℕ, ◌≤◌, ◌||◌, not, true, false, List, [], ◌∷◌, ◌++◌, length, Option, Some, ◌⊎◌, inl, inr, refl, sym, ◌∙◌, ap, subst, append-nil, append_assoc, arith}
use Rattle.std.proofs.lemmas.Bool.{cases_Bool, or_left, or_right}
use Rattle.sc_base.specs.Definitions.{Among, Each, is_majority, is_member}
use Rattle.sc_node_table.specs.Values.{Draw, Seat, Event, Deliver, Base, OrderLine, Mail, TxElsewhere, Node}
use Rattle.sc_actor.specs.declared.rows.Event.TheVariants.{Told}
use Rattle.sc_actor.specs.Definitions.{numbers_of, row_of}
use Rattle.sc_group_table.specs.machine.MachineDefinitions.{Group}
use Rattle.sc_node_table.specs.NodeDefinitions.{NodeState, group_of_mail, ReplicaState, first_set, may_offer, members, next, settled}
use Rattle.sc_live_orderly.specs.OrderlyDefinitions.{IsCalmEvent, is_born, AreInTime}
use Rattle.sc_live_orderly.proofs.OrderlyLemmas.{in_time_tidy, last_in_time, quiet-empty}
use Rattle.sc_words.specs.paxos.PaxosDefinitions.{below}
use Rattle.sc_words.proofs.PaxosProofs.PaxosLemmas.{Each-among}
use Rattle.sc_scenario.specs.declared.scenario.scenarios.Scenario.{Scenario}
use Rattle.sc_meaning.specs.sound.SoundDefinitions.{Player, as_nodes, births, player_table}
use Rattle.sc_live_steps.specs.following.FollowingDefinitions.{Course, IsOpen, Prepares, Promises, marks_of, members_at, IsLeadOf}
use Rattle.sc_live_steps.proofs.FollowingProofs.FollowingLemmas.{order_is_kept, decided as all_decide}
use Rattle.sc_live_steps.specs.calm.CalmDefinitions.{players, Rows}
use Rattle.sc_live_journals.specs.logs.LogDefinitions.{IsGroupOf, logged_sets}
use Rattle.sc_live_answers.specs.AnswerDefinitions.{over_at, slot_leaders_at, IsSentThrough, IsOrdersAlone, AreSent, IsCalmJournal, IsPrefixOf, RestsAt, HasDone, doer, doers_of, opened, AreSettled, CoordinatorsAreSettled, HasNoRounds, IsNoRound, SettledOrdersBegin, SettledOrdersGoOn, coords_of, ReplicasAreRecorded, AreSeen, IsTrueSince, TakesSince}
use Rattle.sc_live_journals.specs.groups.GroupDefinitions.{IsLedStep}
use Rattle.sc_live_journals.proofs.GroupsProofs.GroupLemmas.{scenarios_well_born, events_go_on, first_at}
use Rattle.sc_live_steps.specs.orders.OrderDefinitions.{OfQuestion, OfVote, OfOutcome, LastTakes, OneTakes, TwoTakes, LastFreed, OneFreed, TwoFreed, IsStepOf, ByRest, ByOrder, ByChange, ByDeal, ByPassing, ByAsking, ByTaking, ByVote, ByNo, ByHearing, ByDeciding, ByEnd, closed, errand_by, Asking, Elsewhere, First, Here, Lone, Next, Turn, Asks, Closes, ClosesBoth, Deal, IsAt, Ordered, Recorded, Replied, SentOn, Stage, Still, Weighs}
use Rattle.sc_live_journals.specs.rows.RowDefinitions.{marks_at, progress_at, view_at, IsSeat, with_event}
use Rattle.sc_live_journals.proofs.RowsProofs.RowLemmas.{view_was}
use Rattle.sc_live_journals.specs.scenes.SceneDefinitions.{IsThere, GoesBy, is_running, scene_at}
use Rattle.sc_live_journals.proofs.ScenesProofs.SceneLemmas.{lead_runs, calm_is}
use Rattle.sc_live_answers.proofs.WorkProofs.Parties.{Coordinates}
use Rattle.sc_live_answers.proofs.ErrandsProofs.PendingErrands.{IsSentOn, elsewhere_at, is_pending}
use Rattle.sc_live_answers.proofs.BallotsProofs.RowsWithoutRounds.{rounds_stay}
use Rattle.sc_live_answers.proofs.WorkProofs.PartiesSinceQuiet.{base_of, coords}
use Rattle.std.proofs.lemmas.Option.{same_Some}
use Rattle.sc_live_answers.proofs.ErrandsProofs.QuestionHints.{no_deeds}
use Rattle.sc_base.proofs.Lemmas.{and_both}

-- ---- members

same_members : (group : Group) (tx asked : Draw) (turn : Turn) (made : Group) → Coordinates group tx asked turn made → made.core.members ≡ group.core.members
same_members group tx asked First made c = ap (λ (g : Group). g.core.members) c.fact
same_members group tx asked Lone made c = ap (λ (g : Group). g.core.members) c.fact
same_members group tx asked (Next part host) made c = ap (λ (g : Group). g.core.members) c.heard.fact ∙ ap (λ (g : Group). g.core.members) c.opened.fact

-- the group that gets the order, or coordinates, after some rows: it is led by who led it in the quiet, with the members that it had
record IsCoord (scenario : Scenario) (quiet xs : Rows) (x : Draw × ℕ) : Type 0 where
  first : ReplicaState
  was : view_at (births as_nodes scenario) quiet x.0 x.1 ≡ Some first
  led : first.running ≡ true
  now : ReplicaState
  fact : view_at (births as_nodes scenario) xs x.0 x.1 ≡ Some now
  runs : now.running ≡ true
  same : members now ≡ members first

module _ (tells : ReplicasAreRecorded) (words : ℕ → ℕ → ℕ × ℕ) (scenario : Scenario) (first : Base) (journal quiet xs more : Rows) (prefix : journal ≡ xs ++ more) (calm : IsCalmJournal words scenario journal) (rests : RestsAt words scenario first journal quiet) (seen : AreSeen scenario quiet) where
  abbrev all : List (Seat Player)
  all = births as_nodes scenario

  runs_at : (name : Draw) (host : ℕ) (r : ReplicaState) → (scene_at (births as_nodes scenario) xs).lead name ≡ Some host → view_at (births as_nodes scenario) xs name host ≡ Some r → r.running ≡ true
  runs_at name host r lead fact = sym (ap is_running fact) ∙ lead_runs (view_at all xs name) (numbers_of all) host lead

  deal_coord : (deal : Deal) → (scene_at (births as_nodes scenario) xs).lead deal.coord ≡ Some deal.chief → ((scene_at (births as_nodes scenario) xs).at deal.coord).bond ≡ Asking deal.tx deal.asked deal.turn
      → HasDone (births as_nodes scenario) quiet xs (doer deal.coord deal.chief (opened deal.tx deal.turn)) → IsCoord scenario quiet xs (deal.coord, deal.chief)
  deal_coord deal lead bond d = record {
    first = d.first;
    was = d.was;
    led = d.led;
    now = d.now;
    fact = d.fact;
    runs = runs_at deal.coord deal.chief d.now lead d.fact;
    same = same_members d.first.group deal.tx deal.asked deal.turn d.now.group (coords tells words scenario first journal quiet xs more prefix calm rests seen deal lead bond d);
  }

  coord_at : (stage : Stage) → IsAt stage (scene_at (births as_nodes scenario) xs) → Each (HasDone (births as_nodes scenario) quiet xs) (doers_of stage) → Each (IsCoord scenario quiet xs) (coords_of stage)
  coord_at Still a d = tt
  coord_at (Ordered group chief work) a d = (
    record {
      first = d.0.first;
      was = d.0.was;
      led = d.0.led;
      now = d.0.now;
      fact = d.0.fact;
      runs = runs_at group chief d.0.now a.leads.0 d.0.fact;
      same = ap (λ (g : Group). g.core.members) (no_deeds d.0.entries d.0.first.group d.0.now.group d.0.did d.0.group_is);
    },
    tt,
  )
  coord_at (Asks deal to) a d = (deal_coord deal a.leads.0 (ap (λ (h : Here). h.bond) a.parties.0.0) d.0, tt)
  coord_at (SentOn deal) a d = (deal_coord deal a.leads.0 (ap (λ (h : Here). h.bond) a.parties.0.0) d.0, tt)
  coord_at (Weighs deal host) a d = (deal_coord deal a.leads.0 (ap (λ (h : Here). h.bond) a.parties.0.0) d.0, tt)
  coord_at (Replied deal agreed host) a d = (deal_coord deal a.leads.0 (ap (λ (h : Here). h.bond) a.parties.0.0) d.0, tt)
  coord_at (Recorded deal agreed host) a d = (deal_coord deal a.leads.0 (ap (λ (h : Here). h.bond) a.parties.0.0) d.0, tt)
  coord_at (Closes tx party) a d = tt
  coord_at (ClosesBoth tx one two) a d = tt

-- ---- stages

closed_coords : (P : Draw × ℕ → Type 0) (tx asked : Draw) (turn : Turn) (host : ℕ) → Each P (coords_of (closed tx asked turn host))
closed_coords P tx asked First host = tt
closed_coords P tx asked Lone host = tt
closed_coords P tx asked (Next part node) host = tt

-- by a step it stays the same group, with the same leader
step_coords : (P : Draw × ℕ → Type 0) (group : Draw) (stage later : Stage) → IsStepOf group stage later → (stage ≡ Still → ⊥) → Each P (coords_of stage) → Each P (coords_of later)
step_coords P group stage later (ByRest e) on k = subst (λ x. Each P (coords_of x)) (sym e) k
step_coords P group stage later (ByOrder s) on k = absurd (on s.before_is)
step_coords P group stage later (ByChange s) on k = subst (λ x. Each P (coords_of x)) (sym s.after_is) tt
step_coords P group stage later (ByDeal s) on k =
    let was : Each P ((group, s.deal.chief) ∷ []) = subst (λ x. Each P (coords_of x)) s.before_is k in
    subst (λ x. Each P (coords_of x)) (sym s.after_is) (subst (λ n. P (n, s.deal.chief)) (sym s.coord_is) was.0, tt)
step_coords P group stage later (ByPassing s) on k = subst (λ x. Each P (coords_of x)) (sym s.after_is) (subst (λ x. Each P (coords_of x)) s.before_is k)
step_coords P group stage later (ByAsking s) on k = subst (λ x. Each P (coords_of x)) (sym s.after_is) (subst (λ x. Each P (coords_of x)) s.before_is k)
step_coords P group stage later (ByTaking (OfQuestion s)) on k = subst (λ x. Each P (coords_of x)) (sym s.after_is) (subst (λ x. Each P (coords_of x)) s.before_is k)
step_coords P group stage later (ByTaking (OfVote s)) on k = subst (λ x. Each P (coords_of x)) (sym s.after_is) (subst (λ x. Each P (coords_of x)) s.before_is k)
step_coords P group stage later (ByTaking (OfOutcome (LastTakes tx party e l g f))) on k = subst (λ x. Each P (coords_of x)) (sym f) tt
step_coords P group stage later (ByTaking (OfOutcome (OneTakes tx one two e l g f))) on k = subst (λ x. Each P (coords_of x)) (sym f) tt
step_coords P group stage later (ByTaking (OfOutcome (TwoTakes tx one two e l g f))) on k = subst (λ x. Each P (coords_of x)) (sym f) tt
step_coords P group stage later (ByVote s) on k = subst (λ x. Each P (coords_of x)) (sym s.after_is) (subst (λ x. Each P (coords_of x)) s.before_is k)
step_coords P group stage later (ByNo s) on k = subst (λ x. Each P (coords_of x)) (sym s.after_is) tt
step_coords P group stage later (ByHearing s) on k =
    let was : Each P ((s.deal.coord, s.deal.chief) ∷ []) = subst (λ x. Each P (coords_of x)) s.before_is k in
    subst (λ x. Each P (coords_of x)) (sym s.after_is) (subst (λ n. P (n, s.next.chief)) (sym s.coord_same) (subst (λ n. P (s.deal.coord, n)) (sym s.chief_same) was.0), tt)
step_coords P group stage later (ByDeciding s) on k = subst (λ x. Each P (coords_of x)) (sym s.after_is) (closed_coords P s.deal.tx s.deal.asked s.deal.turn s.host)
step_coords P group stage later (ByEnd (LastFreed tx party e l g f)) on k = subst (λ x. Each P (coords_of x)) (sym f) tt
step_coords P group stage later (ByEnd (OneFreed tx one two e l g f)) on k = subst (λ x. Each P (coords_of x)) (sym f) tt
step_coords P group stage later (ByEnd (TwoFreed tx one two e l g f)) on k = subst (λ x. Each P (coords_of x)) (sym f) tt

both_each : {X : Type 0} (P Q R : X → Type 0) (xs : List X) → ((x : X) → P x → Q x → R x) → Each P xs → Each Q xs → Each R xs
both_each P Q R [] f p q = tt
both_each P Q R (x ∷ xs) f p q = (f x p.0 q.0, both_each P Q R xs f p.1 q.1)

-- ---- a row

module _ (tells : ReplicasAreRecorded) (words : ℕ → ℕ → ℕ × ℕ) (scenario : Scenario) (first : Base) (journal quiet rows : Rows) (seat : Seat Player) (event : Event OrderLine) (calm : IsCalmJournal words scenario journal) (rests : RestsAt words scenario first journal quiet) (seen : AreSeen scenario quiet)
    (prefix : IsPrefixOf journal (with_event rows seat event)) (seated : IsSeat (births as_nodes scenario) seat) (timely : AreInTime (players words (births as_nodes scenario)) (with_event rows seat event)) (comes : IsCalmEvent (players words (births as_nodes scenario)) rows seat.who event)
    (sent : AreSent words scenario journal rows) (sent_then : AreSent words scenario journal (with_event rows seat event)) where
  abbrev births_ : List (Seat Player)
  births_ = births as_nodes scenario

  abbrev then_ : Rows
  then_ = with_event rows seat event

  row_stays : (x : Draw × ℕ) → IsCoord scenario quiet rows x → IsCoord scenario quiet (with_event rows seat event) x → ((r : ReplicaState) → view_at (births as_nodes scenario) rows x.0 x.1 ≡ Some r → r.running ≡ true → IsOrdersAlone r)
      → HasNoRounds words (births as_nodes scenario) rows x.0 → HasNoRounds words (births as_nodes scenario) (with_event rows seat event) x.0
  row_stays x c d alone none =
      let base = base_of tells words scenario first journal quiet (with_event rows seat event) prefix.more prefix.fact calm rests seen x.0 (x.1, c.first, c.was) in
      let name : base.0.core.id ≡ x.0 = base.2 in
      let at = logged_sets as_nodes base.0 journal in
      let over = over_at as_nodes base.0 journal in
      let by = slot_leaders_at as_nodes scenario base.0 journal in
      let s = sent base.0 base.1.stands in
      let t = sent_then base.0 base.1.stands in
      let has : view_at births_ rows base.0.core.id x.1 ≡ Some c.now = ap (λ n. view_at births_ rows n x.1) name ∙ c.fact in
      let had : view_at births_ then_ base.0.core.id x.1 ≡ Some d.now = ap (λ n. view_at births_ then_ n x.1) name ∙ d.fact in
      let firsts : d.first ≡ c.first = same_Some d.first c.first (sym d.was ∙ c.was) in
      let sets : members_at at (next d.now) ≡ members_at at (next c.now) =
      (t.one.states then_ [] x.1 d.now (sym (append-nil then_)) had).members_are
      ∙ (d.same ∙ (ap members firsts ∙ (sym c.same ∙ sym (s.one.states rows [] x.1 c.now (sym (append-nil rows)) has).members_are))) in
      let step : IsLedStep at over by words births_ rows seat event base.0 s.course =
      events_go_on at over by words births_ then_ base.0 (scenarios_well_born scenario) t.one t.so rows seat event s.course (record { more = []; fact = sym (append-nil then_) }) seated comes timely s.led in
      subst (HasNoRounds words births_ then_) name
      (rounds_stay at over by words births_ rows seat event base.0 s.course s.led timely (λ a c2 y l o. order_is_kept.alone a c2 y l o) x.1 c.now has c.runs (alone c.now c.fact c.runs)
      (λ y e. subst (λ z. members_at at (next z) ≡ members_at at (next c.now)) (same_Some d.now y (sym had ∙ e)) sets) (subst (HasNoRounds words births_ rows) (sym name) none) step)

pub settled_go_on : ReplicasAreRecorded → SettledOrdersGoOn
settled_go_on tells words scenario first journal quiet rows seat number stage later g sent sent_then alone at_later goes true_later settled_ =
    let event = Deliver number in
    let calm_row = (last_in_time (players words (births as_nodes scenario)) rows (row_of player_table seat rows event) g.goes.timely).0 in
    let more : Rows = row_of player_table seat rows event ∷ g.goes.prefix.more in
    let prefix : journal ≡ rows ++ more = g.goes.prefix.fact ∙ append_assoc rows (row_of player_table seat rows event ∷ []) g.goes.prefix.more in
    let was = coord_at tells words scenario first journal quiet rows more prefix g.calm g.rests g.seen stage g.untouched.stands g.true_since.done in
    let now = coord_at tells words scenario first journal quiet (with_event rows seat event) g.goes.prefix.more g.goes.prefix.fact g.calm g.rests g.seen later at_later true_later.done in
    let kept : Each (λ x. IsCoord scenario quiet (with_event rows seat event) x → HasNoRounds words (births as_nodes scenario) (with_event rows seat event) x.0) (coords_of stage) =
    both_each (IsCoord scenario quiet rows) (λ x. HasNoRounds words (births as_nodes scenario) rows x.0) _ (coords_of stage)
    (λ x c none d. row_stays tells words scenario first journal quiet rows seat event g.calm g.rests g.seen g.goes.prefix g.goes.seated g.goes.timely (calm_is words (births as_nodes scenario) rows seat event calm_row) sent sent_then x c d (alone x.0 x.1) none) was settled_ in
    let later_kept = moved (λ x. IsCoord scenario quiet (with_event rows seat event) x → HasNoRounds words (births as_nodes scenario) (with_event rows seat event) x.0) kept goes in
    both_each (λ x. IsCoord scenario quiet (with_event rows seat event) x → HasNoRounds words (births as_nodes scenario) (with_event rows seat event) x.0) (IsCoord scenario quiet (with_event rows seat event)) _ (coords_of later) (λ x f d. f d) later_kept now
  where
    moved : (P : Draw × ℕ → Type 0) → Each P (coords_of stage) → (later ≡ stage) ⊎ GoesBy rows (Deliver number) stage later → Each P (coords_of later)
    moved P k (inl e) = subst (λ x. Each P (coords_of x)) (sym e) k
    moved P k (inr s) = step_coords P s.group stage later s.step s.begins k

pub settled_begin : ReplicasAreRecorded → SettledOrdersBegin
settled_begin tells words scenario first journal quiet seat line stage calm rests seen t prefix sent_then strangers at_stage true_stage =
    let event = Told line in
    let now = coord_at tells words scenario first journal quiet (with_event quiet seat event) prefix.more prefix.fact calm rests seen stage at_stage true_stage.done in
    each_map (IsCoord scenario quiet (with_event quiet seat event)) (λ x. HasNoRounds words (births as_nodes scenario) (with_event quiet seat event) x.0) (coords_of stage)
    (λ x d. row_stays tells words scenario first journal quiet quiet seat event calm rests seen prefix t.seated t.timely tt rests.sent sent_then x
    (record { first = d.first; was = d.was; led = d.led; now = d.first; fact = d.was; runs = d.led; same = refl }) d (λ r has runs. rests_alone x r has) (quiet_none x.0)) now
  where
    each_map : {X : Type 0} (P R : X → Type 0) (xs : List X) → ((x : X) → P x → R x) → Each P xs → Each R xs
    each_map P R [] f p = tt
    each_map P R (x ∷ xs) f p = (f x p.0, each_map P R xs f p.1)

    rests_alone : (x : Draw × ℕ) (r : ReplicaState) → view_at (births as_nodes scenario) quiet x.0 x.1 ≡ Some r → IsOrdersAlone r
    rests_alone x r has =
        let k = rests.fact.quiet.at_rest x.0 x.1 r (sym (seen x.0 x.1) ∙ has) in
        record { flights = subst (Each _) (sym k.flights) tt; ready = subst (Each _) (sym k.ready) tt }

    quiet_time : AreInTime (players words (births as_nodes scenario)) quiet
    quiet_time before row after e = t.timely before row (after ++ row_of player_table seat quiet (Told line) ∷ []) (ap (λ x. x ++ row_of player_table seat quiet (Told line) ∷ []) e ∙ append_assoc before (row ∷ after) (row_of player_table seat quiet (Told line) ∷ []))

    quiet_none : (name : Draw) → HasNoRounds words (births as_nodes scenario) quiet name
    quiet_none name who = elim (cases_Bool (is_born (players words (births as_nodes scenario)) who)) [
      | inl b ↦ subst (Each IsNoRound) (sym (ap (marks_of name) (quiet-empty (players words (births as_nodes scenario)) quiet who (in_time_tidy (players words (births as_nodes scenario)) quiet quiet_time) b t.calm))) tt
      | inr f ↦ subst (Each IsNoRound) (sym (strangers name who f)) tt
    ]

-- ---- a leader that has its promises

module _ (tells : ReplicasAreRecorded) (words : ℕ → ℕ → ℕ × ℕ) (scenario : Scenario) (first : Base) (journal quiet rows : Rows) (seat : Seat Player) (number : ℕ) (mail : Mail) (group : Draw) (node : NodeState) (r : ReplicaState)
    (stage : Stage) (tx coord : Draw) (hint : Option ℕ) (t : TakesSince words scenario first journal quiet rows seat number mail group node r stage) (prefix : IsPrefixOf journal rows) (sent : AreSent words scenario journal rows) (quiet_rounds : AreSettled words scenario rows stage)
    (body : mail.body ≡ TxElsewhere tx coord hint) (runs : r.running ≡ true) where
  abbrev seats : List (Seat Player)
  seats = births as_nodes scenario

  view : view_at (births as_nodes scenario) rows group seat.who ≡ Some r
  view = view_was seats rows seat (Deliver number) group t.taking.seated (Node node) t.taking.is_node ∙ t.here

  own : coord ≡ group
  own = (let e : Some coord ≡ Some group = ap group_of_mail (sym body) ∙ t.taking.named in cc)

  pending : Among (Elsewhere tx mail.to) ((scene_at (births as_nodes scenario) rows).at group).errands
  pending = is_pending words seats rows seat number mail t.taking.timely t.taking.sent (group, Elsewhere tx mail.to) (ap (errand_by mail.from mail.to) body ∙ ap (λ n. Some (n, Elsewhere tx mail.to)) own)

  waits : IsSentOn stage group (Elsewhere tx mail.to)
  waits = elsewhere_at (scene_at seats rows) stage t.untouched.stands group tx mail.to pending

  none : HasNoRounds words (births as_nodes scenario) rows group
  none = subst (HasNoRounds words seats rows) waits.group_is (subst (AreSettled words scenario rows) waits.fact quiet_rounds).0

  there : IsThere (births as_nodes scenario) quiet group
  there =
      let d = (subst (IsTrueSince scenario quiet rows) waits.fact t.true_since).done.0 in
      subst (IsThere seats quiet) waits.group_is (waits.deal.chief, d.first, d.was)

  base : (base : Base) × IsGroupOf as_nodes words scenario journal base × (base.core.id ≡ group)
  base = base_of tells words scenario first journal quiet rows prefix.more prefix.fact t.calm t.rests t.seen group there

  through : IsSentThrough (logged_sets as_nodes base.0 journal) (over_at as_nodes base.0 journal) (slot_leaders_at as_nodes scenario base.0 journal) words (births as_nodes scenario) rows base.0
  through = sent base.0 base.1.stands

  abbrev course : Course
  course = through.course

  leads : IsLeadOf (logged_sets as_nodes base.0 journal) (progress_at (births as_nodes scenario) rows base.0 through.course) r
  leads = (through.led.followed.given.gives seat.who r (ap (λ n. view_at seats rows n seat.who) base.2 ∙ view) runs).0

  quiet_marks : (who : ℕ) → Each IsNoRound (marks_at (players words (births as_nodes scenario)) rows base.0.core.id who)
  quiet_marks who = subst (λ n. Each IsNoRound (marks_at (players words seats) rows n who)) (sym base.2) (none who)

  counted : course.is_first ≡ false → (who : ℕ) → IsOpen (logged_sets as_nodes base.0 journal) course.newest who → course.counted who ≡ true
  counted later who open_ = elim (through.led.followed.follows.promises leads.runs later who open_) [
    | inl a ↦ absurd (Each-among IsNoRound (marks_at (players words seats) rows base.0.core.id who) (Prepares course.ballot) (quiet_marks who) a)
    | inr rest ↦ elim rest [
      | inl c ↦ c
      | inr a ↦ absurd (Each-among IsNoRound (marks_at (players words seats) rows base.0.core.id course.ballot.node) (Promises who course.ballot) (quiet_marks course.ballot.node) a)
    ]
  ]

  low : below r.leader.ballot r.acceptor.promised ≡ false
  low = ap (λ b. below b r.acceptor.promised) leads.led.may.ballot ∙ (ap (below course.ballot) (sym leads.promise) ∙ through.led.followed.follows.promised r.me)

  majority : r.leader.is_first ≡ false → is_majority (first_set r.sets) r.leader.promisers ≡ true
  majority later =
      let ahead = leads.led.ahead in
      let firsts = ap (logged_sets as_nodes base.0 journal) leads.newest ∙ first_at (logged_sets as_nodes base.0 journal) (next r) r.sets leads.led.may.sets (omega (arith, ahead)) in
      all_decide (first_set r.sets) r.leader.promisers (subst (λ ms. 1 ≤ length ms) firsts (through.one.log.rosters course.newest).some)
      (λ who m. sym (leads.counted who) ∙ counted (sym leads.led.first ∙ later) who (record { slot = course.newest; from = omega arith; to = omega arith; decides = ap (λ ms. is_member ms who) firsts ∙ m }))

  is_settled : settled r ≡ true
  is_settled =
      and_both r.running (may_offer r (first_set r.sets)) runs
      (and_both (not (below r.leader.ballot r.acceptor.promised)) (r.leader.is_first || is_majority (first_set r.sets) r.leader.promisers) (ap not low)
      (elim (cases_Bool r.leader.is_first) [
        | inl one ↦ or_left r.leader.is_first (is_majority (first_set r.sets) r.leader.promisers) one
        | inr later ↦ or_right r.leader.is_first (is_majority (first_set r.sets) r.leader.promisers) (majority later)
      ]))

pub coordinators_settle : ReplicasAreRecorded → CoordinatorsAreSettled
coordinators_settle tells words scenario first journal quiet rows seat number mail group node r stage tx coord hint t prefix sent rounds body runs =
    is_settled tells words scenario first journal quiet rows seat number mail group node r stage tx coord hint t prefix sent rounds body runs
