-- While clients ask alone since a quiet prefix that rests: it begins so, each row keeps it, and the journal rests again once it is quiet.
use Rattle.std.proofs.Common.{◌≡◌, ℕ, ◌+◌, ◌≤◌, cond, true, false, List, [], ◌∷◌, ◌++◌, Option, Some, None, inl, inr, refl, sym, ◌∙◌, ap, subst, arith, append-nil, append_assoc}
use Rattle.std.proofs.lemmas.Bool.{cases_Bool, both_ways}
use Rattle.std.proofs.lemmas.List.Sums.{sum_by-append}
use Rattle.std.proofs.lemmas.Option.{none-some}
use Rattle.sc_base.specs.Definitions.{Among, Each}
use Rattle.sc_node_table.specs.Values.{Ballot, Draw, Command, Noop, Call, Base, Core, Route, OrderLine, Mail, Seat, Event, Row, Flight}
use Rattle.sc_actor.specs.Definitions.{mails, value, System, row_of, is_quiet}
use Rattle.sc_live_orderly.specs.OrderlyDefinitions.{IsInOrder, is_told, orders, AreInTime}
use Rattle.sc_live_orderly.proofs.OrderlyLemmas.{last_in_time}
use Rattle.sc_node_table.specs.NodeDefinitions.{replica_of, ReplicaState, listed}
use Rattle.sc_scenario.specs.declared.scenario.scenarios.Scenario.{Scenario}
use Rattle.sc_scenario.specs.scenario.Definitions.{ValidScenariosAreBounded}
use Rattle.sc_meaning.specs.sound.SoundDefinitions.{groups_at, Player, player_table, births, node_seat, as_nodes}
use Rattle.sc_live_steps.specs.calm.CalmDefinitions.{players, Rows}
use Rattle.sc_live_steps.specs.orders.OrderDefinitions.{work_by, works_in, works_flying, works_ready, works}
use Rattle.sc_live_journals.specs.rows.RowDefinitions.{view_at, IsSeat, with_event}
use Rattle.sc_live_journals.specs.mail.MailDefinitions.{SlotsAreLeft, ReplicasLast}
use Rattle.sc_live_journals.specs.logs.LogDefinitions.{logged_sets}
use Rattle.sc_live_journals.specs.scenes.SceneDefinitions.{IsThere, GoesToActor}
use Rattle.sc_live_journals.specs.charts.ChartDefinitions.{names_at, all_replicas, GoInTurn}
use Rattle.sc_live_plain.specs.PlainDefinitions.{IsAskingNode, replicas_after, QuietJournalsAsk, replicas_of, Setting, IsSetting, KnowsBetter, Frame, IsBegun, Requests, IsPlainCommand, IsPlainFlight, IsSettled, IsPlainAt}
use Rattle.sc_live_answers.specs.AnswerDefinitions.{over_at, slot_leaders_at, IsSentStep, NextRowsAreSent, QuietGroupsHaveCuts, StandingGroupsAreRound, QuietJournalsHaveFrames, QuietSettingsAreLinked, ChartHintsRise, NextRowsRise, IsRisingOn, IsBallotSince, RequestsKeepBallots, RoundsAreSeen, StillPrefixesAreFree, IsQuietPrefix, IsFoundPrefix, PrefixesAreFound, NoGroupEnds, PrefixesStayInTurn, NoMailForStrangers, IsCalmJournal, IsPrefixOf, AreSent, RestsAt, RequestsLeaveResting, setting_of, RequestsBegin, RequestsStay, RequestsFindCalm, RequestsLeaveYoung, RestingPrefixesAreKnown, SentNodesMayPump, IsAskedSince, RequestsBeginAsked, RequestsStayAsked, AskedRowsGoOn, AskedRowsFindCalm, RequestsKeepGroups, RequestsRestAgain}
use Rattle.sc_live_answers.proofs.RestProofs.Prefixes.{journal_group, journal_few, quiet_marks, untold_in_order}
use Rattle.sc_live_answers.proofs.RequestsProofs.RequestInvariant.{prefix_timely}
use Rattle.sc_live_answers.proofs.LedGroupsProofs.GuidedGroups.{named_there}
use Rattle.sc_live_answers.proofs.LinesProofs.Setting as quiet_of
use Rattle.sc_live_answers.proofs.LinesProofs.Frames.{nodes_numbered}

-- ---- no order's work stands at a replica that serves requests alone

call_works : (begun : Requests) (frame : Frame) (command : Command) → IsPlainCommand begun frame command → work_by command ≡ None
call_works begun frame (Call client seq op) p = refl
call_works begun frame Noop p = refl
call_works begun frame _ p = absurd p

calls_work : (begun : Requests) (frame : Frame) (backlog : List Command) → Each (IsPlainCommand begun frame) backlog → works_in backlog ≡ []
calls_work begun frame [] p = refl
calls_work begun frame (call ∷ backlog) p = ap (λ o. listed o ++ works_in backlog) (call_works begun frame call p.0) ∙ calls_work begun frame backlog p.1

flights_work : (begun : Requests) (frame : Frame) (flights : List (Flight Command)) → Each (IsPlainFlight begun frame) flights → works_flying flights ≡ []
flights_work begun frame [] p = refl
flights_work begun frame (flight ∷ flights) p = ap (λ o. listed o ++ works_flying flights) (call_works begun frame flight.value p.0.is_call) ∙ flights_work begun frame flights p.1

ready_work : (begun : Requests) (frame : Frame) (ready : List (ℕ × Command)) → Each (λ entry. IsPlainCommand begun frame entry.1) ready → works_ready ready ≡ []
ready_work begun frame [] p = refl
ready_work begun frame (entry ∷ ready) p = ap (λ o. listed o ++ works_ready ready) (call_works begun frame entry.1 p.0) ∙ ready_work begun frame ready p.1

plain_works : (begun : Requests) (frame : Frame) (me : ℕ) (r : ReplicaState) → r.running ≡ true → IsPlainAt begun frame me r → works r ≡ []
plain_works begun frame me r runs (inr left) = absurd (both_ways r.running left.follower.stopped runs)
plain_works begun frame me r runs (inl p) = by p.1
  where
    by : IsSettled begun frame me r → works r ≡ []
    by (inr follows) = absurd (both_ways r.running follows.1.stopped runs)
    by (inl leads) =
        let l = leads.1.leader in
        ap (λ w. works_in w ++ (works_in r.backlog ++ (works_flying r.leader.flights ++ works_ready r.ready))) p.0.acts
        ∙ (ap (λ w. w ++ (works_flying r.leader.flights ++ works_ready r.ready)) (calls_work begun frame r.backlog l.backlog)
        ∙ (ap (λ w. w ++ works_ready r.ready) (flights_work begun frame r.leader.flights l.flights) ∙ ready_work begun frame r.ready l.ready))

-- one that runs has the state of its frame
plain_core : (begun : Requests) (frame : Frame) (me : ℕ) (r : ReplicaState) → r.running ≡ true → IsPlainAt begun frame me r → r.group.core ≡ frame.core
plain_core begun frame me r runs (inr left) = absurd (both_ways r.running left.follower.stopped runs)
plain_core begun frame me r runs (inl p) = p.0.group.core_is

-- ---- the replicas after requests

module _ (all_bounded : ValidScenariosAreBounded) (found_law : PrefixesAreFound) (words : ℕ → ℕ → ℕ × ℕ) (scenario : Scenario) (first : Base) (far sends : ℕ) (journal quiet after : Rows) (calm : IsCalmJournal words scenario journal)
    (asked : IsAskedSince words scenario first far sends journal quiet after) where
  abbrev all : List (Seat Player)
  all = births as_nodes scenario

  abbrev set : Setting
  set = setting_of words scenario far sends quiet

  abbrev rows : Rows
  rows = quiet ++ after

  found : IsFoundPrefix words scenario journal (quiet ++ after)
  found = found_law words scenario journal (quiet ++ after) calm asked.prefix

  -- a replica that is seen is its node's, which is as requests leave it
  record IsAskedAt (name : Draw) (who : ℕ) (r : ReplicaState) : Type 0 where
    asking : IsAskingNode scenario set (quiet ++ after) who
    here : replica_of name asking.node.replicas ≡ Some r

  asked_at : (name : Draw) (who : ℕ) (r : ReplicaState) → view_at all rows name who ≡ Some r → IsAskedAt name who r
  asked_at name who r e =
      let at : replicas_after scenario rows name who ≡ Some r = found.views name who ∙ e in
      let home = found.homes name who (r, at) in
      let n = asked.requested.asking.nodes who home.0 home.1 in
      record {
        asking = n;
        here = sym (ap (λ (player : Player). replica_of name (replicas_of player)) n.fact)
            ∙ (sym (ap (λ b. cond b (replica_of name (replicas_of (value player_table (node_seat as_nodes scenario.groups scenario.policy who) rows))) None) (nodes_numbered all_bounded scenario calm.valid who home.0 home.1)) ∙ at);
      }

  -- one that runs leads a group that stands
  record IsPlainlyLed (name : Draw) (r : ReplicaState) : Type 0 where
    frame : Frame
    among : Among frame set.frames
    named : frame.core.id ≡ name
    at : ℕ
    plain : IsPlainAt (IsBegun scenario (quiet ++ after)) frame at r

  led_at : (name : Draw) (who : ℕ) (r : ReplicaState) → view_at all rows name who ≡ Some r → r.running ≡ true → IsPlainlyLed name r
  led_at name who r e runs =
      let a = asked_at name who r e in
      let n = a.asking in
      let f = n.calm.runs name r a.here runs in
      record {
        frame = f.0;
        among = f.1;
        named = f.2;
        at = n.node.me;
        plain = n.calm.plain.replicas f.0 r f.1 (subst (λ x. replica_of x n.node.replicas ≡ Some r) (sym f.2) a.here);
      }

  -- one that does not knows where its group went, or another
  stopped_at : (name : Draw) (who : ℕ) (r : ReplicaState) → view_at all rows name who ≡ Some r → r.running ≡ false → KnowsBetter set name r r.group.core.gone
  stopped_at name who r e off = (let a = asked_at name who r e in a.asking.calm.stops name r a.here off)

  pub none_work : (name : Draw) (who : ℕ) (r : ReplicaState) → view_at all rows name who ≡ Some r → r.running ≡ true → works r ≡ []
  none_work name who r e runs = (let l = led_at name who r e runs in plain_works (IsBegun scenario rows) l.frame l.at r runs l.plain)

  module _ (fact : IsSetting set) where
    pub none_goes : NoGroupEnds scenario quiet (quiet ++ after)
    none_goes name node r into at went = elim (cases_Bool r.running) [
      | inl runs ↦ (
          let l = led_at name node r view runs in
          let stands : r.group.core.gone ≡ None = ap (λ (c : Core). c.gone) (plain_core (IsBegun scenario rows) l.frame l.at r runs l.plain) ∙ (fact.are l.frame l.among).stands in
          absurd (none-some into (sym stands ∙ went)))
      | inr off ↦ (let h = subst (KnowsBetter set name r) went (stopped_at name node r view off) in (h.node, h.r, into, h.is_there, h.went))
    ]
      where
        view : view_at all rows name node ≡ Some r
        view = sym (found.views name node) ∙ at

    -- a group that has a replica had one in the quiet
    pub was_there : (name : Draw) → IsThere all (quiet ++ after) name → IsThere all quiet name
    was_there name there = elim (cases_Bool there.1.running) [
      | inl runs ↦ (let l = led_at name there.0 there.1 there.2 runs in let h = fact.leads l.frame l.among in back l.frame.lead h.r (subst (λ n. set.at n l.frame.lead ≡ Some h.r) l.named h.is_there))
      | inr off ↦ by there.1.group.core.gone (stopped_at name there.0 there.1 there.2 off)
    ]
      where
        back : (node : ℕ) (r : ReplicaState) → replicas_after scenario quiet name node ≡ Some r → IsThere all quiet name
        back node r e = (node, r, sym ((found_law words scenario journal quiet calm asked.rests.prefix).views name node) ∙ e)

        by : (o : Option Route) → KnowsBetter set name there.1 o → IsThere all quiet name
        by (Some into) h = back h.node h.r h.is_there
        by None k = back k.0 k.2.has.r k.2.has.is_there

-- ---- it begins so

-- after some rows that begin at a quiet prefix that rests, what is kept of groups
record IsHeld (words : ℕ → ℕ → ℕ × ℕ) (scenario : Scenario) (first : Base) (journal quiet : Rows) (rests : RestsAt words scenario first journal quiet) (rows : Rows) : Type 0 where
  sent : AreSent words scenario journal rows
  rising : (base : Base) (among : Among base (groups_at as_nodes scenario.groups journal)) → IsRisingOn (logged_sets as_nodes base journal) (slot_leaders_at as_nodes scenario base journal) words (births as_nodes scenario) rows base (sent base among).course
  ballots : (base : Base) (among : Among base (groups_at as_nodes scenario.groups journal)) → IsBallotSince (rests.sent base among).course (sent base among).course

pub begin_asked : RestingPrefixesAreKnown → RequestsBegin → RequestsKeepBallots → NoMailForStrangers → RequestsBeginAsked
begin_asked known_law begin_law ballots_law no_law words scenario first others far sends journal quiet calm groups rests room =
    let known = known_law words scenario first journal quiet far calm rests room in
    let q : IsQuietPrefix words scenario journal quiet = record { calm = calm; begins = rests.prefix; quiet = rests.calm; sent = rests.sent } in
    let held : IsHeld words scenario first journal quiet rests quiet = record {
      sent = rests.sent;
      rising = rests.rising;
      ballots = λ base among. ballots_law.begins words (logged_sets as_nodes base journal) (over_at as_nodes base journal) (slot_leaders_at as_nodes scenario base journal) scenario quiet base (rests.sent base among) (quiet_marks no_law words scenario journal quiet q base.core.id);
    } in
    let then = subst (IsHeld words scenario first journal quiet rests) (sym (append-nil quiet)) held in
    let begun = begin_law words scenario first others far sends journal quiet calm groups rests known in (
      record {
        rests = rests;
        known = known;
        prefix = subst (IsPrefixOf journal) (sym (append-nil quiet)) rests.prefix;
        requested = begun.0;
        sent = then.sent;
        rising = then.rising;
        ballots = then.ballots;
      },
      begun.1,
    )

-- ---- each row keeps it

module _ (all_bounded : ValidScenariosAreBounded) (found_law : PrefixesAreFound) (few_law : SlotsAreLeft) (stay_law : RequestsStay) (young_law : RequestsLeaveYoung) (next_law : NextRowsAreSent) (rise_law : NextRowsRise) (ballots_law : RequestsKeepBallots)
    (words : ℕ → ℕ → ℕ × ℕ) (scenario : Scenario) (first : Base) (others : List Base) (far sends : ℕ) (journal quiet after : Rows) (seat : Seat Player) (event : Event OrderLine) (calm : IsCalmJournal words scenario journal) (groups : scenario.groups ≡ first ∷ others)
    (asked : IsAskedSince words scenario first far sends journal quiet after) (prefix : IsPrefixOf journal (with_event (quiet ++ after) seat event)) (seated : IsSeat (births as_nodes scenario) seat)
    (in_order : IsInOrder (players words (births as_nodes scenario)) (quiet ++ after) seat.who event) where
  abbrev s : System Player Mail OrderLine
  s = players words (births as_nodes scenario)

  abbrev row : Row Mail OrderLine
  row = row_of player_table seat (quiet ++ after) event

  timely : AreInTime s (with_event (quiet ++ after) seat event)
  timely = prefix_timely words scenario journal (with_event (quiet ++ after) seat event) calm prefix

  steps : (base : Base) (among : Among base (groups_at as_nodes scenario.groups journal))
      → IsSentStep (logged_sets as_nodes base journal) (over_at as_nodes base journal) (slot_leaders_at as_nodes scenario base journal) words (births as_nodes scenario) (quiet ++ after) seat event base (asked.sent base among).course
  steps base among =
      next_law words scenario journal base (journal_group words scenario journal calm base among) calm.timely (journal_few few_law words scenario journal calm base) (quiet ++ after) prefix.more seat event prefix.fact seated (asked.sent base among)
      (young_law words scenario first others far sends journal quiet after base calm groups asked.rests asked.prefix asked.known asked.requested among)

  held : IsHeld words scenario first journal quiet asked.rests (with_event (quiet ++ after) seat event)
  held = record {
    sent = λ base among. (steps base among).through;
    rising = λ base among.
        rise_law words (logged_sets as_nodes base journal) (over_at as_nodes base journal) (slot_leaders_at as_nodes scenario base journal) scenario (quiet ++ after) seat event base timely seated (asked.sent base among) (steps base among) (asked.rising base among);
    ballots = λ base among.
        ballots_law.goes_on words (logged_sets as_nodes base journal) (over_at as_nodes base journal) (slot_leaders_at as_nodes scenario base journal) scenario (quiet ++ after) seat event base (asked.rests.sent base among).course timely seated (asked.sent base among) (steps base among)
        (λ r e runs. none_work all_bounded found_law words scenario first far sends journal quiet after calm asked base.core.id seat.who r e runs) (asked.ballots base among);
  }

  stays : IsAskedSince words scenario first far sends journal quiet (after ++ row ∷ [])
  stays =
      let whole = append_assoc quiet after (row ∷ []) in
      let then = subst (IsHeld words scenario first journal quiet asked.rests) whole held in
      record {
        rests = asked.rests;
        known = asked.known;
        prefix = subst (IsPrefixOf journal) whole prefix;
        requested = stay_law words scenario first others far sends journal quiet after seat event calm groups asked.rests asked.known asked.requested asked.prefix seated in_order;
        sent = then.sent;
        rising = then.rising;
        ballots = then.ballots;
      }

pub stay_asked : ValidScenariosAreBounded → PrefixesAreFound → SlotsAreLeft → RequestsStay → RequestsLeaveYoung → NextRowsAreSent → NextRowsRise → RequestsKeepBallots → RequestsStayAsked
stay_asked = stays

-- so does each row of the journal that gives no order
pub rows_asked : RequestsStayAsked → AskedRowsGoOn
rows_asked stay_law words scenario first others far sends journal quiet after row calm groups asked prefix untold =
    let s : System Player Mail OrderLine = players words (births as_nodes scenario) in
    let then : IsPrefixOf journal ((quiet ++ after) ++ row ∷ []) = subst (IsPrefixOf journal) (sym (append_assoc quiet after (row ∷ []))) prefix in
    let c = (last_in_time s (quiet ++ after) row (prefix_timely words scenario journal ((quiet ++ after) ++ row ∷ []) calm then)).0 in
    let told : is_told c.event ≡ false = ap (λ (x : Row Mail OrderLine). is_told x.event) (sym c.row_is) ∙ untold in
    subst (λ (x : Row Mail OrderLine). IsAskedSince words scenario first far sends journal quiet (after ++ x ∷ [])) (sym c.row_is)
    (stay_law words scenario first others far sends journal quiet after c.seat c.event calm groups asked (subst (λ (x : Row Mail OrderLine). IsPrefixOf journal ((quiet ++ after) ++ x ∷ [])) c.row_is then) c.born
    (untold_in_order s (quiet ++ after) c.seat.who c.event told c.calm))

pub asked_find : SentNodesMayPump → RequestsFindCalm → AskedRowsFindCalm
asked_find pump_law find_law words scenario first others far sends journal quiet after seat event calm groups asked seated in_order own near =
    find_law words scenario first others far sends journal quiet after seat event calm groups asked.rests asked.known asked.requested asked.prefix seated in_order own (pump_law words scenario journal (quiet ++ after) calm asked.prefix asked.sent) near

-- ---- the groups stay the same, and the journal rests again

module _ (all_bounded : ValidScenariosAreBounded) (frames_law : QuietJournalsHaveFrames) (hints_law : ChartHintsRise) (ask_law : QuietJournalsAsk) (cuts_law : QuietGroupsHaveCuts) (round_law : StandingGroupsAreRound) (linked_law : QuietSettingsAreLinked) (found_law : PrefixesAreFound)
    (words : ℕ → ℕ → ℕ × ℕ) (scenario : Scenario) (first : Base) (others : List Base) (far sends : ℕ) (journal quiet after : Rows) (calm : IsCalmJournal words scenario journal) (groups : scenario.groups ≡ first ∷ others)
    (asked : IsAskedSince words scenario first far sends journal quiet after) where
  pub is_setting : IsSetting (setting_of words scenario far sends quiet)
  is_setting = quiet_of.is_setting all_bounded frames_law hints_law ask_law cuts_law round_law linked_law words scenario first others far sends journal quiet calm groups asked.rests asked.known

  module _ (last_law : ReplicasLast) (name : Draw) where
    goes_on_there : IsThere (births as_nodes scenario) quiet name → IsThere (births as_nodes scenario) (quiet ++ after) name
    goes_on_there there = (let later = last_law words scenario quiet after name there.0 there.1 (prefix_timely words scenario journal (quiet ++ after) calm asked.prefix) there.2 in (there.0, later.0, later.1))

    same_groups : (IsThere (births as_nodes scenario) (quiet ++ after) name → IsThere (births as_nodes scenario) quiet name) × (IsThere (births as_nodes scenario) quiet name → IsThere (births as_nodes scenario) (quiet ++ after) name)
    same_groups = (was_there all_bounded found_law words scenario first far sends journal quiet after calm asked is_setting name, goes_on_there)

  module _ (no_law : NoMailForStrangers) (free_law : StillPrefixesAreFree) (turn_law : PrefixesStayInTurn) (seen_law : RoundsAreSeen) (leave_law : RequestsLeaveResting) (still : is_quiet (players words (births as_nodes scenario)) (quiet ++ after) ≡ true)
      (errands : Each (GoesToActor words (births as_nodes scenario)) (mails (quiet ++ after))) where
    abbrev rests : RestsAt words scenario first journal quiet
    rests = asked.rests

    q : IsQuietPrefix words scenario journal quiet
    q = record { calm = calm; begins = asked.rests.prefix; quiet = asked.rests.calm; sent = asked.rests.sent }

    prefix : IsQuietPrefix words scenario journal (quiet ++ after)
    prefix = record { calm = calm; begins = asked.prefix; quiet = still; sent = asked.sent }

    -- a group's ballot has the round that it had
    same_round : (base : Base) (among : Among base (groups_at as_nodes scenario.groups journal)) → (asked.sent base among).course.ballot.round ≡ (rests.sent base among).course.ballot.round
    same_round base among =
        let b = asked.ballots base among in
        elim (cases_Bool (rests.sent base among).course.running) [
          | inl runs ↦ ap (λ (x : Ballot). x.round) (b.0 runs).0
          | inr off ↦ ap (λ (x : Ballot). x.round) (b.1 off).ballot
        ]

    more_orders : orders quiet ≤ orders (quiet ++ after)
    more_orders = (let sum = sum_by-append (λ (x : Row Mail OrderLine). cond (is_told x.event) 1 0) quiet after in omega (arith, sum))

    few_rounds : (name : Draw) (node : ℕ) (r : ReplicaState) → view_at (births as_nodes scenario) (quiet ++ after) name node ≡ Some r → r.top.round ≤ orders (quiet ++ after) + 1
    few_rounds name node r e =
        let g = named_there found_law words scenario journal (quiet ++ after) calm asked.prefix name (node, r, e) in
        let here : view_at (births as_nodes scenario) (quiet ++ after) g.0.core.id node ≡ Some r = ap (λ n. view_at (births as_nodes scenario) (quiet ++ after) n node) g.2 ∙ e in
        let top = seen_law.most (logged_sets as_nodes g.0 journal) (over_at as_nodes g.0 journal) (slot_leaders_at as_nodes scenario g.0 journal) words (births as_nodes scenario) (quiet ++ after) g.0 (asked.sent g.0 g.1) node r here in
        let was = seen_law.quiet words (logged_sets as_nodes g.0 journal) (over_at as_nodes g.0 journal) (slot_leaders_at as_nodes scenario g.0 journal) scenario quiet g.0 (rests.sent g.0 g.1) (quiet_marks no_law words scenario journal quiet q g.0.core.id)
        (λ there. rests.members g.0 g.1 there) (orders quiet + 1) (omega arith) (λ n x v. (rests.rounds g.0.core.id n x v).1) in
        let same = same_round g.0 g.1 in
        let more = more_orders in
        omega (arith, top, was, same, more)

    in_turn : (later : Draw → ℕ) × GoInTurn (names_at (births as_nodes scenario) (quiet ++ after)) (all_replicas (births as_nodes scenario) (quiet ++ after)) later
    in_turn = turn_law words scenario journal quiet after rests.turn q (free_law words scenario journal quiet q rests.still) prefix (none_goes all_bounded found_law words scenario first far sends journal quiet after calm asked is_setting) rests.turns

    rests_again : RestsAt words scenario first journal (quiet ++ after)
    unfolding prefix
    rests_again = leave_law words scenario first others far sends journal quiet after groups rests asked.known asked.requested prefix (record {
      errands = errands;
      rounds = few_rounds;
      rising = asked.rising;
      turn = in_turn.0;
      turns = in_turn.1;
    })

pub keep_groups : ValidScenariosAreBounded → QuietJournalsHaveFrames → ChartHintsRise → QuietJournalsAsk → QuietGroupsHaveCuts → StandingGroupsAreRound → QuietSettingsAreLinked → PrefixesAreFound → ReplicasLast → RequestsKeepGroups
keep_groups all_bounded frames_law hints_law ask_law cuts_law round_law linked_law found_law last_law words scenario first others far sends journal quiet after calm groups asked name =
    same_groups all_bounded frames_law hints_law ask_law cuts_law round_law linked_law found_law words scenario first others far sends journal quiet after calm groups asked last_law name

pub rest_again : ValidScenariosAreBounded → QuietJournalsHaveFrames → ChartHintsRise → QuietJournalsAsk → QuietGroupsHaveCuts → StandingGroupsAreRound → QuietSettingsAreLinked → PrefixesAreFound
    → NoMailForStrangers → StillPrefixesAreFree → PrefixesStayInTurn → RoundsAreSeen → RequestsLeaveResting → RequestsRestAgain
rest_again all_bounded frames_law hints_law ask_law cuts_law round_law linked_law found_law no_law free_law turn_law seen_law leave_law words scenario first others far sends journal quiet after calm groups asked still errands =
    rests_again all_bounded frames_law hints_law ask_law cuts_law round_law linked_law found_law words scenario first others far sends journal quiet after calm groups asked no_law free_law turn_law seen_law leave_law still errands
