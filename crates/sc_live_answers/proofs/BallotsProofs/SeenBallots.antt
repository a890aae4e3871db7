-- Each ballot that a node of a group has promised, is asked to promise, or is named in a refusal was seen by its own node, after one row more.
use Rattle.std.proofs.Common.{◌≡◌, ℕ, zero, suc, ◌+◌, eqb, true, false, List, [], ◌∷◌, ◌++◌, Option, Some, None, inl, inr, refl, sym, ◌∙◌, ap, subst}
use Rattle.std.specs.Option.{option_map}
use Rattle.std.proofs.lemmas.Bool.{cases_eq}
use Rattle.sc_base.specs.Definitions.{Each, is_member}
use Rattle.sc_node_table.specs.Values.{Ballot, Draw, Base, OrderLine, Mail, MailBody, Prepare, Promise, Accept, Nack, Node, Seat, Event, Deliver, Tick as TickEvent, Go, Input, Got, Row}
use Rattle.sc_actor.specs.declared.rows.Event.TheVariants.{Told}
use Rattle.sc_actor.specs.declared.rows.Input.TheVariants.{Tick}
use Rattle.sc_actor.specs.Definitions.{mails, numbered, value, acted, input_of, row_of}
use Rattle.sc_actor.proofs.Lemmas.{mails-snoc}
use Rattle.sc_law_groups.proofs.GroupProofs.GroupLemmas.{number_among}
use Rattle.sc_live_orderly.specs.OrderlyDefinitions.{IsCalmEvent, AreInTime}
use Rattle.sc_live_orderly.proofs.OrderlyLemmas.{in_time_before, in_time_tidy, takes_first, is_born-from}
use Rattle.sc_words.specs.paxos.PaxosDefinitions.{below, IsAtLeast}
use Rattle.sc_words.proofs.PaxosProofs.PaxosLemmas.{at_least_itself, at_least_trans, same_from_at_least, Each-among, Each-append, Each-weaker}
use Rattle.sc_scenario.specs.declared.scenario.scenarios.Scenario.{Scenario}
use Rattle.sc_node_table.specs.NodeDefinitions.{NodeState, replica_of, group_of_mail, ReplicaState, listed, first_ballot}
use Rattle.sc_meaning.specs.sound.SoundDefinitions.{Player, player_table, births, as_nodes}
use Rattle.sc_law_walks.proofs.WalkLemmas.{either_way}
use Rattle.sc_live_steps.specs.calm.CalmDefinitions.{players, Rows}
use Rattle.sc_live_steps.specs.following.FollowingDefinitions.{Mark, Asks, Votes, Teaches, Prepares, Promises, promise_by, pledged, mark_of, AreFit, Course, Progress, Sets, members_at, SlotLeaders, IsRow, answered, welcome, reported_of, taught_from, IsOffer, marks_for}
use Rattle.sc_live_steps.proofs.FollowingProofs.FollowingLemmas.{count-pledged, same_mark, last_promise as last_pledged}
use Rattle.sc_live_journals.specs.rows.RowDefinitions.{view_at, marks_at, taken_mark, promise_in, progress_at, IsOwnMail, IsOwnAsking, led_course, IsSeat, with_event}
use Rattle.sc_live_journals.proofs.RowsProofs.RowLemmas.{rows_are, ballots_own, births_alone, view_others, view_was, found_name}
use Rattle.sc_live_journals.specs.groups.GroupDefinitions.{IsGroupRow, RowPasses, RowRests, RowTakes, RowMakes, RowLeads, RowElects, IsLedStep, Ends, IsWellLed}
use Rattle.sc_live_journals.proofs.GroupsProofs.GroupLemmas.{replicas_kept, scenarios_kept_born}
use Rattle.sc_live_journals.proofs.MailProofs.MailLemmas.{replicas_last}
use Rattle.sc_live_answers.specs.AnswerDefinitions.{top_in, IsSeen, AsksSeen, RefusesSeen}
use Rattle.sc_live_answers.specs.SeenBallots.{AreSeen}
use Rattle.sc_live_answers.proofs.BallotsProofs.HintedMarks.{pledged_rises}
use Rattle.sc_live_answers.proofs.BallotsProofs.Refusals.{IsRefusal, AreSaid}
use Rattle.sc_live_answers.proofs.BallotsProofs.PlayerRefusals.{MayRefuse, input_said}
use Rattle.sc_live_journals.proofs.RowsProofs.OwnGroupMail.{Refuses}
use Rattle.std.proofs.lemmas.Option.{same_Some}

-- a refusal that an event delivers to a replica of the group names no later ballot than that saw
abbrev pub RefusesOld : List (Seat Player) → Rows → Seat Player → Event OrderLine → Base → Type 0
RefusesOld births rows seat event base =
    (number : ℕ) (mail : Mail) (promised : Ballot) (r : ReplicaState) → event ≡ Deliver number → numbered (mails rows) number ≡ Some mail → mail.body ≡ Nack base.core.id promised → view_at births rows base.core.id seat.who ≡ Some r → below r.top promised ≡ false

-- ---- lists

module _ (births : List (Seat Player)) (rows : Rows) (base : Base) where
  abbrev Seen : Ballot → Type 0
  Seen ballot = IsSeen births rows base ballot

  abbrev AllSeen : List Mark → Type 0
  AllSeen marks = Each (AsksSeen births rows base) marks

  pub mark_seen : (promise : Ballot) (mark : Mark) → Seen promise → AsksSeen births rows base mark → Seen (promise_by promise mark)
  mark_seen promise (Prepares ballot) p a = a
  mark_seen promise _ p a = p

  -- what a node answers asks for no promise
  pub answered_seen : (node : ℕ) (promise : Ballot) (mark : Mark) (who : ℕ) → AllSeen (answered node promise mark who)
  answered_seen node promise (Asks ballot slot) who = either_way AllSeen (eqb who ballot.node) (Votes node ballot slot ∷ []) [] (tt, tt) tt
  answered_seen node promise (Prepares ballot) who = either_way AllSeen _ (Promises node ballot ∷ []) [] (tt, tt) tt
  answered_seen node promise _ who = tt

  -- what a leader tells asks to promise its own ballot
  module _ (at : Sets) (course : Course) (own : IsSeen births rows base course.ballot) where
    welcome_seen : (slot : ℕ) → AllSeen (welcome course slot)
    welcome_seen slot = (tt, either_way AllSeen course.is_first [] (Prepares course.ballot ∷ []) tt (own, tt))

    told_seen : (slot who : ℕ) → AllSeen (reported_of at course slot who)
    told_seen slot who =
        either_way AllSeen (eqb who course.ballot.node) [] _ tt
        (either_way AllSeen (is_member (members_at at slot) who) (Teaches slot ∷ []) _ (tt, tt) (either_way AllSeen (is_member (members_at at (slot + 1)) who) (welcome course slot) [] (welcome_seen slot) tt))

    pub all_told_seen : (slot count who : ℕ) → AllSeen (taught_from at course slot count who)
    all_told_seen slot zero who = tt
    all_told_seen slot (suc more) who = Each-append (AsksSeen births rows base) (reported_of at course slot who) (taught_from at course (slot + 1) more who) (told_seen slot who) (all_told_seen (slot + 1) more who)

  offer_seen : (at : Sets) (course : Course) (from who : ℕ) (mark : Mark) → IsOffer at course from who mark → AsksSeen births rows base mark
  offer_seen at course from who (Asks ballot slot) o = tt
  offer_seen at course from who _ o = absurd o

  pub offers_seen : (at : Sets) (course : Course) (from who : ℕ) (marks : List Mark) → Each (IsOffer at course from who) marks → AllSeen marks
  offers_seen at course from who marks o = Each-weaker (IsOffer at course from who) (AsksSeen births rows base) (λ mark fact. offer_seen at course from who mark fact) marks o

module _ (words : ℕ → ℕ → ℕ × ℕ) (at : Sets) (over : Ends) (by : SlotLeaders) (scenario : Scenario) (rows : Rows) (seat : Seat Player) (event : Event OrderLine) (base : Base) (course : Course) (timely : AreInTime (players words (births as_nodes scenario)) (with_event rows seat event))
    (born : IsSeat (births as_nodes scenario) seat) (calm : IsCalmEvent (players words (births as_nodes scenario)) rows seat.who event) (was : IsWellLed at over by words (births as_nodes scenario) rows base course) (step : IsLedStep at over by words (births as_nodes scenario) rows seat event base course) where
  abbrev all : List (Seat Player)
  all = births as_nodes scenario

  abbrev name : Draw
  name = base.core.id

  abbrev then_ : Rows
  then_ = with_event rows seat event

  abbrev row : Row Mail OrderLine
  row = row_of player_table seat rows event

  abbrev now : Progress
  now = progress_at all rows base course

  abbrev after : Progress
  after = progress_at all then_ base step.later

  abbrev marks : ℕ → List Mark
  marks = marks_at (players words all) rows name

  abbrev marks_then : ℕ → List Mark
  marks_then = marks_at (players words all) then_ name

  abbrev sent_marks : ℕ → List Mark
  sent_marks who = marks_for name who row.sent

  row_in : IsRow now after seat.who (taken_mark name (mails rows) event) (λ who. marks_for name who row.sent) marks marks_then
  row_in = rows_are words all rows row base course step.later timely

  -- what the node of the row has promised after it
  promise_by_kind : (c : Course) → IsGroupRow at over by all rows seat event base course c → after.promise seat.who ≡ pledged (now.promise seat.who) (listed (taken_mark base.core.id (mails rows) event))
  promise_by_kind c (RowPasses same leaves) = (let i = leaves.idle course in i.promise ∙ ap (λ o. pledged (now.promise seat.who) (listed o)) (sym i.takes))
  promise_by_kind c (RowRests same r q row_ off still i) = i.promise ∙ ap (λ o. pledged (now.promise seat.who) (listed o)) (sym i.takes)
  promise_by_kind c (RowTakes same r q mark row_ took steps i) = i.promise ∙ ap (λ o. pledged (now.promise seat.who) (listed o)) (sym i.takes)
  promise_by_kind c (RowMakes same from slot state sets row_ took logs i) = i.promise ∙ ap (λ o. pledged (now.promise seat.who) (listed o)) (sym i.takes)
  promise_by_kind c (RowLeads r q row_ runs counts l same) = (let i = l.led.leads in i.promise ∙ sym (count-pledged (now.promise seat.who) (listed (taken_mark name (mails rows) event)) i.takes))
  promise_by_kind c (RowElects r q ballot row_ off e same) =
      (let i = e.self_election in i.promise ∙ (sym (last_pledged course.newest (now.promise seat.who) i.mark i.last) ∙ ap (λ o. pledged (now.promise seat.who) (listed o)) (sym i.takes)))

  pub promise_then : promise_in base (view_at (births as_nodes scenario) (with_event rows seat event) base.core.id seat.who) ≡ pledged (promise_in base (view_at (births as_nodes scenario) rows base.core.id seat.who)) (listed (taken_mark base.core.id (mails rows) event))
  promise_then = promise_by_kind step.later step.row

  -- it does not fall
  promise_rises : IsAtLeast (after.promise seat.who) (now.promise seat.who)
  promise_rises = subst (λ p. IsAtLeast p (now.promise seat.who)) (sym promise_then) (by_taken (taken_mark name (mails rows) event) refl)
    where
      by_taken : (o : Option Mark) → taken_mark base.core.id (mails rows) event ≡ o → IsAtLeast (pledged (now.promise seat.who) (listed o)) (now.promise seat.who)
      by_taken None e = at_least_itself (now.promise seat.who)
      by_taken (Some mark) e =
          let fit = subst (AreFit (now.next seat.who) (now.promise seat.who)) (row_in.takes ∙ ap (λ o. listed o ++ row_in.left) e) (was.followed.follows.fits seat.who) in
          pledged_rises (now.next seat.who) (now.promise seat.who) (mark ∷ []) (fit.0, tt)

  -- ---- what a node saw it saw after the row too

  tops_rise : (who : ℕ) → IsAtLeast (top_in base (view_at all then_ base.core.id who)) (top_in base (view_at all rows base.core.id who))
  tops_rise who = by_view (view_at all rows name who) refl
    where
      later_top : (q : ReplicaState) → view_at all (with_event rows seat event) base.core.id who ≡ Some q → view_at all rows base.core.id who ≡ None → IsAtLeast q.top (first_ballot base.core)
      later_top q viewed none = elim (cases_eq who seat.who) [
        | inr ne ↦ (let bad : None ≡ Some q = sym none ∙ (sym (view_others all rows row name who ne) ∙ viewed) in cc)
        | inl fact ↦ (let here : view_at all (with_event rows seat event) base.core.id seat.who ≡ Some q = ap (view_at all then_ name) (sym fact) ∙ viewed in
            let kept = (replicas_kept all then_ name seat.who q (scenarios_kept_born scenario) here).0 in
            let first : now.promise seat.who ≡ first_ballot base.core = ap (λ n. now.promise n) (sym fact) ∙ ap (promise_in base) none in
            let most : IsAtLeast q.acceptor.promised (first_ballot base.core) = subst (IsAtLeast q.acceptor.promised) first (subst (λ p. IsAtLeast p (now.promise seat.who)) (ap (promise_in base) here) promise_rises) in
            at_least_trans q.top q.acceptor.promised (first_ballot base.core) kept.1 most)
      ]

      by_later : (o : Option ReplicaState) → view_at all (with_event rows seat event) base.core.id who ≡ o → view_at all rows base.core.id who ≡ None → IsAtLeast (top_in base o) (first_ballot base.core)
      by_later None viewed none = at_least_itself (first_ballot base.core)
      by_later (Some q) viewed none = later_top q viewed none

      by_view : (o : Option ReplicaState) → view_at all rows base.core.id who ≡ o → IsAtLeast (top_in base (view_at all then_ base.core.id who)) (top_in base o)
      by_view None none = by_later (view_at all then_ name who) refl none
      by_view (Some r) e =
          let later = replicas_last words scenario rows (row ∷ []) name who r timely e in
          subst (λ o. IsAtLeast (top_in base o) r.top) (sym later.1) later.2.0

  grown : (ballot : Ballot) → IsSeen all rows base ballot → IsSeen all then_ base ballot
  grown ballot seen = at_least_trans (top_in base (view_at all then_ name ballot.node)) (top_in base (view_at all rows name ballot.node)) ballot (tops_rise ballot.node) seen

  mark_grown : (mark : Mark) → AsksSeen all rows base mark → AsksSeen all then_ base mark
  mark_grown (Prepares ballot) a = grown ballot a
  mark_grown _ a = tt

  marks_grown : (ms : List Mark) → Each (AsksSeen all rows base) ms → Each (AsksSeen all then_ base) ms
  marks_grown ms a = Each-weaker (AsksSeen all rows base) (AsksSeen all then_ base) (λ mark s. mark_grown mark s) ms a

  module _ (home : AreSeen words (births as_nodes scenario) rows base) where
    first_then : (who : ℕ) → IsAtLeast (top_in base (view_at all then_ base.core.id who)) (first_ballot base.core)
    first_then who = at_least_trans (top_in base (view_at all then_ name who)) (top_in base (view_at all rows name who)) (first_ballot base.core) (tops_rise who) (home.first who)

    -- ---- what is promised

    own_promised : IsSeen all then_ base (after.promise seat.who)
    own_promised = subst (IsSeen all then_ base) (sym promise_then) (by_taken (taken_mark name (mails rows) event) refl)
      where
        by_taken : (o : Option Mark) → taken_mark base.core.id (mails rows) event ≡ o → IsSeen all then_ base (pledged (now.promise seat.who) (listed o))
        by_taken None e = grown (now.promise seat.who) (home.promised seat.who)
        by_taken (Some mark) e =
            let first = subst (Each (AsksSeen all rows base)) (row_in.takes ∙ ap (λ o. listed o ++ row_in.left) e) (home.asked seat.who) in
            grown (promise_by (now.promise seat.who) mark) (mark_seen all rows base (now.promise seat.who) mark (home.promised seat.who) first.0)

    promised_then : (who : ℕ) → IsSeen all then_ base (after.promise who)
    promised_then who = elim (cases_eq who seat.who) [
      | inl fact ↦ subst (λ n. IsSeen all then_ base (after.promise n)) (sym fact) own_promised
      | inr ne ↦ subst (IsSeen all then_ base) (sym (row_in.promise who ne)) (grown (now.promise who) (home.promised who))
    ]

    -- ---- what is asked for

    -- a leader saw its own ballot
    lead_seen : (r : ReplicaState) → view_at all rows base.core.id seat.who ≡ Some r → r.running ≡ true → IsSeen all rows base course.ballot
    lead_seen r view runs =
        let given = was.followed.given.gives seat.who r view runs in
        let top : r.top ≡ course.ballot = ((replicas_kept all rows name seat.who r (scenarios_kept_born scenario) view).0.2 runs).0 ∙ given.0.led.may.ballot in
        let here : top_in base (view_at all rows base.core.id course.ballot.node) ≡ course.ballot = ap (λ n. top_in base (view_at all rows name n)) (sym given.1) ∙ (ap (top_in base) view ∙ top) in
        subst (λ t. IsAtLeast t course.ballot) (sym here) (at_least_itself course.ballot)

    sent_seen : (c : Course) → IsGroupRow at over by all rows seat event base course c → (who : ℕ) → Each (AsksSeen all then_ base) (sent_marks who)
    sent_seen c (RowPasses same leaves) who = subst (Each (AsksSeen all then_ base)) (sym ((leaves.idle course).sends who)) tt
    sent_seen c (RowRests same r q row_ off still i) who = subst (Each (AsksSeen all then_ base)) (sym (i.sends who)) tt
    sent_seen c (RowTakes same r q mark row_ took steps i) who = subst (Each (AsksSeen all then_ base)) (sym (i.sends who)) (answered_seen all then_ base seat.who (now.promise seat.who) i.mark who)
    sent_seen c (RowMakes same from slot state sets row_ took logs i) who = subst (Each (AsksSeen all then_ base)) (sym (i.sends who)) (answered_seen all then_ base seat.who (now.promise seat.who) i.mark who)
    sent_seen c (RowLeads r q row_ runs counts l same) who =
        let i = l.led.leads in
        let own = grown course.ballot (lead_seen r row_.was runs) in
        subst (Each (AsksSeen all then_ base)) (sym (i.sends who)) (Each-append (AsksSeen all then_ base) (taught_from at course course.newest i.executed who) (i.offers who) (all_told_seen all then_ base at course own course.newest i.executed who)
        (offers_seen all then_ base at (led_course l.led.bound course q.0) course.bound who (i.offers who) (i.asks who)))
    sent_seen c (RowElects r q ballot row_ off e same) who = elim (e.self_election.sends who) [
      | inl none ↦ subst (Each (AsksSeen all then_ base)) (sym none) tt
      | inr asks ↦ subst (Each (AsksSeen all then_ base)) (sym asks.1) (own, tt)
    ]
      where
        own : IsSeen all then_ base ballot
        own =
            let top : q.0.top ≡ ballot = ((replicas_kept all then_ name seat.who q.0 (scenarios_kept_born scenario) row_.fact).0.2 e.runs).0 ∙ e.leads.led.may.ballot in
            let here : top_in base (view_at all then_ base.core.id ballot.node) ≡ ballot = ap (λ n. top_in base (view_at all then_ name n)) e.self_election.mine ∙ (ap (top_in base) row_.fact ∙ top) in
            subst (λ t. IsAtLeast t ballot) (sym here) (at_least_itself ballot)

    asked_then : (who : ℕ) → Each (AsksSeen all then_ base) (marks_then who)
    asked_then who = elim (cases_eq who seat.who) [
      | inl fact ↦ subst (λ n. Each (AsksSeen all then_ base) (marks_then n)) (sym fact) own
      | inr ne ↦ subst (Each (AsksSeen all then_ base)) (sym (row_in.others who ne)) (Each-append (AsksSeen all then_ base) (marks who) (sent_marks who) (marks_grown (marks who) (home.asked who)) (sent_seen step.later step.row who))
    ]
      where
        left_seen : (o : Option Mark) → Each (AsksSeen all rows base) (listed o ++ row_in.left) → Each (AsksSeen all rows base) row_in.left
        left_seen None a = a
        left_seen (Some mark) a = a.1

        own : Each (AsksSeen all then_ base) (marks_then seat.who)
        own = subst (Each (AsksSeen all then_ base)) (sym row_in.own)
            (Each-append (AsksSeen all then_ base) row_in.left (sent_marks seat.who) (marks_grown row_in.left (left_seen (taken_mark name (mails rows) event) (subst (Each (AsksSeen all rows base)) row_in.takes (home.asked seat.who)))) (sent_seen step.later step.row seat.who))

    -- ---- what is refused

    -- a refusal of the group goes to the node of the ballot that it names
    abbrev May : Draw → ℕ → Ballot → Type 0
    May group to ballot = group ≡ base.core.id → (to ≡ ballot.node) × IsSeen (births as_nodes scenario) rows base ballot

    before : AreInTime (players words all) rows
    before = in_time_before (players words all) rows row timely

    -- one whose first mail is this refuses it
    module _ (number : ℕ) (mail : Mail) (r : ReplicaState) (event_is : event ≡ Deliver number) (sent_at : numbered (mails rows) number ≡ Some mail) (view : view_at (births as_nodes scenario) rows base.core.id seat.who ≡ Some r) (group : group_of_mail mail.body ≡ Some base.core.id) where
      own_mail : IsOwnMail mail
      own_mail = Each-among IsOwnMail (mails rows) mail (ballots_own words all rows (births_alone scenario) before) (number_among (mails rows) number mail sent_at)

      fit_first : (mark : Mark) → mark_of base.core.id mail.from mail.body ≡ Some mark → AreFit (now.next seat.who) r.acceptor.promised (mark ∷ row_in.left)
      fit_first mark e =
          let taken : taken_mark base.core.id (mails rows) event ≡ Some mark = ap (taken_mark name (mails rows)) event_is ∙ (ap (λ o. elim o [ None ↦ None | Some m ↦ mark_of name m.from m.body ]) sent_at ∙ e) in
          subst (λ o. AreFit (now.next seat.who) (promise_in base o) (mark ∷ row_in.left)) view (subst (AreFit (now.next seat.who) (now.promise seat.who)) (row_in.takes ∙ ap (λ o. listed o ++ row_in.left) taken) (was.followed.follows.fits seat.who))

      refused_by : (body : MailBody) → mail.body ≡ body → Refuses r.acceptor body → mail.from ≡ r.acceptor.promised.node
      refused_by (Prepare g ballot from_slot) e n =
          let named : g ≡ name = same_Some g name (sym (ap group_of_mail e) ∙ group) in
          let mark : mark_of base.core.id mail.from mail.body ≡ Some (Prepares ballot) = ap (mark_of name mail.from) e ∙ (ap (λ g_. mark_of name mail.from (Prepare g_ ballot from_slot)) named ∙ same_mark name (Prepares ballot)) in
          let same : ballot ≡ r.acceptor.promised = same_from_at_least ballot r.acceptor.promised (fit_first (Prepares ballot) mark).0.1 n in
          let own : mail.from ≡ ballot.node = subst (IsOwnAsking mail.from) e own_mail in
          own ∙ ap (λ (b : Ballot). b.node) same
      refused_by (Accept g ballot slot command) e n =
          let named : g ≡ name = same_Some g name (sym (ap group_of_mail e) ∙ group) in
          let mark : mark_of base.core.id mail.from mail.body ≡ Some (Asks ballot slot) = ap (mark_of name mail.from) e ∙ (ap (λ g_. mark_of name mail.from (Accept g_ ballot slot command)) named ∙ same_mark name (Asks ballot slot)) in
          let own : mail.from ≡ ballot.node = subst (IsOwnAsking mail.from) e own_mail in
          own ∙ ap (λ (b : Ballot). b.node) (fit_first (Asks ballot slot) mark).0.2
      refused_by (Promise g ballot reports) e n = absurd n
      refused_by _ e n = absurd n

    -- what an event gives is its mail
    abbrev IsDelivered : Mail → Type 0
    IsDelivered mail = (number : ℕ) × (event ≡ Deliver number) × (numbered (mails rows) number ≡ Some mail)

    delivered : (e : Event OrderLine) (mail : Mail) → event ≡ e → input_of (mails rows) e ≡ Some (Got mail) → IsDelivered mail
    delivered (Deliver number) mail fact got = got_by (numbered (mails rows) number) refl got
      where
        got_by : (o : Option Mail) → numbered (mails rows) number ≡ o → ◌≡◌ {A = Option (Input Mail OrderLine)} (option_map Got o) (Some (Got mail)) → IsDelivered mail
        got_by None at_ g = cc
        got_by (Some other) at_ g = (let same : other ≡ mail = cc in (number, fact, at_ ∙ ap Some same))
    delivered TickEvent mail fact got = cc
    delivered _ mail fact got = cc

    may_refuse : (node : NodeState) (mail : Mail) → value player_table seat rows ≡ Node node → input_of (mails rows) event ≡ Some (Got mail) → MayRefuse May node mail.from mail.body
    may_refuse node mail fact got = λ group r g here n named.
        let d = delivered event mail refl got in
        let same : group ≡ name = sym (found_name group node.replicas r here) ∙ named in
        let view : view_at (births as_nodes scenario) rows base.core.id seat.who ≡ Some r = view_was all rows seat Go name born (Node node) fact ∙ (ap (λ g_. replica_of g_ node.replicas) (sym same) ∙ here) in
        let promise : now.promise seat.who ≡ r.acceptor.promised = ap (promise_in base) view in
        (refused_by d.0 mail r d.1 d.2 view (g ∙ ap Some same) mail.body refl n, subst (IsSeen all rows base) promise (home.promised seat.who))

    no_tick : (e : Event OrderLine) → IsCalmEvent (players words all) rows seat.who e → (input : Input Mail OrderLine) → input_of (mails rows) e ≡ Some input → input ≡ Tick → ⊥
    no_tick (Deliver number) c input got t = got_by (numbered (mails rows) number) got
      where
        got_by : (o : Option Mail) → ◌≡◌ {A = Option (Input Mail OrderLine)} (option_map Got o) (Some input) → ⊥
        got_by None g = cc
        got_by (Some mail) g = cc
    no_tick Go c input got t = cc
    no_tick (Told line) c input got t = cc
    no_tick _ c input got t = absurd c

    row_said : AreSaid May row.sent
    row_said = by_input (input_of (mails rows) event) refl
      where
        by_input : (o : Option (Input Mail OrderLine)) → input_of (mails rows) event ≡ o → AreSaid May (acted player_table (value player_table seat rows) o).1
        by_input None e = tt
        by_input (Some input) e = input_said May (value player_table seat rows) input (no_tick event calm input e) (λ node mail fact got. may_refuse node mail fact (e ∙ ap Some got))

    refusal_then : (mail : Mail) → IsRefusal May mail.to mail.body → RefusesSeen all then_ base mail
    refusal_then mail said = λ promised body. (let m : May base.core.id mail.to promised = subst (IsRefusal May mail.to) body said in let k = m refl in (k.0, grown promised k.1))

    refused_grown : (mail : Mail) → RefusesSeen all rows base mail → RefusesSeen all then_ base mail
    refused_grown mail seen = λ promised body. (let k = seen promised body in (k.0, grown promised k.1))

    refused_then : Each (RefusesSeen all then_ base) (mails then_)
    refused_then = subst (Each (RefusesSeen all then_ base)) (sym (mails-snoc rows row)) (Each-append (RefusesSeen all then_ base) (mails rows) row.sent
        (Each-weaker (RefusesSeen all rows base) (RefusesSeen all then_ base) refused_grown (mails rows) home.refused)
        (Each-weaker (λ (mail : Mail). IsRefusal May mail.to mail.body) (RefusesSeen all then_ base) refusal_then row.sent row_said))

    pub seen_then : AreSeen words (births as_nodes scenario) (with_event rows seat event) base
    seen_then = record { first = first_then; promised = promised_then; asked = asked_then; refused = refused_then }

    -- so a refusal that is delivered names no later ballot than its receiver saw
    pub refuses_old : RefusesOld (births as_nodes scenario) rows seat event base
    refuses_old number mail promised r event_is sent_at body view =
        let c : IsCalmEvent (players words all) rows seat.who (Deliver number) = subst (IsCalmEvent (players words all) rows seat.who) event_is calm in
        let f = takes_first (players words all) rows seat.who number (in_time_tidy (players words all) rows before) (is_born-from (players words all) seat.who seat born) c in
        let same : f.mail ≡ mail = same_Some f.mail mail (sym f.sent ∙ sent_at) in
        let to : mail.to ≡ seat.who = ap (λ (m : Mail). m.to) (sym same) ∙ f.receiver in
        let seen = Each-among (RefusesSeen all rows base) (mails rows) mail home.refused (number_among (mails rows) number mail sent_at) promised body in
        let here : top_in base (view_at all rows base.core.id promised.node) ≡ r.top = ap (λ n. top_in base (view_at all rows name n)) (sym seen.0 ∙ to) ∙ ap (top_in base) view in
        subst (λ t. IsAtLeast t promised) here seen.1
