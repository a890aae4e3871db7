-- Each delivery while an order is under way keeps all that holds then, and finds what keeps the journal calm.
use Rattle.std.proofs.Common.{◌≡◌, ◌⊎◌, ◌≤◌, ℕ, true, false, length, List, [], ◌∷◌, ◌++◌, Option, Some, None, inl, inr, refl, sym, ◌∙◌, ap, subst, arith, append_assoc}
use Rattle.sc_base.specs.Definitions.{Among, Each}
use Rattle.sc_node_table.specs.Values.{Draw, Command, Base, OrderLine, Mail, MailBody, Request, TxPrepare, TxVote, TxOutcome, TxElsewhere, TxWatch, TxWatched, Node, Client, Seat, Deliver, Row, Flight, Op}
use Rattle.sc_actor.specs.Definitions.{mails, numbered, value, System, row_of}
use Rattle.sc_live_orderly.specs.OrderlyDefinitions.{is_told, AreInTime}
use Rattle.sc_live_orderly.proofs.OrderlyLemmas.{count_push, is_born-from}
use Rattle.sc_scenario.specs.scenario.Definitions.{ValidScenariosAreBounded}
use Rattle.sc_scenario.specs.declared.scenario.scenarios.Scenario.{Scenario}
use Rattle.sc_group_table.specs.machine.MachineDefinitions.{applied}
use Rattle.sc_node_table.specs.NodeDefinitions.{NodeState, replica_of, group_of_mail, may_come, ReplicaState, name_of}
use Rattle.sc_meaning.specs.sound.SoundDefinitions.{groups_at, Player, player_table, births, as_nodes}
use Rattle.sc_live_steps.specs.calm.CalmDefinitions.{players, FindsCalm, Rows}
use Rattle.sc_actor.specs.declared.rows.Event.TheVariants.{Told}
use Rattle.sc_words.proofs.PaxosProofs.PaxosLemmas.{Each-from, Each-among, Each-weaker}
use Rattle.sc_live_steps.specs.orders.OrderDefinitions.{Stage}
use Rattle.sc_live_journals.specs.rows.RowDefinitions.{view_at, with_event}
use Rattle.sc_live_journals.proofs.RowsProofs.RowLemmas.{view_was}
use Rattle.sc_live_journals.specs.mail.MailDefinitions.{SlotsAreLeft, ReplicasLast, MailMayCome}
use Rattle.sc_live_journals.specs.logs.LogDefinitions.{ViewsAreReplicas, SlotsHaveRosters, logged_sets}
use Rattle.sc_live_answers.specs.AnswerDefinitions.{ReplicasRunLogs, IsUnsettled, IsNamedGuide, NewestStay, WellLedLeadAlone, IsOrdersRow, OrdersRowsFind, OrdersRowsMeet, IsSentStep, NextRowsAreSent, SentReplicas, IsNoRequest, IsPlainAt, over_at, slot_leaders_at, NextRowsRise, IsRisingOn, IsRoundSince, OrdersKeepRounds, PrefixesAreFound, NoMailForStrangers, IsCalmJournal, AreSent, ContinuesBy, IsNamedGroup, IsUnder, IsYoungAt, AllLeadAlone, IsKnownMail, OrderRowsFindCalm, ViewsAgree, ChildrenAreCreated, IsWorkingRow, ChildrenWereNowhere, IsUnanswered, YoungGroupsStay, AreSeen, IsTrueSince, LeadsSince, EntriesAreTrue, MailComesUnsettled, TakesSince, IsHinted, CoordinatorsAreHinted, HintedOrdersGoOn, AreSettled, CoordinatorsAreSettled, SettledOrdersGoOn, EndingGroupsGoOn, IsGoingSince, NamesStayFew, NoneWaits, AskedGroupsStood, ContinuesSince, TrueOrdersGoOn, IsGuidedRow, DeliveriesKeepWork, WorkStandsAlone, FlightsAreEntries, OrderErrandsGoToNodes, IsOfJournal, IsOrderedSince, DeliveriesKeepOrdered, TakersAreNodes, LawfulReplicasAreNamedOnce, IsTrueEntry, Does, HasNumber, LockNumber, IsRefusalSent, IsReported, IsGiven, IsOrderHeld, IsPrefixOf}
use Rattle.sc_live_journals.specs.scenes.SceneDefinitions.{IsThere, IsNowhere, AreUntouched, IsDelivered, FreshGroupsStay, FindsOrder, GoesBy, StageAfter, IsTaking, LeadsAlone, scene_at}
use Rattle.sc_live_steps.specs.entries.StageEntries.{IsEntry}
use Rattle.sc_live_journals.specs.charts.ChartDefinitions.{chart_at, quiet_prefix}
use Rattle.sc_live_plain.specs.PlainDefinitions.{replicas_after, DoHintsRise}
use Rattle.sc_live_plain.proofs.PlainLemmas.{each_numbered}
use Rattle.sc_client_table.specs.table.TableDefinitions.{Client as ClientState}
use Rattle.sc_live_answers.proofs.LedGroupsProofs.GuidedGroups as at_row
use Rattle.sc_live_answers.proofs.LedGroupsProofs.GuidedGroups.{AreQuietWhileYoung, named_there, lead_alone}
use Rattle.sc_live_answers.proofs.OrdersProofs.ClientsUnderOrders.{started_still, other_stays}
use Rattle.sc_live_answers.proofs.ReplicasProofs.PlayerReplicas.{place_of}
use Rattle.sc_live_answers.proofs.ErrandsProofs.SentMailGroups.{known_after}
use Rattle.sc_live_answers.proofs.OrdersProofs.HeldOrders.{AreLeaders, held_on, refusal_on}
use Rattle.sc_live_answers.proofs.OrdersProofs.HeldOrdersAtStart.{given_rows}
use Rattle.sc_live_answers.proofs.ChildrenProofs.UnusedNames.{order_unnamed}

-- mail that asks elsewhere, or any other
elsewhere_or : (body : MailBody) → ((tx coord : Draw) × (hint : Option ℕ) × (body ≡ TxElsewhere tx coord hint)) ⊎ ((tx coord : Draw) (hint : Option ℕ) → body ≡ TxElsewhere tx coord hint → ⊥)
elsewhere_or (TxElsewhere tx coord hint) = inl (tx, coord, hint, refl)
elsewhere_or (TxPrepare tx offer) = inr (λ tx_ coord hint e. cc)
elsewhere_or (TxVote tx coord part vote) = inr (λ tx_ coord_ hint e. cc)
elsewhere_or (TxOutcome tx part outcome) = inr (λ tx_ coord hint e. cc)
elsewhere_or (TxWatch tx watch) = inr (λ tx_ coord hint e. cc)
elsewhere_or (TxWatched tx coord part vote) = inr (λ tx_ coord_ hint e. cc)
elsewhere_or _ = inr (λ tx coord hint e. cc)

-- a body that is no request
no_request : (body : MailBody) → ((group : Draw) (client seq : ℕ) (op : Op) → body ≡ Request group client seq op → ⊥) → IsNoRequest body
no_request (Request group client seq op) none = none group client seq op refl
no_request _ none = tt

module _ (all_bounded : ValidScenariosAreBounded) (few_law : SlotsAreLeft) (logs_law : ReplicasRunLogs) (views_law : ViewsAreReplicas) (rosters_law : SlotsHaveRosters) (last_law : ReplicasLast) (next_law : NextRowsAreSent) (newest_law : NewestStay) (found_law : PrefixesAreFound) (no_law : NoMailForStrangers)
    (agree_law : ViewsAgree) (alone_law : WellLedLeadAlone) (plain_law : SentReplicas) (meets_law : OrdersRowsMeet) (finds_law : OrdersRowsFind) (rise_law : NextRowsRise) (rounds_law : OrdersKeepRounds) (nowhere_law : ChildrenWereNowhere) (created_law : ChildrenAreCreated) (fresh_law : FreshGroupsStay) (young_law : YoungGroupsStay) (unsettled_law : MailComesUnsettled) (asked_law : AskedGroupsStood) (true_law : TrueOrdersGoOn)
    (work_law : DeliveriesKeepWork) (stands_law : WorkStandsAlone) (calm_law : OrderRowsFindCalm) (settled_law : SettledOrdersGoOn) (settled_at : CoordinatorsAreSettled) (hinted_law : HintedOrdersGoOn) (hinted_at : CoordinatorsAreHinted) (entries_law : EntriesAreTrue) (flights_law : FlightsAreEntries) (come_law : MailMayCome) (once_law : LawfulReplicasAreNamedOnce) (takers_law : TakersAreNodes) (errands_law : OrderErrandsGoToNodes) (ending_groups_law : EndingGroupsGoOn) (waits_law : NoneWaits) (names_law : NamesStayFew) (words : ℕ → ℕ → ℕ × ℕ) (scenario : Scenario) (first : Base) (journal quiet rows : Rows) (seat : Seat Player) (number : ℕ) (calm : IsCalmJournal words scenario journal)
    (o : IsOrderedSince words scenario first journal quiet rows) (on : ContinuesBy words scenario journal rows seat number) where
  abbrev all : List (Seat Player)
  all = births as_nodes scenario

  abbrev s : System Player Mail OrderLine
  s = players words (births as_nodes scenario)

  abbrev row : Row Mail OrderLine
  row = row_of player_table seat rows (Deliver number)

  abbrev then : Rows
  then = with_event rows seat (Deliver number)

  abbrev under : IsUnder words scenario first journal quiet rows
  under = o.under

  young : AreQuietWhileYoung words scenario journal rows
  young = at_row.young_quiet last_law no_law words scenario first journal quiet rows o.behind seat number calm o.rows_are under on

  guide_of : (name : Draw) → IsNamedGroup scenario journal name → IsNamedGuide words all rows seat (Deliver number) name
  guide_of = at_row.guide_of few_law logs_law views_law rosters_law next_law newest_law found_law no_law words scenario journal rows seat (Deliver number) calm on.prefix on.seated on.timely under.sent under.reached young

  -- the rows are a prefix
  abbrev rows_prefix : IsPrefixOf journal rows
  rows_prefix = at_row.here few_law logs_law views_law rosters_law next_law newest_law found_law no_law words scenario journal rows seat (Deliver number) calm on.prefix on.seated on.timely under.sent under.reached young

  before : AreInTime s rows
  before = at_row.before few_law logs_law views_law rosters_law next_law newest_law found_law no_law words scenario journal rows seat (Deliver number) calm on.prefix on.seated on.timely under.sent under.reached young

  abbrev sent_after : AreSent words scenario journal then
  sent_after = at_row.sent_after few_law logs_law views_law rosters_law next_law newest_law found_law no_law words scenario journal rows seat (Deliver number) calm on.prefix on.seated on.timely under.sent under.reached young

  -- a node takes it
  nodes : (client : ClientState) → value player_table seat rows ≡ Client client → ⊥
  nodes client fact = takers_law words scenario first journal quiet rows seat number calm o on client fact

  seen : AreSeen scenario quiet
  seen name node = agree_law.nodes scenario quiet name node (all_bounded scenario calm.valid) (found_law words scenario journal quiet calm under.rests.prefix).homes

  -- a mail that is delivered is of a group of the journal, which has a replica
  mail_known : (mail : Mail) → numbered (mails rows) number ≡ Some mail → IsOfJournal scenario journal mail × ((name : Draw) → group_of_mail mail.body ≡ Some name → IsThere all rows name)
  mail_known mail at =
      let d = at_row.delivered last_law no_law words scenario first journal quiet rows o.behind seat number calm o.rows_are under on in
      let both : Some d.mail ≡ Some mail = sym d.sent ∙ at in
      let same : d.mail ≡ mail = cc in
      let fact = is_born-from s seat.who seat on.seated in
      let first_known = (subst (Each (IsOfJournal scenario journal)) d.first (o.known seat.who fact)).0 in
      let known = subst (IsOfJournal scenario journal) same first_known in (
        known,
        λ name of. elim (at_row.there_now last_law no_law words scenario first journal quiet rows o.behind seat number calm o.rows_are under on name (known name of)) [
          | inl there ↦ there
          | inr none ↦ absurd (subst (λ (m : Mail). group_of_mail m.body ≡ Some name → ⊥) same (subst (Each (λ (m : Mail). group_of_mail m.body ≡ Some name → ⊥)) d.first (none seat.who fact)).0 of)
        ],
      )

  takes : (mail : Mail) (group : Draw) (node : NodeState) (r : ReplicaState) → IsTaking words all rows seat number mail group node → replica_of group node.replicas ≡ Some r → TakesSince words scenario first journal quiet rows seat number mail group node r under.stage
  takes mail group node r taking here = record { calm = calm; rests = under.rests; seen = seen; untouched = under.untouched; true_since = o.true_since; taking = taking; here = here }

  unsettled : (mail : Mail) (group : Draw) (node : NodeState) (r : ReplicaState) → IsTaking words all rows seat number mail group node → replica_of group node.replicas ≡ Some r → IsUnsettled r mail.body
  unsettled mail group node r taking here = elim (elsewhere_or mail.body) [
    | inl e ↦ subst (IsUnsettled r) (sym e.3) (λ runs. (
        let to = hinted_at words scenario first journal quiet rows seat number mail group node r under.stage e.0 e.1 e.2 (takes mail group node r taking here) o.hinted e.3 in
        (to.0, to.1, settled_at words scenario first journal quiet rows seat number mail group node r under.stage e.0 e.1 e.2 (takes mail group node r taking here) under.prefix under.sent o.settled e.3 runs)))
    | inr other ↦ unsettled_law words scenario first journal quiet rows seat number mail group node r under.stage (takes mail group node r taking here) other
  ]

  viewed : (group : Draw) (node : NodeState) (r : ReplicaState) → value player_table seat rows ≡ Node node → replica_of group node.replicas ≡ Some r → view_at all rows group seat.who ≡ Some r
  viewed group node r fact here = view_was all rows seat (Deliver number) group on.seated (Node node) fact ∙ here

  -- one that runs leads its group alone, with only work in flight
  lead_at : (name : Draw) (node : ℕ) (r : ReplicaState) → view_at all rows name node ≡ Some r → r.running ≡ true → LeadsAlone all rows name node r
  lead_at name node r e runs =
      let g = named_there found_law words scenario journal rows calm rows_prefix name (node, r, e) in
      let t = under.sent g.0 g.1 in
      subst (λ n. LeadsAlone all rows n node r) g.2 (alone_law.alone _ _ _ words all rows g.0 t.course node r t.led (ap (λ n. view_at all rows n node) g.2 ∙ e) runs).0

  leads_since : (name : Draw) (node : ℕ) (r : ReplicaState) → view_at all rows name node ≡ Some r → r.running ≡ true → LeadsSince words scenario first journal quiet rows name node r under.stage
  leads_since name node r e runs = record {
    calm = calm;
    rests = under.rests;
    seen = seen;
    prefix = under.prefix;
    sent = under.sent;
    untouched = under.untouched;
    true_since = o.true_since;
    leads = lead_at name node r e runs;
    alone = stands_law.alone o.task name r (o.work.replicas name node r e);
  }

  orders_row : IsOrdersRow words scenario rows seat (Deliver number)
  orders_row = record {
    bounded = all_bounded scenario calm.valid;
    seated = on.seated;
    timely = on.timely;
    under = (under.stage, under.untouched.stands);
    groups = λ name node r e. guide_of name (named_there found_law words scenario journal rows calm rows_prefix name (node, r, e));
    states = λ n mail group slot state sets e at body.
        (let same : n ≡ number = cc in
        let of : group_of_mail mail.body ≡ Some group = ap group_of_mail body in
        let k = mail_known mail (subst (λ m. numbered (mails rows) m ≡ Some mail) same at) in
        (guide_of group (k.0 group of), k.1 group of));
    unsettled = λ n mail group node r e taking here. (let same : n ≡ number = cc in unsettled mail group node r (subst (λ m. IsTaking words all rows seat m mail group node) same taking) here);
    requests = λ n mail group client seq op e at body.
        (let same : n ≡ number = cc in
        work_law.unasked words all rows seat number o.task on.seated on.timely o.work mail group client seq op (subst (λ m. numbered (mails rows) m ≡ Some mail) same at) body);
    votes = λ n mail group node r group_ ballot slot e taking here runs body.
        (let view = viewed group node r taking.is_node here in
        (stands_law.alone o.task group r (o.work.replicas group seat.who r view), entries_law words scenario first journal quiet rows group seat.who r under.stage (leads_since group seat.who r view runs)));
    told = λ line e. cc;
    clients = λ client fact. absurd (nodes client fact);
  }

  -- what is delivered meets what an order needs; and children were nowhere
  guided_row : IsGuidedRow words scenario rows seat number
  guided_row = record { seated = on.seated; timely = on.timely; meets = meets_law words scenario rows seat number orders_row; groups = λ name node r e. guide_of name (named_there found_law words scenario journal rows calm rows_prefix name (node, r, e)) }

  working : IsWorkingRow words scenario first journal quiet rows o.line o.task seat number
  working = record { calm = calm; under = under; goes = on; guided = guided_row; named = λ name who r e. named_there found_law words scenario journal rows calm rows_prefix name (who, r, e); of = o.is_task; work = o.work }

  finds : FindsOrder words all rows seat (Deliver number)
  finds =
      finds_law words scenario rows seat (Deliver number) orders_row
      (λ n mail group node r e taking here.
      (let same : n ≡ number = cc in
      created_law.young words scenario first journal quiet rows o.line o.task seat number working o.created mail group node r (subst (λ m. IsTaking words all rows seat m mail group node) same taking) here))

  unanswered : IsUnanswered rows number
  unanswered = work_law.unanswered words all rows seat number o.task on.seated on.timely o.work

  goes_since : ContinuesSince words scenario first journal quiet rows seat number under.stage
  goes_since = record { calm = calm; rests = under.rests; seen = seen; untouched = under.untouched; true_since = o.true_since; goes = on; finds = finds }

  delivered_so : IsDelivered words all quiet rows seat number
  delivered_so = record {
    seated = on.seated;
    timely = on.timely;
    finds = finds;
    unanswered = unanswered;
    children = λ mail group node r taking here. nowhere_law words scenario quiet rows seat number o.line o.task o.is_task guided_row o.work mail group node r taking here;
    asked = λ deal to at. (asked_law words scenario first journal quiet rows seat number under.stage goes_since deal to at).1;
  }

  next_stage : (later : Stage) × AreUntouched words all quiet then later × ((later ≡ under.stage) ⊎ GoesBy rows (Deliver number) under.stage later)
  next_stage = fresh_law.goes_on words all quiet rows seat number under.stage under.untouched delivered_so

  young_after : (base : Base) → Among base (groups_at as_nodes scenario.groups journal) → IsNowhere all quiet base.core.id → IsYoungAt words all then base
  young_after base among nowhere = young_law.stays words scenario journal quiet rows seat number next_stage.0 calm on unanswered next_stage.1 base among nowhere (under.young base among nowhere)

  under_after : IsUnder words scenario first journal quiet then
  under_after = record {
    rests = under.rests;
    prefix = on.prefix;
    sent = sent_after;
    reached = λ base among. at_row.reached_after few_law logs_law views_law rosters_law next_law newest_law found_law no_law words scenario journal rows seat (Deliver number) calm on.prefix on.seated on.timely under.sent under.reached young base among (λ nowhere. young_after base among (at_row.never_there last_law no_law words scenario first journal quiet rows o.behind seat number calm o.rows_are under on base.core.id nowhere));
    stage = next_stage.0;
    untouched = next_stage.1;
    young = young_after;
  }

  true_after : IsTrueSince scenario quiet then next_stage.0
  true_after =
      true_law words scenario first journal quiet rows seat number under.stage next_stage.0 goes_since delivered_so next_stage.1 next_stage.2

  steps : (base : Base) (among : Among base (groups_at as_nodes scenario.groups journal))
      → IsSentStep (logged_sets as_nodes base journal) (over_at as_nodes base journal) (slot_leaders_at as_nodes scenario base journal) words (births as_nodes scenario) rows seat (Deliver number) base (under.sent base among).course
  steps = at_row.steps few_law logs_law views_law rosters_law next_law newest_law found_law no_law words scenario journal rows seat (Deliver number) calm on.prefix on.seated on.timely under.sent under.reached young

  rising_after : (base : Base) (among : Among base (groups_at as_nodes scenario.groups journal)) → IsRisingOn (logged_sets as_nodes base journal) (slot_leaders_at as_nodes scenario base journal) words (births as_nodes scenario) then base (sent_after base among).course
  unfolding steps
  rising_after base among =
      rise_law words (logged_sets as_nodes base journal) (over_at as_nodes base journal) (slot_leaders_at as_nodes scenario base journal) scenario rows seat (Deliver number) base on.timely on.seated (under.sent base among) (steps base among) (o.rising base among)

  round_after : (base : Base) (among : Among base (groups_at as_nodes scenario.groups journal)) → IsRoundSince (under.rests.sent base among).course next_stage.0 base.core.id (sent_after base among).course
  unfolding steps
  round_after base among =
      rounds_law.delivered words (logged_sets as_nodes base journal) (over_at as_nodes base journal) (slot_leaders_at as_nodes scenario base journal) scenario quiet rows seat number base under.stage next_stage.0 on.timely on.seated (under.rests.sent base among) (under.sent base among) (steps base among)
      (λ there. under.rests.members base among there) under.untouched next_stage.2 (o.round base among)

  settled_after : AreSettled words scenario then next_stage.0
  settled_after =
      settled_law words scenario first journal quiet rows seat number under.stage next_stage.0 goes_since under.sent sent_after (λ name node r e runs. stands_law.alone o.task name r (o.work.replicas name node r e)) next_stage.1.stands next_stage.2 true_after o.settled

  hinted_after : IsHinted scenario quiet then next_stage.0
  hinted_after =
      hinted_law words scenario first journal quiet rows seat number under.stage next_stage.0 goes_since (λ name node r e runs. entries_law words scenario first journal quiet rows name node r under.stage (leads_since name node r e runs)) next_stage.1.stands next_stage.2 true_after o.hinted

  going_after : IsGoingSince scenario journal quiet then next_stage.0
  going_after =
      ending_groups_law words scenario first journal quiet rows seat number under.stage next_stage.0 goes_since under.sent steps under.reached
      (λ base among nowhere. young_after base among (at_row.never_there last_law no_law words scenario first journal quiet rows o.behind seat number calm o.rows_are under on base.core.id nowhere)) leads_since next_stage.1.stands next_stage.2 o.goes

  -- ---- the order's result

  leaders : AreLeaders o.line.number all rows then
  leaders = record {
    flights = λ name node r e. Each-weaker (λ (flight : Flight Command). Does o.task name flight.value) (λ (flight : Flight Command). HasNumber o.line.number flight.value) (λ flight d. subst (λ n. HasNumber n flight.value) o.is_task.number d.1) r.leader.flights (o.work.replicas name node r e).flights;
    locks = λ name node r e. subst (λ n. LockNumber n r.group.core.lock) o.is_task.number (o.work.replicas name node r e).state.1;
    entries = λ name node r e runs flight among. Each-among (λ (f : Flight Command). IsTrueEntry r.me r.group f.value) r.leader.flights flight (entries_law words scenario first journal quiet rows name node r under.stage (leads_since name node r e runs)) among;
    alone = lead_alone found_law words scenario journal then calm on.prefix alone_law sent_after;
  }

  refusal_after : IsRefusalSent (mails then) next_stage.0
  refusal_after = refusal_on all rows row (Deliver number) under.stage next_stage.0 under.untouched.stands o.refusal next_stage.2

  result_after : IsReported all then o.line.number ⊎ IsOrderHeld (scene_at all then)
  result_after =
      held_on o.line.number o.told words all quiet rows seat number on.seated on.timely finds under.stage under.untouched.stands o.true_since.done
      (order_unnamed words scenario quiet rows under.stage (all_bounded scenario calm.valid) (found_law words scenario journal quiet calm under.rests.prefix).lawful o.true_since) leaders o.refusal next_stage.0 next_stage.1.stands next_stage.2 o.result

  only_after : (other : OrderLine) → IsGiven then other → IsGiven quiet other ⊎ (other ≡ o.line)
  only_after other given = elim (given_rows rows row other given) [
    | inl before_ ↦ o.only other before_
    | inr e ↦ absurd (let e_ : Deliver number ≡ Told other = e in cc)
  ]

  keeps : IsOrderedSince words scenario first journal quiet then
  unfolding under_after
  keeps = record {
    behind = o.behind ++ row ∷ [];
    rows_are = ap (λ l. l ++ row ∷ []) o.rows_are ∙ append_assoc quiet o.behind (row ∷ []);
    one_order = (let more = count_push (λ (x : Row Mail OrderLine). is_told x.event) rows row false refl in let one = o.one_order in omega (arith, more, one));
    under = under_after;
    rising = rising_after;
    round = round_after;
    true_since = true_after;
    goes = going_after;
    settled = settled_after;
    hinted = hinted_after;
    line = o.line;
    only = only_after;
    told = o.told;
    refusal = refusal_after;
    result = result_after;
    task = o.task;
    is_task = o.is_task;
    work = work_law.keeps words scenario rows seat number o.task guided_row o.work;
    created = created_law.keeps words scenario first journal quiet rows o.line o.task seat number working o.created;
    clients = λ other client fact was. (let h = o.clients other client fact was in (other_stays all rows seat other on.seated fact (Deliver number) client (nodes client) h.0, started_still rows row other.who refl ∙ h.1));
    known = known_after words scenario journal quiet rows seat number next_stage.0 on.seated on.timely unanswered (named_there found_law words scenario journal quiet calm under.rests.prefix) next_stage.1 o.known;
    home = errands_law words scenario journal quiet rows row next_stage.0 calm under.rests.prefix on.prefix next_stage.1.stands hinted_after o.home;
    waits = waits_law.goes_on words scenario journal rows seat number calm on sent_after o.waits;
    names = names_law.goes_on words scenario first journal quiet rows seat (Deliver number) o.task calm under.rests on.prefix (created_law.keeps words scenario first journal quiet rows o.line o.task seat number working o.created) o.names;
  }

  -- the order is at a stage that follows
  steps_on : StageAfter all rows seat (Deliver number) under.stage
  steps_on = (next_stage.0, next_stage.1.stands, next_stage.2)

  -- ---- what it finds

  -- a replica that a player has is one of a group of the journal
  alone : AllLeadAlone all rows
  alone r a runs =
      let prefix = rows_prefix in
      let f = found_law words scenario journal rows calm prefix in
      let p = place_of all_bounded once_law agree_law words scenario rows calm.valid f.lawful f.homes r a in
      (p.0, lead_at (name_of r) p.0 r p.1 runs)

  mail_so : (mail : Mail) (node : NodeState) (name : Draw) → numbered (mails rows) number ≡ Some mail → value player_table seat rows ≡ Node node → group_of_mail mail.body ≡ Some name → IsKnownMail scenario journal mail node name
  mail_so mail node name at fact of = record {
    base = g.0;
    among = g.1;
    named = g.2;
    plain = plain_at (replica_of name node.replicas) refl;
    unsettled = λ r here. unsettled mail name node r taking here;
    unasked = no_request mail.body (λ group client seq op body. work_law.unasked words all rows seat number o.task on.seated on.timely o.work mail group client seq op at body);
    counts = λ r here runs.
        (let view = viewed name node r fact here in
        let w = o.work.replicas name seat.who r view in
        record { alone = stands_law.alone o.task name r w; backlog = λ some. w.backlog; entries = Each-from (λ (flight : Flight Command). IsEntry flight.value r × (length (applied r.group flight.value).0.core.members ≤ 9)) r.leader.flights (flights_law words scenario first journal quiet rows name seat.who r under.stage (leads_since name seat.who r view runs)) });
  }
    where
      g : IsNamedGroup scenario journal name
      g = (mail_known mail at).0 name of

      taking : IsTaking words all rows seat number mail name node
      taking = record { seated = on.seated; timely = on.timely; is_node = fact; me_is = finds.me_is node fact; sent = at; comes = each_numbered (λ (m : Mail). may_come m.from m.body ≡ true) (mails rows) number mail (come_law words scenario rows (all_bounded scenario calm.valid) before) at; named = of }

      plain_at : (x : Option ReplicaState) → replica_of name node.replicas ≡ x → IsPlainAt x
      plain_at None here = tt
      plain_at (Some r) here = λ off. plain_law.plain _ _ _ words all rows g.0 (under.sent g.0 g.1) seat.who r (ap (λ n. view_at all rows n seat.who) g.2 ∙ viewed name node r fact here)

  found : (far sent : ℕ) → quiet_prefix s rows ≡ quiet → DoHintsRise (replicas_after scenario quiet) (chart_at far sent s rows).ways → FindsCalm (chart_at far sent s rows) all rows seat (Deliver number)
  found far sent prefix rise =
      calm_law words scenario first journal quiet rows far sent seat number calm under on sent_after
      (record { alone = alone; homes = (found_law words scenario journal quiet calm under.rests.prefix).homes; prefix = prefix; rise = rise; nodes = nodes; mail = mail_so })

pub deliveries_keep : ValidScenariosAreBounded → SlotsAreLeft → ReplicasRunLogs → ViewsAreReplicas → SlotsHaveRosters → ReplicasLast → NextRowsAreSent → NewestStay → PrefixesAreFound → NoMailForStrangers → ViewsAgree → WellLedLeadAlone → SentReplicas → OrdersRowsMeet → OrdersRowsFind → NextRowsRise → OrdersKeepRounds → ChildrenWereNowhere → ChildrenAreCreated → FreshGroupsStay → YoungGroupsStay
    → MailComesUnsettled → AskedGroupsStood → TrueOrdersGoOn → DeliveriesKeepWork → WorkStandsAlone → OrderRowsFindCalm → SettledOrdersGoOn → CoordinatorsAreSettled → HintedOrdersGoOn → CoordinatorsAreHinted → EntriesAreTrue → FlightsAreEntries → MailMayCome → LawfulReplicasAreNamedOnce → TakersAreNodes → OrderErrandsGoToNodes → EndingGroupsGoOn → NoneWaits → NamesStayFew → DeliveriesKeepOrdered
deliveries_keep all_bounded few_law logs_law views_law rosters_law last_law next_law newest_law found_law no_law agree_law alone_law plain_law meets_law finds_law rise_law rounds_law nowhere_law created_law fresh_law young_law unsettled_law asked_law true_law work_law stands_law calm_law settled_law settled_at hinted_law hinted_at entries_law flights_law come_law once_law takers_law errands_law ending_groups_law waits_law names_law words scenario first journal quiet rows seat number calm o on = (
  keeps all_bounded few_law logs_law views_law rosters_law last_law next_law newest_law found_law no_law agree_law alone_law plain_law meets_law finds_law rise_law rounds_law nowhere_law created_law fresh_law young_law unsettled_law asked_law true_law work_law stands_law calm_law settled_law settled_at hinted_law hinted_at entries_law flights_law come_law once_law takers_law errands_law ending_groups_law waits_law names_law words scenario first journal quiet rows seat number calm o on,
  steps_on all_bounded few_law logs_law views_law rosters_law last_law next_law newest_law found_law no_law agree_law alone_law plain_law meets_law finds_law rise_law rounds_law nowhere_law created_law fresh_law young_law unsettled_law asked_law true_law work_law stands_law calm_law settled_law settled_at hinted_law hinted_at entries_law flights_law come_law once_law takers_law errands_law ending_groups_law waits_law names_law words scenario first journal quiet rows seat number calm o on,
  found all_bounded few_law logs_law views_law rosters_law last_law next_law newest_law found_law no_law agree_law alone_law plain_law meets_law finds_law rise_law rounds_law nowhere_law created_law fresh_law young_law unsettled_law asked_law true_law work_law stands_law calm_law settled_law settled_at hinted_law hinted_at entries_law flights_law come_law once_law takers_law errands_law ending_groups_law waits_law names_law words scenario first journal quiet rows seat number calm o on,
)
