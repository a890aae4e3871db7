-- An order given in a quiet prefix begins all that holds while it is under way.
use Rattle.std.proofs.Common.{◌≡◌, ◌⊎◌, ◌≤◌, ℕ, true, false, List, [], ◌∷◌, Some, inl, inr, refl, sym, ◌∙◌, ap, arith}
use Rattle.sc_base.specs.Definitions.{Among, Each}
use Rattle.sc_node_table.specs.Values.{Draw, Base, OrderLine, Mail, Seat, Row}
use Rattle.sc_actor.specs.declared.rows.Event.TheVariants.{Told}
use Rattle.sc_actor.specs.Definitions.{System, row_of, mails}
use Rattle.sc_live_orderly.specs.OrderlyDefinitions.{is_born, is_told, AreInTime}
use Rattle.sc_live_orderly.proofs.OrderlyLemmas.{count_push}
use Rattle.sc_scenario.specs.scenario.Definitions.{ValidScenariosAreBounded}
use Rattle.sc_scenario.specs.declared.scenario.scenarios.Scenario.{Scenario}
use Rattle.sc_node_table.specs.NodeDefinitions.{ReplicaState, next, last_slot}
use Rattle.sc_meaning.specs.sound.SoundDefinitions.{groups_at, Player, player_table, births, as_nodes}
use Rattle.sc_live_steps.specs.calm.CalmDefinitions.{players, FindsCalm, IsAtRest, Rows}
use Rattle.sc_live_steps.specs.orders.OrderDefinitions.{Stage, Still}
use Rattle.sc_live_journals.specs.rows.RowDefinitions.{view_at, marks_at, IsSeat, with_event}
use Rattle.sc_live_journals.specs.mail.MailDefinitions.{SlotsAreLeft}
use Rattle.sc_live_journals.specs.logs.LogDefinitions.{ViewsAreReplicas, SlotsHaveRosters, logged_sets}
use Rattle.sc_live_answers.specs.AnswerDefinitions.{ReplicasRunLogs, IsNamedGuide, IsReachedSo, NewestStay, IsOrdersRow, OrdersRowsFind, IsSentStep, NextRowsAreSent, SentReplicas, over_at, slot_leaders_at, NextRowsRise, IsRisingOn, IsRoundSince, OrdersKeepRounds, PrefixesAreFound, IsFoundPrefix, NoMailForStrangers, GoesToNode, OrderErrandsGoToNodes, NodeErrandsReachPlayers, IsCalmJournal, IsPrefixOf, AreSent, IsNamedGroup, RestsAt, IsUnder, GivenOrdersFindCalm, ViewsAgree, ChildrenAreCreated, YoungGroupsStay, TrueOrdersBegin, EndingGroupsBegin, NamesStayFew, NoneWaits, IsHinted, HintedOrdersBegin, SettledOrdersBegin, AreSeen, OrdersBeginWork, WorkStandsAlone, IsOrderedSince, OrdersBeginOrdered, IsGiven}
use Rattle.sc_live_journals.specs.scenes.SceneDefinitions.{AreUntouched, IsGivenInQuiet, FreshGroupsStay, FindsOrder, FoundOrdersStep, StageAfter}
use Rattle.sc_live_journals.specs.charts.ChartDefinitions.{chart_at}
use Rattle.sc_live_answers.proofs.LedGroupsProofs.GuidedGroups as at_row
use Rattle.sc_live_answers.proofs.LedGroupsProofs.GuidedGroups.{AreQuietWhileYoung, named_there, reached_even, lead_alone}
use Rattle.sc_live_answers.proofs.OrdersProofs.ClientsUnderOrders.{started_still, told_stays}
use Rattle.sc_live_answers.proofs.ErrandsProofs.SentMailGroups.{known_told}
use Rattle.sc_group_table.specs.policy.PolicyDefinitions.{is_reported as is_told_order}
use Rattle.sc_live_answers.proofs.OrdersProofs.HeldOrdersAtStart.{given_allowed, given_rows, refusal_at_start, held_at_start}
use Rattle.sc_live_answers.proofs.LedMailProofs.WellLedLeaders.{well_led_lead_alone}
use Rattle.sc_live_answers.proofs.LedGroupsProofs.JournalGroups.{calm_group, calm_slots}
use Rattle.sc_live_answers.proofs.RestProofs.RestAfterOrders.{none_pending}

module _ (all_bounded : ValidScenariosAreBounded) (few_law : SlotsAreLeft) (logs_law : ReplicasRunLogs) (views_law : ViewsAreReplicas) (rosters_law : SlotsHaveRosters) (next_law : NextRowsAreSent) (newest_law : NewestStay) (found_law : PrefixesAreFound) (no_law : NoMailForStrangers)
    (agree_law : ViewsAgree) (plain_law : SentReplicas) (finds_law : OrdersRowsFind) (fresh_law : FreshGroupsStay) (young_law : YoungGroupsStay) (true_law : TrueOrdersBegin) (settled_law : SettledOrdersBegin) (hinted_law : HintedOrdersBegin) (work_law : OrdersBeginWork) (created_law : ChildrenAreCreated) (rise_law : NextRowsRise) (rounds_law : OrdersKeepRounds) (stands_law : WorkStandsAlone) (calm_law : GivenOrdersFindCalm) (errands_law : OrderErrandsGoToNodes) (actors_law : NodeErrandsReachPlayers) (ending_groups_law : EndingGroupsBegin) (waits_law : NoneWaits) (names_law : NamesStayFew) (step_law : FoundOrdersStep)
    (words : ℕ → ℕ → ℕ × ℕ) (scenario : Scenario) (first : Base) (journal quiet : Rows) (seat : Seat Player) (line : OrderLine) (calm : IsCalmJournal words scenario journal) (rests : RestsAt words scenario first journal quiet) (home : Each (GoesToNode scenario) (mails quiet))
    (seated : IsSeat (births as_nodes scenario) seat) (prefix : IsPrefixOf journal (with_event quiet seat (Told line))) (timely : AreInTime (players words (births as_nodes scenario)) (with_event quiet seat (Told line))) where
  abbrev all : List (Seat Player)
  all = births as_nodes scenario

  abbrev s : System Player Mail OrderLine
  s = players words (births as_nodes scenario)

  abbrev row : Row Mail OrderLine
  row = row_of player_table seat quiet (Told line)

  abbrev then : Rows
  then = with_event quiet seat (Told line)

  strangers : (name : Draw) (who : ℕ) → is_born s who ≡ false → marks_at s quiet name who ≡ []
  strangers = no_law.strangers words scenario journal quiet calm rests.prefix rests.sent

  young : AreQuietWhileYoung words scenario journal quiet
  young base among who member absent = none_pending no_law words scenario first journal quiet calm rests base.core.id who

  abbrev reached : (base : Base) (among : Among base (groups_at as_nodes scenario.groups journal)) → IsReachedSo all quiet base (rests.sent base among).course
  reached base among = reached_even rosters_law logs_law views_law words scenario journal quiet rests.prefix.more base (calm_group words scenario journal calm base among) rests.prefix.fact (rests.sent base among) (none_pending no_law words scenario first journal quiet calm rests base.core.id)

  guide_of : (name : Draw) → IsNamedGroup scenario journal name → IsNamedGuide words all quiet seat (Told line) name
  guide_of = at_row.guide_of few_law logs_law views_law rosters_law next_law newest_law found_law no_law words scenario journal quiet seat (Told line) calm prefix seated timely rests.sent reached young

  abbrev sent_after : AreSent words scenario journal then
  sent_after = at_row.sent_after few_law logs_law views_law rosters_law next_law newest_law found_law no_law words scenario journal quiet seat (Told line) calm prefix seated timely rests.sent reached young

  seen : AreSeen scenario quiet
  seen name node = agree_law.nodes scenario quiet name node (all_bounded scenario calm.valid) (found_law words scenario journal quiet calm rests.prefix).homes

  -- each replica rests
  at_rest : (name : Draw) (who : ℕ) (r : ReplicaState) → view_at all quiet name who ≡ Some r → IsAtRest r
  at_rest name who r e = rests.fact.quiet.at_rest name who r (sym (seen name who) ∙ e)

  room : (name : Draw) (who : ℕ) (r : ReplicaState) → view_at all quiet name who ≡ Some r → next r ≤ last_slot
  room name who r e = (calm_slots words scenario journal calm few_law (named_there found_law words scenario journal quiet calm rests.prefix name (who, r, e)).0 quiet rests.prefix.more who r rests.prefix.fact
      (ap (λ n. view_at all quiet n who) (named_there found_law words scenario journal quiet calm rests.prefix name (who, r, e)).2 ∙ e)).0

  plain : (name : Draw) (who : ℕ) (r : ReplicaState) → view_at all quiet name who ≡ Some r → r.leader.reports ≡ []
  plain name who r e = (let g = named_there found_law words scenario journal quiet calm rests.prefix name (who, r, e) in plain_law.plain _ _ _ words all quiet g.0 (rests.sent g.0 g.1) who r (ap (λ n. view_at all quiet n who) g.2 ∙ e))

  orders_row : IsOrdersRow words scenario quiet seat (Told line)
  orders_row = record {
    bounded = all_bounded scenario calm.valid;
    seated = seated;
    timely = timely;
    under = (Still, rests.still);
    groups = λ name node r e. guide_of name (named_there found_law words scenario journal quiet calm rests.prefix name (node, r, e));
    states = λ n mail group_ slot state sets e at body. cc;
    unsettled = λ n mail group_ node r e taking here. cc;
    requests = λ n mail group_ client seq op e at body. cc;
    votes = λ n mail group_ node r named_ ballot slot e taking here runs body. cc;
    told = λ other e. record {
      quiet = rests.calm;
      errands = actors_law words scenario (mails quiet) home;
      strangers = strangers;
      room = λ name node r view runs. (room name node r view, stands_law.rests r (at_rest name node r view));
    };
    clients = λ client fact. refl;
  }

  finds : FindsOrder words all quiet seat (Told line)
  finds = finds_law words scenario quiet seat (Told line) orders_row (λ n mail group_ node r e taking here. cc)

  told_so : IsGivenInQuiet words all quiet seat line
  told_so = record { seated = seated; timely = timely; still = rests.still; calm = rests.calm; finds = finds }

  begun : (stage : Stage) × AreUntouched words all quiet then stage
  begun = fresh_law.begins words all quiet seat line told_so

  under_after : IsUnder words scenario first journal quiet then
  under_after = record {
    rests = rests;
    prefix = prefix;
    sent = sent_after;
    reached = λ base among. at_row.reached_after few_law logs_law views_law rosters_law next_law newest_law found_law no_law words scenario journal quiet seat (Told line) calm prefix seated timely rests.sent reached young base among (young_law.begins words scenario quiet seat line begun.0 seated timely rests.calm begun.1 base);
    stage = begun.0;
    untouched = begun.1;
    young = λ base among nowhere. young_law.begins words scenario quiet seat line begun.0 seated timely rests.calm begun.1 base nowhere;
  }

  steps : (base : Base) (among : Among base (groups_at as_nodes scenario.groups journal))
      → IsSentStep (logged_sets as_nodes base journal) (over_at as_nodes base journal) (slot_leaders_at as_nodes scenario base journal) words (births as_nodes scenario) quiet seat (Told line) base (rests.sent base among).course
  steps = at_row.steps few_law logs_law views_law rosters_law next_law newest_law found_law no_law words scenario journal quiet seat (Told line) calm prefix seated timely rests.sent reached young

  rising_after : (base : Base) (among : Among base (groups_at as_nodes scenario.groups journal)) → IsRisingOn (logged_sets as_nodes base journal) (slot_leaders_at as_nodes scenario base journal) words (births as_nodes scenario) then base (sent_after base among).course
  unfolding steps
  rising_after base among =
      rise_law words (logged_sets as_nodes base journal) (over_at as_nodes base journal) (slot_leaders_at as_nodes scenario base journal) scenario quiet seat (Told line) base timely seated (rests.sent base among) (steps base among) (rests.rising base among)

  round_after : (base : Base) (among : Among base (groups_at as_nodes scenario.groups journal)) → IsRoundSince (rests.sent base among).course begun.0 base.core.id (sent_after base among).course
  unfolding steps
  round_after base among =
      rounds_law.told words (logged_sets as_nodes base journal) (over_at as_nodes base journal) (slot_leaders_at as_nodes scenario base journal) scenario quiet seat line base begun.0 timely seated (rests.sent base among) (steps base among) (none_pending no_law words scenario first journal quiet calm rests base.core.id)

  hinted_after : IsHinted scenario quiet then begun.0
  hinted_after = hinted_law words scenario quiet seat line begun.0 told_so begun.1.stands

  found : IsFoundPrefix words scenario journal quiet
  found = found_law words scenario journal quiet calm rests.prefix

  -- the order is one for a node of the scenario
  allowed : ((1 ≤ seat.who) × (seat.who ≤ scenario.nodes)) × (is_told_order line.number ≡ true)
  allowed = given_allowed words scenario journal quiet row line calm prefix refl

  only_begins : (other : OrderLine) → IsGiven then other → IsGiven quiet other ⊎ (other ≡ line)
  only_begins other given = elim (given_rows quiet row other given) [
    | inl before_ ↦ inl before_
    | inr e ↦ inr (let both : Told line ≡ Told other = e in cc)
  ]

  begins : IsOrderedSince words scenario first journal quiet then
  unfolding under_after
  begins =
      let true_so = true_law words scenario first journal quiet seat line begun.0 calm rests seen told_so begun.1.stands in
      let work = work_law words scenario quiet seat line calm.valid found.lawful seated timely rests.calm (λ name who r e. (at_rest name who r e, λ runs. plain name who r e, room name who r e)) in
      record {
        behind = row ∷ [];
        rows_are = refl;
        one_order = (let more = count_push (λ (x : Row Mail OrderLine). is_told x.event) quiet row true refl in omega (arith, more));
        under = under_after;
        rising = rising_after;
        round = round_after;
        true_since = true_so;
        goes = ending_groups_law words scenario first journal quiet seat line begun.0 calm rests seen told_so prefix begun.1.stands;
        settled = settled_law words scenario first journal quiet seat line begun.0 calm rests seen told_so prefix sent_after strangers begun.1.stands true_so;
        hinted = hinted_after;
        line = line;
        only = only_begins;
        told = allowed.1;
        refusal = refusal_at_start all quiet seat line (step_law words all quiet seat (Told line) seated timely finds Still rests.still) begun.0 begun.1.stands (mails then);
        result = held_at_start words scenario quiet seat line seated allowed.0 (λ name who r e. (at_rest name who r e, λ runs. plain name who r e, room name who r e)) (lead_alone found_law words scenario journal then calm prefix well_led_lead_alone sent_after);
        task = work.0;
        is_task = work.1;
        work = work.2;
        created = created_law.begins words scenario journal quiet seat line work.0 seated timely work.1;
        clients = λ other client fact was. (told_stays all quiet seat other seated fact line client was, started_still quiet row other.who refl);
        known = known_told words scenario journal quiet seat line begun.0 seated timely rests.calm (named_there found_law words scenario journal quiet calm rests.prefix) begun.1;
        home = errands_law words scenario journal quiet quiet row begun.0 calm rests.prefix prefix begun.1.stands hinted_after home;
        waits = waits_law.begins words scenario first journal quiet seat line calm rests seated prefix sent_after;
        names = names_law.goes_on words scenario first journal quiet quiet seat (Told line) work.0 calm rests prefix (created_law.begins words scenario journal quiet seat line work.0 seated timely work.1) (names_law.begins all quiet work.0);
      }

  -- the order is at a stage that follows
  steps_on : StageAfter all quiet seat (Told line) Still
  steps_on = step_law words all quiet seat (Told line) seated timely finds Still rests.still

  finds_calm : (far sent : ℕ) → FindsCalm (chart_at far sent s quiet) all quiet seat (Told line)
  finds_calm far sent = calm_law words scenario first journal quiet far sent seat line calm rests (found_law words scenario journal quiet calm rests.prefix).homes seated

pub orders_begin : ValidScenariosAreBounded → SlotsAreLeft → ReplicasRunLogs → ViewsAreReplicas → SlotsHaveRosters → NextRowsAreSent → NewestStay → PrefixesAreFound → NoMailForStrangers → ViewsAgree → SentReplicas → OrdersRowsFind → FreshGroupsStay → YoungGroupsStay → TrueOrdersBegin → SettledOrdersBegin → HintedOrdersBegin → OrdersBeginWork → ChildrenAreCreated → NextRowsRise → OrdersKeepRounds → WorkStandsAlone
    → GivenOrdersFindCalm → OrderErrandsGoToNodes → NodeErrandsReachPlayers → EndingGroupsBegin → NoneWaits → NamesStayFew → FoundOrdersStep → OrdersBeginOrdered
orders_begin all_bounded few_law logs_law views_law rosters_law next_law newest_law found_law no_law agree_law plain_law finds_law fresh_law young_law true_law settled_law hinted_law work_law created_law rise_law rounds_law stands_law calm_law errands_law actors_law ending_groups_law waits_law names_law step_law words scenario first journal quiet seat line calm rests home seated prefix timely = (
  begins all_bounded few_law logs_law views_law rosters_law next_law newest_law found_law no_law agree_law plain_law finds_law fresh_law young_law true_law settled_law hinted_law work_law created_law rise_law rounds_law stands_law calm_law errands_law actors_law ending_groups_law waits_law names_law step_law words scenario first journal quiet seat line calm rests home seated prefix timely,
  steps_on all_bounded few_law logs_law views_law rosters_law next_law newest_law found_law no_law agree_law plain_law finds_law fresh_law young_law true_law settled_law hinted_law work_law created_law rise_law rounds_law stands_law calm_law errands_law actors_law ending_groups_law waits_law names_law step_law words scenario first journal quiet seat line calm rests home seated prefix timely,
  finds_calm all_bounded few_law logs_law views_law rosters_law next_law newest_law found_law no_law agree_law plain_law finds_law fresh_law young_law true_law settled_law hinted_law work_law created_law rise_law rounds_law stands_law calm_law errands_law actors_law ending_groups_law waits_law names_law step_law words scenario first journal quiet seat line calm rests home seated prefix timely,
)
