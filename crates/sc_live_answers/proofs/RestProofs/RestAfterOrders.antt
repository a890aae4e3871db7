-- A calm journal rests again once an order is over and it is quiet.
use Rattle.std.proofs.Common.{◌≡◌, ℕ, ◌+◌, ◌≤◌, true, List, [], ◌∷◌, map, Some, inl, inr, sym, ◌∙◌, ap, subst, arith}
use Rattle.std.proofs.lemmas.Bool.{cases_Bool}
use Rattle.sc_base.specs.Definitions.{Among, client_actor}
use Rattle.sc_node_table.specs.Values.{Draw, Base, OrderLine, Mail, Seat, Client}
use Rattle.sc_actor.specs.Definitions.{mails, System, has_started, is_quiet, value}
use Rattle.sc_live_orderly.specs.OrderlyDefinitions.{is_born, orders, AreInTime}
use Rattle.sc_live_orderly.proofs.OrderlyLemmas.{in_time_tidy, quiet-empty, seat_found}
use Rattle.sc_scenario.specs.declared.scenario.scenarios.Scenario.{Scenario}
use Rattle.sc_node_table.specs.NodeDefinitions.{ReplicaState, numbers_from}
use Rattle.sc_meaning.specs.sound.SoundDefinitions.{Player, player_table, births, as_nodes, node_seat, client_seat, client_seats, route_of}
use Rattle.sc_scenario.specs.scenario.Definitions.{ValidScenariosAreBounded}
use Rattle.sc_scenario.specs.declared.scenario.scenarios.Asks.{Asks}
use Rattle.sc_client_table.specs.table.TableDefinitions.{Client as ClientState}
use Rattle.sc_law_groups.proofs.WholeProofs.WholeLemmas.{all_apart}
use Rattle.sc_live_plain.proofs.PlainLemmas.{map_among}
use Rattle.sc_live_steps.proofs.OrderStepsProofs.OrderStepLemmas.{among-right}
use Rattle.sc_live_journals.specs.rows.RowDefinitions.{IsSeat, view_at, marks_at}
use Rattle.sc_live_steps.specs.following.FollowingDefinitions.{marks_of}
use Rattle.sc_live_journals.specs.charts.ChartDefinitions.{all_replicas, names_at, GoInTurn}
use Rattle.sc_live_steps.specs.calm.CalmDefinitions.{players, Rows}
use Rattle.sc_live_steps.specs.orders.OrderDefinitions.{works_in, Still, IsAt}
use Rattle.sc_live_journals.specs.mail.MailDefinitions.{SlotsAreLeft}
use Rattle.sc_live_journals.specs.groups.GroupDefinitions.{ScenariosAreKeptBorn}
use Rattle.sc_live_journals.specs.logs.LogDefinitions.{SlotsHaveRosters, logged_sets}
use Rattle.sc_live_answers.specs.AnswerDefinitions.{over_at, slot_leaders_at, QuietLeadersHaveNothing, OrdersKeepRounds, RoundsAreSeen, IsQuietPrefix, PrefixesAreFound, NoMailForStrangers, GroupsEndInTurn, IsGoingSince, NoneWaits, FirstGroupsAreReached, AreSent, IsCalmJournal, IsPrefixOf, RestsAt, IsUnder, QuietPrefixesRest, NodeErrandsReachPlayers, IsOrderedSince, OrdersLeaveResting}
use Rattle.sc_live_journals.specs.scenes.SceneDefinitions.{HasNothing, QuietScenesAreOver, scene_at}
use Rattle.sc_live_answers.proofs.RequestsProofs.RequestInvariant.{prefix_timely, prefix_short}
use Rattle.sc_live_answers.proofs.LedGroupsProofs.GuidedGroups.{named_there}
use Rattle.sc_live_answers.proofs.LedGroupsProofs.JournalGroups.{calm_group}

-- no mail is under way in a quiet prefix that rests
pub none_pending : NoMailForStrangers → (words : ℕ → ℕ → ℕ × ℕ) (scenario : Scenario) (first : Base) (journal quiet : Rows) → IsCalmJournal words scenario journal → RestsAt words scenario first journal quiet → (name : Draw) (who : ℕ) → marks_at (players words (births as_nodes scenario)) quiet name who ≡ []
none_pending no_law words scenario first journal quiet calm rests name who = elim (cases_Bool (is_born (players words (births as_nodes scenario)) who)) [
  | inl t ↦ ap (marks_of name) (quiet-empty (players words (births as_nodes scenario)) quiet who (in_time_tidy (players words (births as_nodes scenario)) quiet (prefix_timely words scenario journal quiet calm rests.prefix)) t rests.calm)
  | inr f ↦ no_law.strangers words scenario journal quiet calm rests.prefix rests.sent name who f
]

module _ (all_bounded : ValidScenariosAreBounded) (few_law : SlotsAreLeft) (born_law : ScenariosAreKeptBorn) (rosters_law : SlotsHaveRosters) (over_law : QuietScenesAreOver) (nothing_law : QuietLeadersHaveNothing) (rounds_law : OrdersKeepRounds) (seen_law : RoundsAreSeen) (found_law : PrefixesAreFound) (no_law : NoMailForStrangers) (rest_law : QuietPrefixesRest) (actors_law : NodeErrandsReachPlayers) (turn_law : GroupsEndInTurn) (waits_law : NoneWaits) (reached_law : FirstGroupsAreReached)
    (words : ℕ → ℕ → ℕ × ℕ) (scenario : Scenario) (first : Base) (others : List Base) (journal quiet rows : Rows) (groups : scenario.groups ≡ first ∷ others) (calm : IsCalmJournal words scenario journal) (o : IsOrderedSince words scenario first journal quiet rows) (still : is_quiet (players words (births as_nodes scenario)) rows ≡ true) where
  abbrev all : List (Seat Player)
  all = births as_nodes scenario

  abbrev s : System Player Mail OrderLine
  s = players words (births as_nodes scenario)

  abbrev under : IsUnder words scenario first journal quiet rows
  under = o.under

  timely : AreInTime s rows
  timely = prefix_timely words scenario journal rows calm under.prefix

  -- no act waits where nothing is in flight
  none_waits : (name : Draw) (node : ℕ) (r : ReplicaState) → view_at all rows name node ≡ Some r → r.running ≡ true → r.leader.flights ≡ [] → r.acts ≡ []
  none_waits = waits_law.over words scenario journal rows calm under.prefix under.sent still o.waits

  -- nothing is left at a leader
  nothing : (name : Draw) (node : ℕ) (r : ReplicaState) → view_at all rows name node ≡ Some r → r.running ≡ true → HasNothing r
  nothing name node r e runs =
      let g = named_there found_law words scenario journal rows calm under.prefix name (node, r, e) in
      let t = under.sent g.0 g.1 in
      let here : view_at all rows g.0.core.id node ≡ Some r = ap (λ n. view_at all rows n node) g.2 ∙ e in
      let left = few_law words scenario rows name node r timely (prefix_short words scenario journal rows calm under.prefix) e in
      let low = left.0 in
      nothing_law (logged_sets as_nodes g.0 journal) (over_at as_nodes g.0 journal) (slot_leaders_at as_nodes scenario g.0 journal) words all rows g.0 t.course node r (born_law scenario) (rosters_law.rosters as_nodes words scenario journal g.0 (calm_group words scenario journal calm g.0 g.1)) timely still
      (no_law.strangers words scenario journal rows calm under.prefix under.sent g.0.core.id) t.led here runs (omega (arith, low))
      (λ none. (ap works_in (none_waits name node r e runs none), ap works_in (o.work.replicas name node r e).backlog))

  over : IsAt Still (scene_at all rows)
  over = (over_law.over words all rows timely still (actors_law words scenario (mails rows) o.home) nothing (under.stage, under.untouched.stands)).0

  -- rounds are few
  few_rounds : (name : Draw) (node : ℕ) (r : ReplicaState) → view_at all rows name node ≡ Some r → r.top.round ≤ orders rows + 1
  few_rounds name node r e =
      let g = named_there found_law words scenario journal rows calm under.prefix name (node, r, e) in
      let here : view_at all rows g.0.core.id node ≡ Some r = ap (λ n. view_at all rows n node) g.2 ∙ e in
      let q = under.rests.sent g.0 g.1 in
      let t = under.sent g.0 g.1 in
      let top = seen_law.most (logged_sets as_nodes g.0 journal) (over_at as_nodes g.0 journal) (slot_leaders_at as_nodes scenario g.0 journal) words all rows g.0 t node r here in
      let more = rounds_law.few q.course under.stage g.0.core.id t.course (o.round g.0 g.1) in
      let was = seen_law.quiet words (logged_sets as_nodes g.0 journal) (over_at as_nodes g.0 journal) (slot_leaders_at as_nodes scenario g.0 journal) scenario quiet g.0 q (none_pending no_law words scenario first journal quiet calm under.rests g.0.core.id) (λ there. under.rests.members g.0 g.1 there)
      (orders quiet + 1) (omega arith) (λ n x v. (under.rests.rounds g.0.core.id n x v).1) in
      let one = o.one_order in
      omega (arith, top, more, was, one)

  -- clients are as they were
  seat_is : (asks : Asks) → Among asks scenario.clients → IsSeat all (client_seat (route_of first) asks)
  seat_is asks a =
      seat_found all (client_seat (route_of first) asks) (all_apart scenario (all_bounded scenario calm.valid))
      (among-right (client_seat (route_of first) asks) (map (node_seat as_nodes scenario.groups scenario.policy) (numbers_from 1 scenario.nodes)) (client_seats scenario.groups scenario.clients)
      (subst (λ bases. Among (client_seat (route_of first) asks) (client_seats bases scenario.clients)) (sym groups) (map_among (client_seat (route_of first)) scenario.clients asks a)))

  players_so : (asks : Asks) → Among asks scenario.clients → (client : ClientState) × (value player_table (client_seat (route_of first) asks) rows ≡ Client client) × (client.me ≡ asks.client) × (client.requests ≡ asks.ops)
      × Among (has_started rows (client_actor asks.client), client) under.rests.fact.clients
  players_so asks a =
      let p = under.rests.fact.players asks a in
      let h = o.clients (client_seat (route_of first) asks) p.0 (seat_is asks a) p.1 in
      (p.0, h.0, p.2, p.3, subst (λ b. Among (b, p.0) under.rests.fact.clients) (sym h.1) p.4)

  q : IsQuietPrefix words scenario journal rows
  q = record { calm = calm; begins = under.prefix; quiet = still; sent = under.sent }

  -- groups went one after another
  in_turn : (turn : Draw → ℕ) × GoInTurn (names_at (births as_nodes scenario) rows) (all_replicas (births as_nodes scenario) rows) turn
  in_turn = subst (λ (xs : Rows). (turn : Draw → ℕ) × GoInTurn (names_at (births as_nodes scenario) xs) (all_replicas (births as_nodes scenario) xs) turn) (sym o.rows_are)
      (turn_law words scenario first journal quiet o.behind under.stage calm under.rests (subst (IsPrefixOf journal) o.rows_are under.prefix) (subst (AreSent words scenario journal) o.rows_are under.sent)
      (subst (λ xs. is_quiet (players words (births as_nodes scenario)) xs ≡ true) o.rows_are still) (subst (λ xs. IsGoingSince scenario journal quiet xs under.stage) o.rows_are o.goes))

  rests : RestsAt words scenario first journal rows
  unfolding q
  rests = rest_law words scenario first journal rows q (record {
    still = over;
    done = λ name node r e runs. (let n = nothing name node r e runs in (none_waits name node r e runs n.flights, (o.work.replicas name node r e).backlog));
    rounds = few_rounds;
    rising = o.rising;
    clients = under.rests.fact.clients;
    answered = under.rests.fact.quiet.answered;
    players = players_so;
    reached = reached_law.first words scenario journal rows first others calm under.prefix groups;
    turn = in_turn.0;
    turns = in_turn.1;
  })

pub orders_leave : ValidScenariosAreBounded → SlotsAreLeft → ScenariosAreKeptBorn → SlotsHaveRosters → QuietScenesAreOver → QuietLeadersHaveNothing → OrdersKeepRounds → RoundsAreSeen → PrefixesAreFound → NoMailForStrangers → QuietPrefixesRest → NodeErrandsReachPlayers → GroupsEndInTurn → NoneWaits → FirstGroupsAreReached → OrdersLeaveResting
orders_leave = rests
