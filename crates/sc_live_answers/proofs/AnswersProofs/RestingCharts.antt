-- A quiet prefix of a calm journal rests by its chart: all players rest, and each group that was ever led is led.
use Rattle.std.proofs.Common.{◌≡◌, ℕ, ◌||◌, ◌⊎◌, Bool, true, false, List, [], ◌∷◌, ◌++◌, map, Option, Some, None, inl, inr, refl, sym, ◌∙◌, ap, subst, append_assoc, append-nil}
use Rattle.std.specs.Prelude.{is_some}
use Rattle.sc_base.specs.Definitions.{Among, Each, client_actor}
use Rattle.sc_node_table.specs.Values.{Draw, Base, OrderLine, Mail, Node, Client, Seat, Row}
use Rattle.sc_actor.specs.Definitions.{value, are_apart, has_started}
use Rattle.sc_client_table.specs.table.TableDefinitions.{Client as ClientState}
use Rattle.sc_node_table.specs.NodeDefinitions.{NodeState, replica_of, born_node, ReplicaState, name_of, numbers_from, slots_ahead}
use Rattle.sc_live_orderly.specs.OrderlyDefinitions.{AreInTime}
use Rattle.sc_live_orderly.proofs.OrderlyLemmas.{by_time, seat_found}
use Rattle.sc_paxos_law.proofs.Lemmas.{Among-either, from_map}
use Rattle.sc_words.proofs.PaxosProofs.PaxosLemmas.{Each-among, Each-append, Each-from, Each-passes, Each-weaker}
use Rattle.sc_scenario.specs.scenario.Definitions.{ValidScenariosAreBounded}
use Rattle.sc_scenario.specs.declared.scenario.scenarios.Asks.{Asks}
use Rattle.sc_scenario.specs.declared.scenario.scenarios.Scenario.{Scenario}
use Rattle.sc_meaning.specs.sound.SoundDefinitions.{Player, player_table, births, as_nodes, node_seat, client_seat, client_seats, route_of}
use Rattle.sc_live_steps.specs.calm.CalmDefinitions.{players, StandsQuiet, IsGoneQuiet, IsAtRest, IsAnswered, IsResting, RestsCalm, Rows, leads, is_leading, is_led}
use Rattle.sc_live_journals.specs.rows.RowDefinitions.{view_at, replica_in, replicas_of as view_replicas}
use Rattle.sc_live_journals.specs.scenes.SceneDefinitions.{IsThere}
use Rattle.sc_live_journals.specs.mail.MailDefinitions.{ReplicasLast}
use Rattle.sc_live_journals.specs.charts.ChartDefinitions.{replicas_of as chart_replicas, all_replicas, led_names, names_at, chart_at, AreAllLed, QuietChartsRest}
use Rattle.sc_live_journals.proofs.ChartsProofs.ChartLemmas.{names_grow, more_names}
use Rattle.sc_live_plain.specs.PlainDefinitions.{replicas_after}
use Rattle.sc_live_plain.proofs.PlainLemmas.{stage}
use Rattle.sc_live_answers.specs.AnswerDefinitions.{LawfulReplicasAreNamedOnce, IsCalmJournal, PrefixesAreFound, RestsAt, ViewsAgree}
use Rattle.sc_live_answers.proofs.OrdersProofs.OrderDeliveries.{led_there, gone_leads}
use Rattle.sc_live_answers.proofs.LedMailProofs.LeadersElsewhere.{any_found}
use Rattle.sc_live_answers.proofs.ReplicasProofs.Nodes.{node_replays}
use Rattle.sc_live_answers.proofs.ReplicasProofs.PlayerReplicas.{place_of}
use Rattle.sc_live_answers.proofs.ReplicasProofs.AllReplicas.{into_seats}

-- ---- who was led

-- a group was led after some first rows
record WasLed (births : List (Seat Player)) (rows : Rows) (name : Draw) : Type 0 where
  prefix : Rows
  more : Rows
  are : rows ≡ prefix ++ more
  led : is_led births prefix name ≡ true

led_now : (births : List (Seat Player)) (rows : Rows) (name : Draw) → is_led births rows name ≡ true → WasLed births rows name
led_now births rows name led = record { prefix = rows; more = []; are = sym (append-nil rows); led = led }

-- each name of a chart is of a group that was led
names_were_led : (words : ℕ → ℕ → ℕ × ℕ) (births : List (Seat Player)) (rows : Rows) → AreInTime (players words births) rows → Each (WasLed births rows) (names_at births rows)
names_were_led words births rows timely = by_time (players words births) (λ l. Each (WasLed births l) (names_at births l)) first next rows timely
  where
    first : Each (WasLed births []) (names_at births [])
    first =
        let led = Each-weaker (λ name. is_led births [] name ≡ true) (WasLed births []) (led_now births []) (led_names births []) (Each-passes (λ name. is_led births [] name) (map name_of (all_replicas births []))) in
        let more = more_names (WasLed births []) [] (led_names births []) led in
        subst (Each (WasLed births [])) (sym more.1) more.2

    next : (l : Rows) (row : Row Mail OrderLine) → AreInTime (players words births) (l ++ row ∷ []) → Each (WasLed births l) (names_at births l) → Each (WasLed births (l ++ row ∷ [])) (names_at births (l ++ row ∷ []))
    next l row t were =
        let grown = names_grow births l row in
        subst (Each (WasLed births (l ++ row ∷ []))) (sym grown.1)
        (Each-append (WasLed births (l ++ row ∷ [])) (names_at births l) grown.0
        (Each-weaker (WasLed births l) (WasLed births (l ++ row ∷ [])) (λ name was. record { prefix = was.prefix; more = was.more ++ row ∷ []; are = ap (λ k. k ++ row ∷ []) was.are ∙ append_assoc was.prefix was.more (row ∷ []); led = was.led }) (names_at births l) were)
        (Each-weaker (λ name. is_led births (l ++ row ∷ []) name ≡ true) (WasLed births (l ++ row ∷ [])) (led_now births (l ++ row ∷ [])) grown.0 grown.2))

-- one that leads is a replica
leads_one : (name : Draw) (player : Player) → leads name player ≡ true → (r : ReplicaState) × (replica_of name (chart_replicas player) ≡ Some r)
leads_one name (Node node) led = by (replica_of name node.replicas) refl led
  where
    by : (o : Option ReplicaState) → replica_of name node.replicas ≡ o → is_leading o ≡ true → (r : ReplicaState) × (replica_of name node.replicas ≡ Some r)
    by None e l = cc
    by (Some r) e l = (r, e)
leads_one name (Client client) led = cc

same_replicas : (player : Player) (name : Draw) → replica_of name (view_replicas player) ≡ replica_of name (chart_replicas player)
same_replicas (Node node) name = refl
same_replicas (Client client) name = refl

-- so a group that is led has a replica
pub led_is_there : (births : List (Seat Player)) (rows : Rows) (name : Draw) → are_apart births ≡ true → is_led births rows name ≡ true → IsThere births rows name
led_is_there births rows name apart led =
    let f = any_found (λ (seat : Seat Player). leads name (value player_table seat rows)) births led in
    let r = leads_one name (value player_table f.0 rows) f.2 in
    (f.0.who, r.0, ap (replica_in name rows) (seat_found births f.0 apart f.1) ∙ (same_replicas (value player_table f.0 rows) name ∙ r.1))

-- ---- a quiet prefix that rests

module _ (found_law : PrefixesAreFound) (words : ℕ → ℕ → ℕ × ℕ) (scenario : Scenario) (first : Base) (journal quiet : Rows) (calm : IsCalmJournal words scenario journal) (rests : RestsAt words scenario first journal quiet) where
  seen_so : (name : Draw) (node : ℕ) → replicas_after scenario quiet name node ≡ view_at (births as_nodes scenario) quiet name node
  seen_so = (found_law words scenario journal quiet calm rests.prefix).views

  led_so : (name : Draw) → StandsQuiet (replicas_after scenario quiet) name ⊎ IsGoneQuiet (replicas_after scenario quiet) name → is_led (births as_nodes scenario) quiet name ≡ true
  led_so name (inl stands) = led_there (births as_nodes scenario) quiet name stands.lead.me stands.lead (sym (seen_so name stands.lead.me) ∙ stands.newest.is_there) (ap (λ b. b || is_some stands.lead.group.core.gone) stands.leads.running)
  led_so name (inr gone) = led_there (births as_nodes scenario) quiet name gone.last.me gone.last (sym (seen_so name gone.last.me) ∙ gone.newest.is_there) (gone_leads gone.last.running gone.last.group.core.gone gone.into gone.went)

  -- each group that has a replica is led
  pub there_is_led : (name : Draw) → IsThere (births as_nodes scenario) quiet name → is_led (births as_nodes scenario) quiet name ≡ true
  there_is_led name there = led_so name (rests.fact.quiet.groups name there.0 (there.1, seen_so name there.0 ∙ there.2))

module _ (all_bounded : ValidScenariosAreBounded) (found_law : PrefixesAreFound) (once_law : LawfulReplicasAreNamedOnce) (agree_law : ViewsAgree) (last_law : ReplicasLast) (rest_law : QuietChartsRest)
    (words : ℕ → ℕ → ℕ × ℕ) (scenario : Scenario) (first : Base) (others : List Base) (journal rows : Rows) (groups : scenario.groups ≡ first ∷ others) (calm : IsCalmJournal words scenario journal) (timely : AreInTime (players words (births as_nodes scenario)) rows) (rests : RestsAt words scenario first journal rows) where
  abbrev all : List (Seat Player)
  all = births as_nodes scenario

  views : (name : Draw) (node : ℕ) → replicas_after scenario rows name node ≡ view_at all rows name node
  views = (found_law words scenario journal rows calm rests.prefix).views

  apart : are_apart (births as_nodes scenario) ≡ true
  apart = (stage scenario (all_bounded scenario calm.valid)).seats_apart

  -- ---- groups

  led_still : (name : Draw) → WasLed all rows name → is_led all rows name ≡ true
  led_still name was =
      let there = led_is_there all was.prefix name apart was.led in
      let later = last_law words scenario was.prefix was.more name there.0 there.1 (subst (AreInTime (players words all)) was.are timely) there.2 in
      there_is_led found_law words scenario first journal rows calm rests name (there.0, later.0, ap (λ l. view_at all l name there.0) was.are ∙ later.1)

  all_led : AreAllLed all rows
  all_led = Each-weaker (WasLed all rows) (λ name. is_led all rows name ≡ true) led_still (names_at all rows) (names_were_led words all rows timely)

  -- ---- players

  node_rests : (seat : Seat Player) → Among seat all → (node : NodeState) → value player_table seat rows ≡ Node node → Each IsAtRest node.replicas
  node_rests seat a node fact =
      let f = found_law words scenario journal rows calm rests.prefix in
      Each-from IsAtRest node.replicas (λ r here. (
      let p = place_of all_bounded once_law agree_law words scenario rows calm.valid f.lawful f.homes r (into_seats rows all seat r a (subst (λ (x : Player). Among r (chart_replicas x)) (sym fact) here)) in
      rests.fact.quiet.at_rest (name_of r) p.0 r (views (name_of r) p.0 ∙ p.1)))

  waits_none : (b : Bool) (client : ClientState) → IsAnswered b (route_of first) client → client.waiting ≡ None
  waits_none false client fact = ap (λ (c : ClientState). c.waiting) fact
  waits_none true client fact = fact.0

  client_rests : (asks : Asks) → Among asks scenario.clients → IsResting (value player_table (client_seat (route_of first) asks) rows)
  client_rests asks a =
      let p = rests.fact.players asks a in
      let answer = Each-among (λ (client : Bool × ClientState). IsAnswered client.0 (route_of first) client.1) rests.fact.clients (has_started rows (client_actor asks.client), p.0) rests.fact.quiet.answered p.4 in
      subst IsResting (sym p.1) (waits_none (has_started rows (client_actor asks.client)) p.0 answer)

  seat_rests : (seat : Seat Player) → Among seat all → IsResting (value player_table seat rows)
  seat_rests seat a = elim (Among-either seat (map (node_seat as_nodes scenario.groups scenario.policy) (numbers_from 1 scenario.nodes)) (client_seats scenario.groups scenario.clients) a) [
    | inl node ↦ (
        let m = from_map (node_seat as_nodes scenario.groups scenario.policy) (numbers_from 1 scenario.nodes) seat node in
        let n = node_replays m.0 [] rows (born_node slots_ahead m.0 scenario.groups scenario.policy) in
        let fact : value player_table seat rows ≡ Node n.0 = ap (λ x. value player_table x rows) (sym m.2) ∙ n.1 in
        subst IsResting (sym fact) (node_rests seat a n.0 fact))
    | inr client ↦ (
        let here : Among seat (map (client_seat (route_of first)) scenario.clients) = subst (λ gs. Among seat (client_seats gs scenario.clients)) groups client in
        let m = from_map (client_seat (route_of first)) scenario.clients seat here in
        subst (λ x. IsResting (value player_table x rows)) m.2 (client_rests m.0 m.1))
  ]

  pub all_rest : Each (λ seat. IsResting (value player_table seat rows)) (births as_nodes scenario)
  all_rest = Each-from (λ seat. IsResting (value player_table seat rows)) all seat_rests

  -- so it rests by its chart
  pub rests_by_chart : (far sent : ℕ) → RestsCalm all (chart_at far sent (players words all) []) (chart_at far sent (players words all) rows) rows
  rests_by_chart far sent = rest_law words all far sent rows all_rest all_led
