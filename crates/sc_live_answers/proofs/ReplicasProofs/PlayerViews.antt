-- The replicas of players are those of the nodes.
use Rattle.sc_live_journals.proofs.LogsProofs.GroupLogLemmas.{no_client}
use Rattle.std.proofs.Common.{◌≡◌, ℕ, ◌≤◌, eqb, cond, true, false, Bool, List, [], ◌∷◌, ◌++◌, find, map, Option, Some, None, inl, inr, refl, sym, ◌∙◌, ap, subst, arith}
use Rattle.std.proofs.lemmas.Bool.{eqb-true}
use Rattle.std.proofs.lemmas.Option.{none-some}
use Rattle.sc_base.specs.Definitions.{Among, client_actor}
use Rattle.sc_node_table.specs.Values.{Draw, Node, Client, OrderLine, Mail, Seat, Input}
use Rattle.sc_actor.specs.Definitions.{value, acted, replay, input_of}
use Rattle.sc_client_table.specs.table.TableDefinitions.{Client as ClientState, born_client, table}
use Rattle.sc_live_orderly.proofs.OrderlyLemmas.{seat_found}
use Rattle.sc_paxos_law.proofs.Lemmas.{Among-either, from_map}
use Rattle.sc_words.proofs.PaxosProofs.PaxosLemmas.{find_found}
use Rattle.sc_node_table.specs.NodeDefinitions.{replica_of, born_node, ReplicaState, numbers_from}
use Rattle.sc_scenario.specs.declared.scenario.scenarios.Asks.{Asks}
use Rattle.sc_scenario.specs.declared.scenario.scenarios.Scenario.{Scenario}
use Rattle.sc_scenario.specs.scenario.Definitions.{IsBounded}
use Rattle.sc_meaning.specs.sound.SoundDefinitions.{Player, player_table, node_seat, client_seat, route_of, births, as_nodes}
use Rattle.sc_law_groups.proofs.WholeProofs.WholeLemmas.{all_apart}
use Rattle.sc_live_steps.specs.calm.CalmDefinitions.{Rows}
use Rattle.sc_live_journals.specs.rows.RowDefinitions.{replicas_of, replica_in, view_at}
use Rattle.sc_live_journals.specs.charts.ChartDefinitions.{replicas_of as chart_replicas, replica_at as chart_replica}
use Rattle.sc_live_plain.specs.PlainDefinitions.{replicas_after, replicas_of as node_replicas}
use Rattle.sc_live_plain.proofs.PlainLemmas.{IsStage, stage, in_numbers, node_born, node_number}
use Rattle.sc_live_answers.specs.AnswerDefinitions.{AreAtNodes, ViewsAgree}

-- ---- what a player has

same_replicas : (player : Player) → replicas_of player ≡ node_replicas player
same_replicas (Node node) = refl
same_replicas (Client client) = refl

chart_same : (player : Player) → chart_replicas player ≡ replicas_of player
chart_same (Node node) = refl
chart_same (Client client) = refl

-- ---- clients stay clients

client_step : (client : ClientState) (o : Option (Input Mail OrderLine)) → (later : ClientState) × ((acted player_table (Client client) o).0 ≡ Client later)
client_step client None = (client, refl)
client_step client (Some input) = ((table client input).0, refl)

client_replays : (who : ℕ) (sent : List Mail) (rows : Rows) (client : ClientState) → replicas_of (replay player_table who (Client client) sent rows) ≡ []
client_replays who sent [] client = refl
client_replays who sent (row ∷ rows) client = by (eqb row.who who) (λ later. client_replays who (sent ++ row.sent) rows later)
  where
    by : (b : Bool) → ((later : ClientState) → replicas_of (replay player_table who (Client later) (sent ++ row.sent) rows) ≡ []) → replicas_of (replay player_table who (cond b (acted player_table (Client client) (input_of sent row.event)).0 (Client client)) (sent ++ row.sent) rows) ≡ []
    by true more = (let step = client_step client (input_of sent row.event) in ap (λ player. replicas_of (replay player_table who player (sent ++ row.sent) rows)) step.1 ∙ more step.0)
    by false more = more client

-- ---- by the chart

charts_from : (rows : Rows) (name : Draw) (who : ℕ) (seats : List (Seat Player)) → chart_replica seats rows name who ≡ replica_in name rows (find (λ seat. eqb seat.who who) seats)
charts_from rows name who [] = refl
charts_from rows name who (seat ∷ seats) = by (eqb seat.who who) (charts_from rows name who seats)
  where
    by : (b : Bool) → chart_replica seats rows name who ≡ replica_in name rows (find (λ other. eqb other.who who) seats) → cond b (replica_of name (chart_replicas (value player_table seat rows))) (chart_replica seats rows name who) ≡ replica_in name rows (cond b (Some seat) (find (λ other. eqb other.who who) seats))
    by true more = ap (replica_of name) (chart_same (value player_table seat rows))
    by false more = more

module _ (scenario : Scenario) (bounded : IsBounded scenario) (rows : Rows) (name : Draw) where
  abbrev seats : List (Seat Player)
  seats = births as_nodes scenario

  abbrev begins : IsStage scenario
  begins = stage scenario bounded

  abbrev nseat : ℕ → Seat Player
  nseat me = node_seat as_nodes scenario.groups scenario.policy me

  -- one of a node that there is
  at_node : (me : ℕ) → 1 ≤ me → me ≤ scenario.nodes → view_at seats rows name me ≡ replicas_after scenario rows name me
  at_node me one most =
      let found = seat_found seats (nseat me) (all_apart scenario bounded) (node_born (λ a b. (a, b)) scenario begins me one most) in
      ap (replica_in name rows) found
      ∙ (ap (replica_of name) (same_replicas (value player_table (nseat me) rows))
      ∙ sym (ap (λ b. cond b (replica_of name (node_replicas (value player_table (nseat me) rows))) None) (node_number (λ a b. (a, b)) scenario begins me one most)))

  -- a client has none
  client_none : (seat : Seat Player) → Among seat (map (client_seat (route_of begins.first)) scenario.clients) → replica_in name rows (Some seat) ≡ None
  client_none seat a =
      let f = from_map (client_seat (route_of begins.first)) scenario.clients seat a in
      subst (λ s. replica_in name rows (Some s) ≡ None) f.2 (of_client f.0)
    where
      of_client : (asks : Asks) → replica_in name rows (Some (client_seat (route_of begins.first) asks)) ≡ None
      of_client asks = ap (replica_of name) (client_replays (client_actor asks.client) [] rows (born_client asks.client asks.ops (route_of begins.first)))

  agree : AreAtNodes scenario rows → (who : ℕ) → view_at seats rows name who ≡ replicas_after scenario rows name who
  agree homes who = by (find (λ (seat : Seat Player). eqb seat.who who) seats) refl
    where
      none_after : ((one : 1 ≤ who) → who ≤ scenario.nodes → ⊥) → replicas_after scenario rows name who ≡ None
      none_after out = of (replicas_after scenario rows name who) refl
        where
          of : (o : Option ReplicaState) → replicas_after scenario rows name who ≡ o → o ≡ None
          of None e = refl
          of (Some r) e = (let home = homes name who (r, e) in absurd (out home.0 home.1))

      by : (o : Option (Seat Player)) → find (λ (seat : Seat Player). eqb seat.who who) seats ≡ o → replica_in name rows o ≡ replicas_after scenario rows name who
      by None found = sym (none_after (λ one most. none-some (nseat who) (sym found ∙ seat_found seats (nseat who) (all_apart scenario bounded) (node_born (λ a b. (a, b)) scenario begins who one most))))
      by (Some seat) found =
          let fact = find_found (λ (s : Seat Player). eqb s.who who) seats seat found in
          let mine = eqb-true seat.who who fact.1 in
          elim (Among-either seat (map nseat (numbers_from 1 scenario.nodes)) (map (client_seat (route_of begins.first)) scenario.clients) (subst (Among seat) begins.seats fact.0)) [
            | inl node ↦ (
                let m = from_map nseat (numbers_from 1 scenario.nodes) seat node in
                let within = in_numbers 1 scenario.nodes m.0 m.1 in
                let one = within.0 in
                let most = within.1 in
                let same : m.0 ≡ who = ap (λ (s : Seat Player). s.who) m.2 ∙ mine in
                sym (ap (replica_in name rows) found) ∙ at_node who (omega (arith, one, same)) (omega (arith, most, same)))
            | inr client ↦ client_none seat client ∙ sym (none_after (λ one most. (
                let other = seat_found seats (nseat who) (all_apart scenario bounded) (node_born (λ a b. (a, b)) scenario begins who one most) in
                let there : seat ≡ nseat who = (let e : Some seat ≡ Some (nseat who) = sym found ∙ other in cc) in
                let f = from_map (client_seat (route_of begins.first)) scenario.clients seat client in
                no_both (nseat who) f.0 (f.2 ∙ there))))
          ]
        where
          no_both : (s : Seat Player) (asks : Asks) → client_seat (route_of begins.first) asks ≡ nseat who → ⊥
          no_both s asks e = no_client (born_client asks.client asks.ops (route_of begins.first)) (born_node as_nodes.slots who scenario.groups scenario.policy) (ap (λ (x : Seat Player). x.actor) e)

-- After any rows of a scenario the replica of a player is that of the node with its number.
pub views_agree : ViewsAgree
views_agree = record {
  nodes = λ scenario rows name who bounded homes. agree scenario bounded rows name homes who;
  charts = λ scenario rows name who. charts_from rows name who (births as_nodes scenario);
}
