-- Each replica that a player has is seen at that player, by its group's name.
use Rattle.std.proofs.Common.{◌≡◌, ℕ, ◌≤◌, eqb, cond, true, false, Bool, List, [], ◌∷◌, ◌++◌, map, Option, Some, None, inl, inr, refl, sym, ◌∙◌, ap, subst, arith}
use Rattle.sc_base.specs.Definitions.{Among, client_actor}
use Rattle.sc_node_table.specs.Values.{Base, OrderLine, Mail, Client, Seat, Input, Route}
use Rattle.sc_actor.specs.Definitions.{value, acted, replay, input_of}
use Rattle.sc_client_table.specs.table.TableDefinitions.{Client as ClientState, born_client, table}
use Rattle.sc_scenario.specs.scenario.Definitions.{IsValid, ValidScenariosAreBounded}
use Rattle.sc_scenario.specs.declared.scenario.scenarios.Asks.{Asks}
use Rattle.sc_scenario.specs.declared.scenario.scenarios.Scenario.{Scenario}
use Rattle.sc_node_table.specs.NodeDefinitions.{replica_of, born_node, ReplicaState, name_of, numbers_from, slots_ahead}
use Rattle.sc_meaning.specs.sound.SoundDefinitions.{Player, player_table, births, as_nodes, node_seat, client_seat, client_seats, route_of, Lawful}
use Rattle.sc_live_steps.specs.calm.CalmDefinitions.{Rows}
use Rattle.sc_live_journals.specs.rows.RowDefinitions.{view_at}
use Rattle.sc_live_answers.specs.AnswerDefinitions.{LawfulReplicasAreNamedOnce, AreAtNodes, ViewsAgree}
use Rattle.sc_live_journals.specs.charts.ChartDefinitions.{replicas_of as chart_replicas, all_replicas}
use Rattle.sc_live_plain.specs.PlainDefinitions.{replicas_after}
use Rattle.sc_live_plain.proofs.PlainLemmas.{in_numbers}
use Rattle.sc_live_answers.proofs.ReplicasProofs.Nodes.{node_replays}
use Rattle.sc_live_answers.proofs.AnswersProofs.ChartSequence.{split_among}
use Rattle.sc_paxos_law.proofs.Lemmas.{from_map}
use Rattle.sc_live_answers.proofs.LinesProofs.Frames.{found_once, nodes_numbered}
use Rattle.sc_live_answers.proofs.ReplicasProofs.AllReplicas.{from_seats}

-- ---- a client stays a client

pub client_stays : (who : ℕ) (sent : List Mail) (rows : Rows) (client : ClientState) → (later : ClientState) × (replay player_table who (Client client) sent rows ≡ Client later)
client_stays who sent [] client = (client, refl)
client_stays who sent (row ∷ rows) client = by (eqb row.who who) (input_of sent row.event) (λ later. client_stays who (sent ++ row.sent) rows later)
  where
    by : (b : Bool) (o : Option (Input Mail OrderLine)) → ((later : ClientState) → (last : ClientState) × (replay player_table who (Client later) (sent ++ row.sent) rows ≡ Client last))
        → (last : ClientState) × (replay player_table who (cond b (acted player_table (Client client) o).0 (Client client)) (sent ++ row.sent) rows ≡ Client last)
    by true None more = more client
    by true (Some input) more = more (table client input).0
    by false o more = more client

module _ (all_bounded : ValidScenariosAreBounded) (once_law : LawfulReplicasAreNamedOnce) (agree_law : ViewsAgree) (words : ℕ → ℕ → ℕ × ℕ) (scenario : Scenario) (rows : Rows) (valid : IsValid scenario) (lawful : Lawful as_nodes words scenario rows) (homes : AreAtNodes scenario rows) where
  abbrev seat_of : ℕ → Seat Player
  seat_of me = node_seat as_nodes scenario.groups scenario.policy me

  no_client : (r : ReplicaState) (bases : List Base) (seat : Seat Player) → Among seat (client_seats bases scenario.clients) → Among r (chart_replicas (value player_table seat rows)) → ⊥
  no_client r [] seat a here = absurd a
  no_client r (base ∷ bases) seat a here =
      let f = from_map (client_seat (route_of base)) scenario.clients seat a in
      let stays = client_replays f.0 (route_of base) in
      subst (λ player. Among r (chart_replicas player)) (ap (λ x. value player_table x rows) (sym f.2) ∙ stays.1) here
    where
      client_replays : (asks : Asks) (first : Route) → (later : ClientState) × (value player_table (client_seat first asks) rows ≡ Client later)
      client_replays asks first = client_stays (client_actor asks.client) [] rows (born_client asks.client asks.ops first)

  pub place_of : (r : ReplicaState) → Among r (all_replicas (births as_nodes scenario) rows) → (me : ℕ) × (view_at (births as_nodes scenario) rows (name_of r) me ≡ Some r)
  place_of r a =
      let f = from_seats rows (births as_nodes scenario) r a in
      elim (split_among (map seat_of (numbers_from 1 scenario.nodes)) (client_seats scenario.groups scenario.clients) f.0 f.1) [
        | inl node ↦ (
            let m = from_map seat_of (numbers_from 1 scenario.nodes) f.0 node in
            let within = in_numbers 1 scenario.nodes m.0 m.1 in
            let low = within.0 in
            let high = within.1 in
            let n = node_replays m.0 [] rows (born_node slots_ahead m.0 scenario.groups scenario.policy) in
            let here : Among r n.0.replicas = subst (λ player. Among r (chart_replicas player)) (ap (λ x. value player_table x rows) (sym m.2) ∙ n.1) f.2 in
            let most : m.0 ≤ scenario.nodes = omega (arith, high) in
            let once = once_law words scenario rows m.0 n.0 valid lawful low most n.1 in
            let at : replicas_after scenario rows (name_of r) m.0 ≡ Some r =
            ap (λ b. cond b (replica_of (name_of r) (chart_replicas (value player_table (seat_of m.0) rows))) None) (nodes_numbered all_bounded scenario valid m.0 low most)
            ∙ (ap (λ player. replica_of (name_of r) (chart_replicas player)) n.1 ∙ found_once n.0.replicas r once here) in
            (m.0, agree_law.nodes scenario rows (name_of r) m.0 (all_bounded scenario valid) homes ∙ at))
        | inr client ↦ absurd (no_client r scenario.groups f.0 client f.2)
      ]
