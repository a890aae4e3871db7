-- The replicas of all players in a quiet journal are those that are seen at nodes.
use Rattle.std.proofs.Common.{◌≡◌, ℕ, ◌≤◌, List, [], ◌∷◌, map, Option, Some, inl, inr, sym, ◌∙◌, ap, subst, arith}
use Rattle.sc_base.specs.Definitions.{Among}
use Rattle.sc_node_table.specs.Values.{Draw, Base, OrderLine, Mail, Client, Seat, Row}
use Rattle.sc_actor.specs.Definitions.{value}
use Rattle.sc_node_table.specs.NodeDefinitions.{ReplicaState, name_of, numbers_from}
use Rattle.sc_paxos_law.proofs.Lemmas.{Among-left, from_map}
use Rattle.sc_scenario.specs.declared.scenario.scenarios.Scenario.{Scenario}
use Rattle.sc_scenario.specs.scenario.Definitions.{IsValid, ValidScenariosAreBounded}
use Rattle.sc_meaning.specs.sound.SoundDefinitions.{Player, player_table, node_seat, client_seat, client_seats, route_of, as_nodes, births, Lawful}
use Rattle.sc_live_journals.specs.charts.ChartDefinitions.{replicas_of as chart_replicas, all_replicas}
use Rattle.sc_live_plain.specs.PlainDefinitions.{replicas_after, IsQuietJournal, replicas_of}
use Rattle.sc_live_plain.proofs.PlainLemmas.{in_numbers, to_numbers, map_among}
use Rattle.sc_live_answers.specs.AnswerDefinitions.{LawfulReplicasAreNamedOnce, AreAtNodes}
use Rattle.sc_live_answers.proofs.AnswersProofs.ChartSequence.{split_among}
use Rattle.sc_live_answers.proofs.LinesProofs.Frames.{nodes_numbered, seen, view}
use Rattle.sc_live_answers.proofs.ReplicasProofs.AllReplicas.{from_seats, into_seats}

module _ (all_bounded : ValidScenariosAreBounded) (named : LawfulReplicasAreNamedOnce) (words : ℕ → ℕ → ℕ × ℕ) (scenario : Scenario) (first : Base) (others : List Base) (rows : List (Row Mail OrderLine)) (valid : IsValid scenario) (groups : scenario.groups ≡ first ∷ others)
    (lawful : Lawful as_nodes words scenario rows) (quiet : IsQuietJournal words scenario first rows) (homes : AreAtNodes scenario rows) where
  abbrev seen_at : Draw → ℕ → Option ReplicaState
  seen_at = replicas_after scenario rows

  abbrev seats : List (Seat Player)
  seats = births as_nodes scenario

  abbrev all : List ReplicaState
  all = all_replicas seats rows

  abbrev seat_of : ℕ → Seat Player
  seat_of me = node_seat as_nodes scenario.groups scenario.policy me

  pub node_there : (me : ℕ) → 1 ≤ me → me ≤ scenario.nodes → Among (seat_of me) seats
  node_there me low high = Among-left (seat_of me) (map seat_of (numbers_from 1 scenario.nodes)) (client_seats scenario.groups scenario.clients) (map_among seat_of (numbers_from 1 scenario.nodes) me (to_numbers 1 scenario.nodes me low (omega (arith, high))))

  -- a client has none
  no_client : (r : ReplicaState) (bases : List Base) → bases ≡ first ∷ others → (seat : Seat Player) → Among seat (client_seats bases scenario.clients) → Among r (chart_replicas (value player_table seat rows)) → ⊥
  no_client r [] e seat a here = cc
  no_client r (base ∷ bases) e seat a here =
      let same : base ≡ first = cc in
      let f = from_map (client_seat (route_of base)) scenario.clients seat a in
      let p = quiet.players f.0 f.1 in
      let fact : value player_table seat rows ≡ Client p.0 = ap (λ x. value player_table x rows) (sym f.2) ∙ (ap (λ (x : Base). value player_table (client_seat (route_of x) f.0) rows) same ∙ p.1) in
      subst (λ player. Among r (chart_replicas player)) fact here

  -- each replica is one that is seen of its group
  pub all_seen : (r : ReplicaState) → Among r all → (me : ℕ) × (seen_at (name_of r) me ≡ Some r)
  all_seen r a =
      let f = from_seats rows seats r a in
      elim (split_among (map seat_of (numbers_from 1 scenario.nodes)) (client_seats scenario.groups scenario.clients) f.0 f.1) [
        | inl node ↦ (
            let m = from_map seat_of (numbers_from 1 scenario.nodes) f.0 node in
            let within = in_numbers 1 scenario.nodes m.0 m.1 in
            let low = within.0 in
            let high = within.1 in
            let n = quiet.nodes m.0 low (omega (arith, high)) in
            let here = subst (λ player. Among r (chart_replicas player)) (ap (λ x. value player_table x rows) (sym m.2) ∙ n.1) f.2 in
            (m.0, view named words scenario first rows (nodes_numbered all_bounded scenario valid) valid lawful quiet homes m.0 r low (omega (arith, high)) (subst (λ player. Among r (replicas_of player)) (sym n.1) here)))
        | inr client ↦ absurd (no_client r scenario.groups groups f.0 client f.2)
      ]

  -- each replica that is seen is among all
  pub seen_all : (group : Draw) (me : ℕ) (r : ReplicaState) → seen_at group me ≡ Some r → Among r all
  seen_all group me r e =
      let home = homes group me (r, e) in
      let n = quiet.nodes me home.0 home.1 in
      let here = subst (λ player. Among r (replicas_of player)) n.1 (seen named words scenario first rows (nodes_numbered all_bounded scenario valid) valid lawful quiet homes group me r e) in
      into_seats rows seats (seat_of me) r (node_there me home.0 home.1) (subst (λ player. Among r (chart_replicas player)) (sym n.1) here)
