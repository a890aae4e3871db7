-- Replicas are at nodes of their scenario, where rows come in time.
use Rattle.std.proofs.Common.{◌≡◌, ℕ, zero, suc, ◌+◌, ◌<◌, ◌≤◌, leb, eqb, Bool, true, List, [], ◌∷◌, ◌++◌, length, map, filter, Some, None, inl, inr, refl, sym, ◌∙◌, ap, subst, append_assoc, arith}
use Rattle.std.specs.Prelude.{find}
use Rattle.std.proofs.lemmas.Bool.{cases_Bool, cases_lt, cond-true, cond-false, ne_eqb, and_parts, leb-true}
use Rattle.std.proofs.lemmas.Option.{none-some}
use Rattle.sc_base.specs.Definitions.{Among, most_nodes, same_draw, is_member}
use Rattle.sc_node_table.specs.Values.{Draw, Base, OrderLine, Mail, Seat, Row}
use Rattle.sc_actor.specs.Definitions.{value}
use Rattle.sc_actor.proofs.Lemmas.{value-snoc}
use Rattle.sc_live_orderly.specs.OrderlyDefinitions.{AreInTime}
use Rattle.sc_live_orderly.proofs.OrderlyLemmas.{by_time, last_in_time}
use Rattle.sc_words.proofs.PaxosProofs.PaxosLemmas.{Each-among, Each-from_All, find_found, from_filter}
use Rattle.sc_paxos_law.proofs.Lemmas.{Among-either, from_map, member-among}
use Rattle.sc_scenario.specs.scenario.Definitions.{group_at, IsBounded, IsBoundedClient, IsUpTo, ValidScenariosAreBounded}
use Rattle.sc_scenario.specs.declared.scenario.scenarios.Asks.{Asks}
use Rattle.sc_scenario.specs.declared.scenario.scenarios.Scenario.{Scenario}
use Rattle.sc_node_table.specs.NodeDefinitions.{is_node, replica_of, born_replicas, ReplicaState, name_of, born_replica, slots_ahead, numbers_from}
use Rattle.sc_meaning.specs.sound.SoundDefinitions.{Player, player_table, node_seat, client_seat, client_seats, route_of, births, as_nodes}
use Rattle.sc_live_steps.specs.calm.CalmDefinitions.{players}
use Rattle.sc_law_entries.specs.logs.LogDefinitions.{Rows}
use Rattle.sc_live_plain.specs.PlainDefinitions.{replicas_of}
use Rattle.sc_live_answers.specs.AnswerDefinitions.{AreAtNodes, IsCalmJournal, IsPrefixOf}
use Rattle.sc_live_answers.proofs.LinksProofs.LinkLogs.{of_up_to}

-- a client's seat is behind the nodes
client_who : (groups : List Base) (clients : List Asks) (seat : Seat Player) → Among seat (client_seats groups clients) → (asks : Asks) × Among asks clients × (seat.who ≡ most_nodes + asks.client)
client_who [] clients seat a = absurd a
client_who (base ∷ groups) clients seat a = (let f = from_map (client_seat (route_of base)) clients seat a in (f.0, f.1, sym (ap (λ (s : Seat Player). s.who) f.2)))

node_who : (groups : List Base) (policy : Bool) (count from : ℕ) (seat : Seat Player) → Among seat (map (node_seat as_nodes groups policy) (numbers_from from count)) → seat.who < from + count
node_who groups policy zero from seat a = absurd a
node_who groups policy (suc count) from seat (inl e) = (let fact = ap (λ (s : Seat Player). s.who) e in omega (arith, fact))
node_who groups policy (suc count) from seat (inr a) = (let more = node_who groups policy count (from + 1) seat a in omega (arith, more))

module _ (bounded : ValidScenariosAreBounded) (words : ℕ → ℕ → ℕ × ℕ) (scenario : Scenario) (journal prefix : Rows) (calm : IsCalmJournal words scenario journal) (fact : IsPrefixOf journal prefix) where
  bound : IsBounded scenario
  bound = bounded scenario calm.valid

  timely : AreInTime (players words (births as_nodes scenario)) prefix
  timely = λ before row after e. calm.timely before row (after ++ fact.more) (fact.fact ∙ (ap (λ rows. rows ++ fact.more) e ∙ append_assoc before (row ∷ after) fact.more))

  -- a member of a group of the scenario is one of its nodes
  member_in : (base : Base) → Among base scenario.groups → (node : ℕ) → is_member base.core.members node ≡ true → node ≤ scenario.nodes
  member_in base a node m =
      let p = of_up_to bound.starts (length bound.starts) base (subst (Among base) bound.groups a) in
      let line = bound.each p.0 (record { lo = 0; members = [] }) p.1 in
      (Each-among (IsUpTo scenario.nodes) (group_at bound.starts p.0).members node (Each-from_All (IsUpTo scenario.nodes) (group_at bound.starts p.0).members line.members_in)
      (member-among (group_at bound.starts p.0).members node (subst (λ (b : Base). is_member b.core.members node ≡ true) (sym p.2) m))).1

  -- a node that is none of the scenario's
  module _ (node : ℕ) (high : node ≤ most_nodes) (out : scenario.nodes < node) where
    abbrev seat : Seat Player
    seat = node_seat as_nodes scenario.groups scenario.policy node

    unborn : (other : Seat Player) → find (λ (x : Seat Player). eqb x.who other.who) (births as_nodes scenario) ≡ Some other → other.who ≡ node → ⊥
    unborn other e same =
        let f = find_found (λ (x : Seat Player). eqb x.who other.who) (births as_nodes scenario) other e in
        elim (Among-either other (map (node_seat as_nodes scenario.groups scenario.policy) (numbers_from 1 scenario.nodes)) (client_seats scenario.groups scenario.clients) f.0) [
          | inl a ↦ (let low = node_who scenario.groups scenario.policy scenario.nodes 1 other a in omega (arith, low, same, out))
          | inr a ↦ (let c = client_who scenario.groups scenario.clients other a in
              let one = (Each-among IsBoundedClient scenario.clients c.0 (Each-from_All IsBoundedClient scenario.clients bound.clients) c.1).0.0 in
              let who = c.2 in
              omega (arith, one, who, same, high))
        ]

    stays : value player_table seat prefix ≡ seat.actor
    stays = by_time (players words (births as_nodes scenario)) (λ rows. value player_table seat rows ≡ seat.actor) refl next_row prefix timely
      where
        next_row : (rows : Rows) (row : Row Mail OrderLine) → AreInTime (players words (births as_nodes scenario)) (rows ++ row ∷ []) → value player_table seat rows ≡ seat.actor → value player_table seat (rows ++ row ∷ []) ≡ seat.actor
        next_row rows row t was =
            let c = (last_in_time (players words (births as_nodes scenario)) rows row t).0 in
            value-snoc player_table seat rows row
            ∙ (cond-false (eqb row.who node) _ (value player_table seat rows) (ne_eqb row.who node (λ e. unborn c.seat c.born (sym (ap (λ (r : Row Mail OrderLine). r.who) c.row_is) ∙ e))) ∙ was)

    no_replica : (name : Draw) (r : ReplicaState) → replica_of name (replicas_of (value player_table seat prefix)) ≡ Some r → ⊥
    no_replica name r e =
        let here : replica_of name (born_replicas slots_ahead node scenario.groups) ≡ Some r = sym (ap (λ (p : Player). replica_of name (replicas_of p)) stays) ∙ e in
        let f = find_found (λ (x : ReplicaState). same_draw (name_of x) name) (born_replicas slots_ahead node scenario.groups) r here in
        let m = from_map (λ base. born_replica slots_ahead node base) (filter (λ (base : Base). is_member base.core.members node) scenario.groups) r f.0 in
        let b = from_filter (λ (base : Base). is_member base.core.members node) scenario.groups m.0 m.1 in
        let low = member_in m.0 b.0 node b.1 in
        omega (arith, low, out)

  pub at_nodes : AreAtNodes scenario prefix
  at_nodes name node (r, e) = elim (cases_Bool (is_node node)) [
    | inl t ↦ (
        let both = and_parts (leb 1 node) (leb node most_nodes) t in
        let low = leb-true 1 node both.0 in
        let high = leb-true node most_nodes both.1 in
        elim (cases_lt scenario.nodes node) [
          | inl out ↦ absurd (no_replica node high out name r (sym (cond-true (is_node node) (replica_of name (replicas_of (value player_table (node_seat as_nodes scenario.groups scenario.policy node) prefix))) None t) ∙ e))
          | inr in_ ↦ (low, in_)
        ])
    | inr f ↦ absurd (none-some r (sym (cond-false (is_node node) (replica_of name (replicas_of (value player_table (node_seat as_nodes scenario.groups scenario.policy node) prefix))) None f) ∙ e))
  ]
