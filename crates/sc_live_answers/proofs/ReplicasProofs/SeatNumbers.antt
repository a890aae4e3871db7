-- The number of a node that plays at a seat, and that its next name is not in use.
use Rattle.std.proofs.Common.{◌≡◌, ℕ, ◌≤◌, eqb, map, Option, Some, None, inl, inr, refl, sym, ◌∙◌, ap, subst, arith}
use Rattle.sc_base.specs.Definitions.{next_name, Among}
use Rattle.sc_node_table.specs.Values.{Draw, Seat, Node, Client}
use Rattle.sc_actor.specs.Definitions.{value}
use Rattle.sc_node_table.specs.NodeDefinitions.{NodeState, numbers_from}
use Rattle.sc_words.proofs.PaxosProofs.PaxosLemmas.{find_found}
use Rattle.sc_paxos_law.proofs.Lemmas.{Among-either, from_map}
use Rattle.sc_scenario.specs.scenario.Definitions.{IsValid, ValidScenariosAreBounded}
use Rattle.sc_scenario.specs.declared.scenario.scenarios.Scenario.{Scenario}
use Rattle.sc_meaning.specs.sound.SoundDefinitions.{Lawful, Player, as_nodes, births, client_seat, node_seat, player_table, route_of}
use Rattle.sc_law_entries.specs.names.NameDefinitions.{NodesHaveNames, OtherNamesAreFree, TakenOrdersAreAllowed, TakenWishesAreAllowed, WishesAreAtPositions, owner_in}
use Rattle.sc_law_groups.proofs.GroupProofs.GroupLemmas.{among_numbers}
use Rattle.sc_law_groups.specs.whole.WholeDefinitions.{ValidScenariosBeginWell}
use Rattle.sc_law_groups.proofs.WholeProofs.WholeLemmas.{orders_allowed}
use Rattle.sc_live_steps.specs.calm.CalmDefinitions.{Rows}
use Rattle.sc_live_journals.proofs.LogsProofs.GroupLogLemmas.{whole}
use Rattle.sc_live_journals.specs.rows.RowDefinitions.{IsSeat}
use Rattle.sc_live_answers.specs.AnswerDefinitions.{IsUnused, sources_of}

no_client : (client : _) (node : NodeState) → ◌≡◌ {A = Player} (Client client) (Node node) → ⊥
no_client client node e = cc

no_owner : (group : Draw) → ◌≡◌ {A = Option Draw} None (Some group) → ⊥
no_owner group e = cc

module _ (bounded : ValidScenariosAreBounded) (begin : ValidScenariosBeginWell) (allowed : TakenOrdersAreAllowed) (wishes : TakenWishesAreAllowed) (positions : WishesAreAtPositions) (free : OtherNamesAreFree) (names : NodesHaveNames) where
  module _ (words : ℕ → ℕ → ℕ × ℕ) (scenario : Scenario) (rows : Rows) (valid : IsValid scenario) (lawful : Lawful as_nodes words scenario rows) (seat : Seat Player) (seated : IsSeat (births as_nodes scenario) seat) (node : NodeState)
      (fact : value player_table seat rows ≡ Node node) where
    number_of : (n : ℕ) × (1 ≤ n) × (n ≤ scenario.nodes) × (value player_table (node_seat as_nodes scenario.groups scenario.policy n) rows ≡ Node node)
    number_of =
        let ready = begin (owner_in as_nodes scenario rows) (free as_nodes scenario rows) as_nodes refl scenario valid in
        let all = whole (sources_of scenario rows) as_nodes words scenario (route_of ready.first) ready.well rows (orders_allowed as_nodes words scenario (bounded scenario valid) allowed wishes positions rows lawful) lawful in
        elim (Among-either seat (map (node_seat as_nodes scenario.groups scenario.policy) (numbers_from 1 scenario.nodes)) (map (client_seat (route_of ready.first)) scenario.clients)
        (subst (Among seat) ready.well.seats.seats (find_found (λ (other : Seat Player). eqb other.who seat.who) (births as_nodes scenario) seat seated).0)) [
          | inl a ↦ (
              let at = from_map (node_seat as_nodes scenario.groups scenario.policy) (numbers_from 1 scenario.nodes) seat a in
              let bounds = among_numbers 1 scenario.nodes at.0 at.1 in
              let most = bounds.1 in
              (at.0, bounds.0, omega (arith, most), subst (λ (s : Seat Player). value player_table s rows ≡ Node node) (sym at.2) fact))
          | inr a ↦ (
              let at = from_map (client_seat (route_of ready.first)) scenario.clients seat a in
              let client = all.kept.clients at.0 at.1 in
              absurd (no_client client.client node (sym client.value_is ∙ ap (λ (s : Seat Player). value player_table s rows) at.2 ∙ fact)))
        ]

    -- its next name is new
    pub next_unused : IsUnused scenario rows (next_name node.draws)
    next_unused (inl zero_is) =
        let has = names as_nodes scenario rows number_of.0 number_of.1 number_of.2 node number_of.3 in
        let one = number_of.1 in
        let number = has.number in
        absurd (omega (arith, one, number, zero_is))
    next_unused (inr owned) =
        let has = names as_nodes scenario rows number_of.0 number_of.1 number_of.2 node number_of.3 in
        no_owner owned.0 (sym (has.left (next_name node.draws) has.number (omega arith)) ∙ owned.1)
