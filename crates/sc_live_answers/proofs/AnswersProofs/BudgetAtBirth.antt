-- What all owe at their births, and what one order raises, is within the budget of a calm scenario.
use Rattle.std.proofs.Common.{◌≡◌, ℕ, zero, suc, ◌+◌, ◌*◌, ◌≤◌, ltb, cond, List, [], ◌∷◌, length, map, refl, sym, ◌∙◌, ap, arith}
use Rattle.std.specs.List.{sum_by}
use Rattle.std.proofs.lemmas.Bool.{cond_both}
use Rattle.std.proofs.lemmas.List.Sums.{sum_by-cons, sum_by-append}
use Rattle.std.proofs.Math.Nat.{mul_comm, mul_left_comm, mul-add, mul-le-mul_left}
use Rattle.sc_node_table.specs.Values.{Base, Seat}
use Rattle.sc_node_table.specs.NodeDefinitions.{numbers_from}
use Rattle.sc_scenario.specs.declared.scenario.scenarios.Asks.{Asks}
use Rattle.sc_scenario.specs.declared.scenario.scenarios.Scenario.{Scenario}
use Rattle.sc_meaning.specs.sound.SoundDefinitions.{Player, births, node_seat, client_seat, client_seats, route_of, as_nodes}
use Rattle.sc_live_steps.specs.calm.CalmDefinitions.{Chart, birth_owes, births_owe}
use Rattle.sc_live_plain.specs.PlainDefinitions.{requests_of, orders_of, calm_budget_of}
use Rattle.sc_live_plain.proofs.PlainLemmas.{shares, sum_mapped, none_together}
use Rattle.sc_live_answers.specs.AnswerDefinitions.{IsFirstChart, BirthsAreCovered}

-- a client with a request owes no more than its share: for each request, and for each order
share_of : (share reach requests orders : ℕ) → requests + orders ≡ share → 1 ≤ requests
    → 28 * requests + (reach * (2 + 2 * (orders + 1)) + 2 * (orders + 1)) ≤ share * (32 + 8 * reach)
share_of share reach requests orders fact some =
    let less = mul-le-mul_left reach (let low : 2 + 2 * (orders + 1) ≤ 8 * share = omega (arith, fact, some) in low) in
    let parts = mul-add share 32 (8 * reach) in
    let turned : share * (8 * reach) ≡ reach * (8 * share) = mul_left_comm share 8 reach ∙ ap (λ n. 8 * n) (mul_comm share reach) ∙ sym (mul_left_comm reach 8 share) in
    omega (arith, less, parts, turned, fact, some)

module _ (scenario : Scenario) (first : Chart) (fact : IsFirstChart scenario first) where
  abbrev orders : ℕ
  orders = orders_of scenario

  abbrev reach : ℕ
  reach = length scenario.groups + orders

  abbrev share : ℕ
  share = 32 + 8 * reach

  abbrev owes : Seat Player → ℕ
  owes seat = birth_owes first seat.actor

  searched : first.reach.most * (2 + 2 * first.ways.most) + 2 * first.ways.most ≡ reach * (2 + 2 * (orders + 1)) + 2 * (orders + 1)
  searched = ap (λ n. first.reach.most * (2 + 2 * n) + 2 * n) fact.most ∙ ap (λ n. n * (2 + 2 * (orders + 1)) + 2 * (orders + 1)) fact.reach

  share_by : (requests : ℕ) → 28 * requests + cond (ltb 0 requests) (first.reach.most * (2 + 2 * first.ways.most) + 2 * first.ways.most) 0 ≤ (requests + orders) * share
  share_by zero = omega arith
  share_by (suc n) =
      let some = share_of (suc n + orders) reach (suc n) orders refl (omega arith) in
      let same = searched in
      let most : ℕ = first.reach.most * (2 + 2 * first.ways.most) + 2 * first.ways.most in
      cond_both (ltb 0 (suc n)) most 0 (λ x. 28 * suc n + x ≤ (suc n + orders) * share) (λ _. omega (arith, some, same)) (λ _. omega (arith, some))

  clients_owe : (groups : List Base) (clients : List Asks) → sum_by owes (client_seats groups clients) ≤ sum_by (λ (asks : Asks). length asks.ops + orders) clients * share
  clients_owe [] clients = omega arith
  clients_owe (base ∷ groups) clients =
      let all = sum_mapped owes (client_seat (route_of base)) clients in
      let each = shares (λ (asks : Asks). owes (client_seat (route_of base) asks)) (λ (asks : Asks). length asks.ops + orders) share clients (λ asks a. share_by (length asks.ops)) in
      omega (arith, all, each)

  -- each request, and each order once for each client
  all_shares : (clients : List Asks) → sum_by (λ (asks : Asks). length asks.ops + orders) clients ≡ sum_by (λ (asks : Asks). length asks.ops) clients + orders * length clients
  all_shares [] = (let none : orders * 0 ≡ 0 = grind arith in omega (arith, none))
  all_shares (asks ∷ clients) =
      let one = sum_by-cons (λ (x : Asks). length x.ops + orders) asks clients in
      let other = sum_by-cons (λ (x : Asks). length x.ops) asks clients in
      let rest = all_shares clients in
      let more = mul-add orders (length clients) 1 in
      let once : orders * 1 ≡ orders = grind arith in
      omega (arith, one, other, rest, more, once)

  nodes_owe_none : sum_by owes (map (node_seat as_nodes scenario.groups scenario.policy) (numbers_from 1 scenario.nodes)) ≡ 0
  nodes_owe_none =
      sum_mapped owes (node_seat as_nodes scenario.groups scenario.policy) (numbers_from 1 scenario.nodes)
      ∙ none_together (λ me. owes (node_seat as_nodes scenario.groups scenario.policy me)) (numbers_from 1 scenario.nodes) (λ me. refl)

  pub covered : 1 ≤ orders → births_owe first (births as_nodes scenario) + (242 + 4 * first.ways.most) ≤ calm_budget_of scenario
  covered some =
      let nodes = map (node_seat as_nodes scenario.groups scenario.policy) (numbers_from 1 scenario.nodes) in
      let split = sum_by-append owes nodes (client_seats scenario.groups scenario.clients) in
      let none = nodes_owe_none in
      let clients = clients_owe scenario.groups scenario.clients in
      let same : sum_by (λ (asks : Asks). length asks.ops + orders) scenario.clients * share ≡ (requests_of scenario + orders * length scenario.clients) * share = ap (λ n. n * share) (all_shares scenario.clients) in
      let most = fact.most in
      omega (arith, split, none, clients, same, most, some)

-- The budget of a calm scenario with an order covers what its clients owe at their births and what one order raises, by a chart on which no way by hints is longer than one more than there are orders, and no client is sent on more often than there are groups and orders.
pub births_covered : BirthsAreCovered
births_covered scenario first fact some = covered scenario first fact some
