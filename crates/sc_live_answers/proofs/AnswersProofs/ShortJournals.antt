-- The journals of a calm scenario at its budget have few rows: its lines deliver at most a million times each, so its budget is no more, and it gives few orders.
use Rattle.std.proofs.Common.{◌≡◌, ℕ, ◌+◌, ◌*◌, ◌≤◌, true, false, true≢false, Bool, cond, ◌||◌, List, [], ◌∷◌, ◌++◌, length, map, inl, inr, refl, sym, ◌∙◌, ap, subst, arith, length-append}
use Rattle.std.specs.List.{list_any, count_by}
use Rattle.std.proofs.lemmas.Bool.{cases_Bool}
use Rattle.std.proofs.lemmas.List.{length-map}
use Rattle.std.proofs.lemmas.List.Sums.{sum_by-cons}
use Rattle.std.proofs.Math.Nat.{mul-le-mul}
use Rattle.sc_base.specs.Definitions.{Each}
use Rattle.sc_node_table.specs.Values.{Base}
use Rattle.sc_node_table.specs.NodeDefinitions.{numbers_from}
use Rattle.sc_live_orderly.specs.OrderlyDefinitions.{Nothing}
use Rattle.sc_live_orderly.proofs.OrderlyLemmas.{rows_of_all, goes_in_time}
use Rattle.sc_live_orderly.proofs.GivenOrders.{few_told, spaced_are_calm}
use Rattle.sc_words.proofs.PaxosProofs.PaxosLemmas.{Each-from_All}
use Rattle.sc_scenario.specs.scenario.Definitions.{most_deliveries, IsBoundedLine, ValidScenariosAreBounded}
use Rattle.sc_scenario.specs.declared.scenario.scenarios.Asks.{Asks}
use Rattle.sc_scenario.specs.declared.scenario.scenarios.Scenario.{Scenario}
use Rattle.sc_scenario.specs.declared.scenario.scenarios.SchedLine.{SchedLine}
use Rattle.sc_scenario.specs.declared.scenario.scenarios.SchedLine.TheVariants.{Go, Deliver, Told, Settle, Free}
use Rattle.sc_meaning.specs.sound.SoundDefinitions.{client_seats, client_seat, node_seat, route_of, schedule, as_nodes, system_of}
use Rattle.sc_law_groups.proofs.WholeProofs.WholeLemmas.{all_apart}
use Rattle.sc_live_plain.specs.PlainDefinitions.{delivers, gives_order, orders_of, calm_budget_of, AllowsCalmly, CalmLinesAreSpaced}
use Rattle.sc_live_plain.proofs.PlainLemmas.{few_clients}
use Rattle.sc_live_answers.specs.AnswerDefinitions.{CalmJournalsAreShort}
use Rattle.sc_live_answers.proofs.AnswersProofs.LineEnds.{orders_same}
use Rattle.sc_live_steps.proofs.CalmStepsProofs.CalmStepLemmas.{count_numbers}

-- ---- an order, and a line of deliveries behind it

-- one more that does not pass counts no more
fewer : {X : Type 0} (p : X → Bool) (x : X) (xs : List X) → p x ≡ false → count_by p (x ∷ xs) ≡ count_by p xs
fewer p x xs e = (let parts = sum_by-cons (λ y. cond (p y) 1 0) x xs in let none = ap (λ b. cond b 1 0 + count_by p xs) e in omega (arith, parts, none))

-- one of the lines that gives an order, with what is before and behind it
record Given (lines : List SchedLine) : Type 0 where
  before : List SchedLine
  after : List SchedLine
  one : SchedLine
  lines_are : lines ≡ before ++ one ∷ after
  gives : gives_order one ≡ true

found_order : (lines : List SchedLine) → 1 ≤ count_by gives_order lines → Given lines
found_order [] some = absurd (omega (arith, some))
found_order (one ∷ lines) some = elim (cases_Bool (gives_order one)) [
  | inl gives ↦ record { before = []; after = lines; one = one; lines_are = refl; gives = gives }
  | inr none ↦ (let g = found_order lines (subst (λ n. 1 ≤ n) (fewer gives_order one lines none) some) in record { before = one ∷ g.before; after = g.after; one = g.one; lines_are = ap (λ l. one ∷ l) g.lines_are; gives = g.gives })
]

-- such a line delivers a million times at most
line_low : (budget nodes : ℕ) (clients : List Asks) (line : SchedLine) → delivers line ≡ true → AllowsCalmly budget line → IsBoundedLine nodes clients line → budget ≤ most_deliveries
line_low budget nodes clients (Settle most) fact allows bounded = (let high = bounded.1 in omega (arith, allows, high))
line_low budget nodes clients (Free most workers) fact allows bounded = (let high = bounded.0.1 in omega (arith, allows, high))
line_low budget nodes clients (Go client) fact allows bounded = absurd (true≢false (sym fact))
line_low budget nodes clients (Told node order) fact allows bounded = absurd (true≢false (sym fact))
line_low budget nodes clients (Deliver who k) fact allows bounded = absurd (true≢false (sym fact))
line_low budget nodes clients _ fact allows bounded = absurd allows

-- so the budget is no more, where one of these delivers
lines_low : (budget nodes : ℕ) (clients : List Asks) (lines : List SchedLine) → Each (AllowsCalmly budget) lines → Each (IsBoundedLine nodes clients) lines → list_any delivers lines ≡ true → budget ≤ most_deliveries
lines_low budget nodes clients [] allows bounded some = absurd (true≢false (sym some))
lines_low budget nodes clients (line ∷ lines) allows bounded some = elim (cases_Bool (delivers line)) [
  | inl fact ↦ line_low budget nodes clients line fact allows.0 bounded.0
  | inr none ↦ lines_low budget nodes clients lines allows.1 bounded.1 (sym (ap (λ b. b || list_any delivers lines) none) ∙ some)
]

each_behind : {X : Type 0} (P : X → Type 0) (xs : List X) (x : X) (ys : List X) → Each P (xs ++ x ∷ ys) → Each P ys
each_behind P [] x ys each = each.1
each_behind P (z ∷ xs) x ys each = each_behind P xs x ys each.1

-- ---- how many rows there are

few_seats : (bases : List Base) (clients : List Asks) → length (client_seats bases clients) ≤ length clients
few_seats [] clients = omega arith
few_seats (base ∷ bases) clients = (let same = length-map clients (client_seat (route_of base)) in omega (arith, same))

-- as many orders as the budget allows raise little
raised_low : (budget orders : ℕ) → budget ≤ most_deliveries → 512 * orders ≤ budget → orders * (242 + 4 * (orders + 1)) ≤ 1954 * (242 + 4 * 1955)
raised_low budget orders low many = mul-le-mul (let a : orders ≤ 1954 = omega (arith, low, many) in a) (let b : 242 + 4 * (orders + 1) ≤ 242 + 4 * 1955 = omega (arith, low, many) in b)

module _ (all_bounded : ValidScenariosAreBounded) (spaced : CalmLinesAreSpaced) where
  pub journals_short : CalmJournalsAreShort
  journals_short words scenario journal valid calm some lawful timely few =
      let bounded = all_bounded scenario valid in
      let given = found_order scenario.lines some in
      let behind = calm.followed given.before given.after given.one given.lines_are given.gives in
      let allows = each_behind (AllowsCalmly (calm_budget_of scenario)) given.before given.one given.after (subst (Each (AllowsCalmly (calm_budget_of scenario))) given.lines_are calm.lines) in
      let bounds = each_behind (IsBoundedLine scenario.nodes scenario.clients) given.before given.one given.after (subst (Each (IsBoundedLine scenario.nodes scenario.clients)) given.lines_are (Each-from_All (IsBoundedLine scenario.nodes scenario.clients) scenario.lines bounded.lines)) in
      let low = lines_low (calm_budget_of scenario) scenario.nodes scenario.clients given.after allows bounds behind in
      let s = system_of as_nodes words scenario in
      let rows = rows_of_all s journal timely in
      let goes = goes_in_time s (all_apart scenario bounded) journal timely in
      let told = few_told s (schedule scenario) (spaced_are_calm Nothing (schedule scenario) (spaced (calm_budget_of scenario) scenario calm).0) journal lawful in
      let same = orders_same scenario.lines in
      let both = length-append (map (node_seat as_nodes scenario.groups scenario.policy) (numbers_from 1 scenario.nodes)) (client_seats scenario.groups scenario.clients) in
      let nodes = length-map (numbers_from 1 scenario.nodes) (node_seat as_nodes scenario.groups scenario.policy) in
      let numbers = count_numbers 1 scenario.nodes in
      let seats = few_seats scenario.groups scenario.clients in
      let few_nodes = bounded.nodes.1 in
      let few_clients_ = few_clients scenario.clients bounded.clients bounded.ascending in
      let orders = orders_low scenario in
      let raised = raised_low (calm_budget_of scenario) (orders_of scenario) low orders in
      omega (arith, few, low, rows, goes, told, same, both, nodes, numbers, seats, few_nodes, few_clients_, orders, raised)
    where
      orders_low : (scenario : Scenario) → 512 * orders_of scenario ≤ calm_budget_of scenario
      orders_low scenario = omega arith
