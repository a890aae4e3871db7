-- The lines of a calm scenario at its budget end quiet: by what is owed where there is an order, and else as those of a plain one.
use Rattle.std.proofs.Common.{◌≡◌, ℕ, ◌+◌, ◌*◌, ◌≤◌, true, Bool, cond, List, [], ◌∷◌, length, map, inl, inr, refl, sym, ◌∙◌, ap, subst, arith}
use Rattle.std.specs.List.{count_by}
use Rattle.std.proofs.lemmas.Bool.{cases_lt}
use Rattle.std.proofs.lemmas.List.Sums.{sum_by-cons}
use Rattle.std.proofs.Math.Nat.{mul-le-mul_left}
use Rattle.sc_base.specs.Definitions.{Each}
use Rattle.sc_node_table.specs.Values.{Line, OrderLine}
use Rattle.sc_actor.specs.declared.schedules.Line.TheVariants as line
use Rattle.sc_live_orderly.specs.OrderlyDefinitions.{HasRoom, gives_order as order_line, orders_given}
use Rattle.sc_scenario.specs.scenario.Definitions.{ValidScenariosAreBounded}
use Rattle.sc_scenario.specs.declared.scenario.scenarios.Scenario.{Scenario}
use Rattle.sc_scenario.specs.declared.scenario.scenarios.SchedLine.{SchedLine}
use Rattle.sc_scenario.specs.declared.scenario.scenarios.SchedLine.TheVariants.{Go, Deliver, Drop, Again, Tick, Crash, Told, Settle, Free, Storm}
use Rattle.sc_meaning.specs.sound.SoundDefinitions.{births, line_of, schedule, as_nodes}
use Rattle.sc_law_groups.proofs.WholeProofs.WholeLemmas.{all_apart}
use Rattle.sc_live_steps.specs.calm.CalmDefinitions.{births_owe, KeptCalmEndsQuiet}
use Rattle.sc_live_plain.specs.PlainDefinitions.{requests_of, budget_of, AllowsDeliveries, gives_order, orders_of, calm_budget_of, AllowsCalmly, CalmLinesAreSpaced, PlainLinesEndQuiet}
use Rattle.sc_live_answers.specs.AnswerDefinitions.{calm_deliveries_of, CalmLinesEndQuiet}
use Rattle.sc_live_answers.proofs.AnswersProofs.BudgetAtBirth.{births_covered}

-- one more that passes counts one more
one_more : {X : Type 0} (p : X → Bool) (x : X) (xs : List X) → p x ≡ true → count_by p (x ∷ xs) ≡ 1 + count_by p xs
one_more p x xs e = sum_by-cons (λ y. cond (p y) 1 0) x xs ∙ ap (λ b. cond b 1 0 + count_by p xs) e

-- the walk counts the orders that a scenario gives
pub orders_same : (lines : List SchedLine) → orders_given (map line_of lines) ≡ count_by gives_order lines
orders_same [] = refl
orders_same (Told node order ∷ lines) =
    one_more order_line (line.Told node order) (map line_of lines) refl ∙ ap (λ n. 1 + n) (orders_same lines) ∙ sym (one_more gives_order (Told node order) lines refl)
orders_same (_ ∷ lines) = orders_same lines

-- a line with room for more has room for less
room_for : (less more : ℕ) → less ≤ more → (line : Line OrderLine) → HasRoom more line → HasRoom less line
room_for less more le (line.Settle most) room = omega (arith, le, room)
room_for less more le (line.Free most workers) room = omega (arith, le, room)
room_for less more le _ room = tt

-- calm lines that give no order are plain, and have room for as much
pub plain_by : (less more : ℕ) → less ≤ more → (lines : List SchedLine) → count_by gives_order lines ≡ 0 → Each (AllowsCalmly more) lines → Each (AllowsDeliveries less) lines
plain_by less more le [] none calm = tt
plain_by less more le (Go client ∷ lines) none calm = (tt, plain_by less more le lines none calm.1)
plain_by less more le (Settle most ∷ lines) none calm = (let room = calm.0 in omega (arith, le, room), plain_by less more le lines none calm.1)
plain_by less more le (Free most workers ∷ lines) none calm = (let room = calm.0 in omega (arith, le, room), plain_by less more le lines none calm.1)
plain_by less more le (Told node order ∷ lines) none calm = (let one = one_more gives_order (Told node order) lines refl in absurd (omega (arith, none, one)))
plain_by less more le (Deliver who k ∷ lines) none calm = (let low = calm.0.1 in (calm.0.0, omega (arith, le, low)), plain_by less more le lines none calm.1)
plain_by less more le (Drop who k ∷ lines) none calm = absurd calm.0
plain_by less more le (Again mail ∷ lines) none calm = absurd calm.0
plain_by less more le (Tick who ∷ lines) none calm = absurd calm.0
plain_by less more le (Crash node ∷ lines) none calm = absurd calm.0
plain_by less more le (Storm number most ∷ lines) none calm = absurd calm.0

pub rooms_for : (less more : ℕ) → less ≤ more → (lines : List (Line OrderLine)) → Each (HasRoom more) lines → Each (HasRoom less) lines
rooms_for less more le [] rooms = tt
rooms_for less more le (one ∷ lines) rooms = (room_for less more le one rooms.0, rooms_for less more le lines rooms.1)

-- where no order is given the budget is at least that of a plain scenario
pub plain_budget : (scenario : Scenario) → orders_of scenario ≡ 0 → budget_of scenario ≤ calm_budget_of scenario
plain_budget scenario none =
    let groups : ℕ = length scenario.groups in
    let requests : ℕ = requests_of scenario in
    let less = mul-le-mul_left requests (let low : 32 + 4 * groups ≤ 32 + 8 * (groups + 0) = omega arith in low) in
    let same : calm_budget_of scenario ≡ (requests + 0 * length scenario.clients) * (32 + 8 * (groups + 0)) + 512 * 0 = ap (λ n. (requests + n * length scenario.clients) * (32 + 8 * (groups + n)) + 512 * n) none in
    let zeros : 0 * length scenario.clients ≡ 0 = grind arith in
    let shorter : (requests + 0 * length scenario.clients) * (32 + 8 * (groups + 0)) ≡ (requests + 0) * (32 + 8 * (groups + 0)) = ap (λ n. (requests + n) * (32 + 8 * (groups + 0))) zeros in
    let plain : (requests + 0) * (32 + 8 * (groups + 0)) ≡ requests * (32 + 8 * (groups + 0)) = ap (λ n. n * (32 + 8 * (groups + 0))) (let e : requests + 0 ≡ requests = omega arith in e) in
    omega (arith, less, same, shorter, plain)

-- what is owed at birth, and what all orders raise, is no more than all deliveries
pub within_deliveries : (still most orders budget : ℕ) → most ≡ orders + 1 → still + (242 + 4 * most) ≤ budget → still + orders * (242 + 4 * most) ≤ budget + orders * (242 + 4 * (orders + 1))
within_deliveries still most orders budget fact within =
    let same : orders * (242 + 4 * most) ≡ orders * (242 + 4 * (orders + 1)) = ap (λ n. orders * (242 + 4 * n)) fact in
    omega (arith, same, within)

module _ (all_bounded : ValidScenariosAreBounded) (spaced : CalmLinesAreSpaced) (quiet : KeptCalmEndsQuiet) (plain : PlainLinesEndQuiet) where
  pub calm_end_quiet : CalmLinesEndQuiet
  calm_end_quiet words scenario charts journal valid calm charted lawful = elim (cases_lt 0 (orders_of scenario)) [
    | inl some ↦ (
        let lines = spaced (calm_budget_of scenario) scenario calm in
        let given = orders_same scenario.lines in
        let still = births_owe (charts []) (births as_nodes scenario) in
        let raise : ℕ = 242 + 4 * (charts []).ways.most in
        let within = births_covered scenario (charts []) charted.first some in
        quiet words (births as_nodes scenario) (schedule scenario) charts (calm_deliveries_of scenario) journal (all_apart scenario (all_bounded scenario valid)) charted.keeps charted.rests
        lines.0
        (rooms_for (still + raise) (calm_budget_of scenario) within (schedule scenario) lines.1)
        (subst (λ (n : ℕ). still + n * raise ≤ calm_deliveries_of scenario) (sym given) (within_deliveries still (charts []).ways.most (orders_of scenario) (calm_budget_of scenario) charted.first.most within))
        lawful)
    | inr none ↦ (
        let zero_is : orders_of scenario ≡ 0 = omega (arith, none) in
        plain words scenario journal valid (plain_by (budget_of scenario) (calm_budget_of scenario) (plain_budget scenario zero_is) scenario.lines zero_is calm.lines) lawful)
  ]
