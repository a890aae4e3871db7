-- One request more, and one client more, with the steps at which their words stand.
use Rattle.std.proofs.Common.{◌≡◌, ℕ, ◌+◌, ◌*◌, ◌%◌, ◌^◌, ◌<◌, ◌≤◌, List, [], ◌∷◌, ◌++◌, sym, ap, ap₂, ◌∙◌, arith}
use Rattle.std.proofs.Math.Nat.{mul-le-mul}
use Rattle.std.proofs.lemmas.Nat.{mod_low}
use Rattle.sc_base.specs.declared.ops.Op.{Op}
use Rattle.sc_texts.specs.chance.KeyStream.{ChanceStep, after_step, two_words}
use Rattle.sc_scenario.specs.scenario.Made.{made_op, made_ops, made_clients}
use Rattle.sc_scenario.specs.declared.scenario.scenarios.Asks.{Asks}
use Rattle.sc_scenario.proofs.ScenarioProofs.Made.{ops_next, clients_next}

-- few steps do not come round
step_small : (step : ℕ) → step + 1 < 2 ^ 67 → (step + 1) % 2 ^ 67 ≡ step + 1
step_small step few =
    let zero_times : 0 * 2 ^ 67 + (step + 1) ≡ step + 1 = omega arith in
    ap (λ n. n % 2 ^ 67) (sym zero_times) ∙ mod_low 0 67 (step + 1) few

-- the step of the next request
pub step_next : (n before k : ℕ) → before < 64 → n ≤ 1000 → k < n → (before * n + k + 1) % 2 ^ 67 ≡ before * n + (k + 1)
step_next n before k few short within =
    let most : before * n ≤ 63 * 1000 = mul-le-mul {n₁ = before} {m₁ = n} {n₂ = 63} {m₂ = 1000} (omega (arith, few)) short in
    step_small (before * n + k) (omega (arith, most, within, short)) ∙ (omega arith)

-- the step of the next client's first request
pub next_start : (n before : ℕ) → before * n + n ≡ (before + 1) * n
next_start n before = grind arith

-- one request more
pub one_more_op : (start here there : ChanceStep) (n before k : ℕ) (ops more : List Op) (words : ℕ × ℕ) (op : Op) → before < 64 → n ≤ 1000 → k < n
    → (ops ≡ made_ops start.number n before k) × (here ≡ record start { step = before * n + k })
    → words ≡ two_words here.number here.step → there ≡ after_step here → op ≡ made_op words (before + 1) (k + 1) → more ≡ ops ++ op ∷ []
    → (more ≡ made_ops start.number n before (k + 1)) × (there ≡ record start { step = before * n + (k + 1) })
one_more_op start here there n before k ops more words op few short within so_far drawn next is put =
    let words_are : words ≡ two_words start.number (before * n + k) = drawn ∙ ap₂ two_words (ap (λ (c : ChanceStep). c.number) so_far.1) (ap (λ (c : ChanceStep). c.step) so_far.1) in (
      put ∙ ap₂ (λ ops op. ops ++ op ∷ []) so_far.0 (is ∙ ap (λ words. made_op words (before + 1) (k + 1)) words_are) ∙ sym (ops_next start.number n before k),
      next ∙ ap after_step so_far.1 ∙ ap (λ step. record start { step = step }) (step_next n before k few short within),
    )

-- one client more
pub one_more_client : (seed n k : ℕ) (here there : ChanceStep) (clients more : List Asks) (ops : List Op)
    → (clients ≡ made_clients seed n k) × (here ≡ record { number = seed; step = k * n })
    → ops ≡ made_ops here.number n k n → there ≡ record here { step = k * n + n } → more ≡ clients ++ record { client = k + 1; ops = ops } ∷ []
    → (more ≡ made_clients seed n (k + 1)) × (there ≡ record { number = seed; step = (k + 1) * n })
one_more_client seed n k here there clients more ops so_far is next put =
    let seed_is = ap (λ (c : ChanceStep). c.number) so_far.1 in (
      put ∙ ap₂ (λ (clients : List Asks) ops. clients ++ record { client = k + 1; ops = ops } ∷ []) so_far.0 (is ∙ ap (λ seed. made_ops seed n k n) seed_is) ∙ sym (clients_next seed n k),
      next ∙ ap₂ (λ number step. record { number = number; step = step }) seed_is (next_start n k),
    )
