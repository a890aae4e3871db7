-- Each group of a list of lines is that of a line, and each line has its group.
use Rattle.std.proofs.Common.{◌≡◌, ℕ, zero, suc, ◌+◌, ◌<◌, ◌≤◌, ◌⊎◌, eqb, List, [], ◌∷◌, length, inl, inr, sym, ap, subst, arith}
use Rattle.std.proofs.lemmas.Bool.{cond_both, cases_lt, eqb-false}
use Rattle.sc_base.specs.Definitions.{Among}
use Rattle.sc_node_table.specs.Values.{Base}
use Rattle.sc_paxos_law.proofs.Lemmas.{Among-either, Among-left, Among-right}
use Rattle.sc_scenario.specs.scenario.Definitions.{base_at, bases_up_to, place_right, IsBounded}
use Rattle.sc_scenario.specs.declared.scenario.drafts.GroupLine.{GroupLine}
use Rattle.sc_scenario.specs.declared.scenario.scenarios.Scenario.{Scenario}

pub of_up_to : (lines : List GroupLine) (n : ℕ) (base : Base) → Among base (bases_up_to lines n) → (k : ℕ) × (k < n) × (base_at lines k ≡ base)
of_up_to lines zero base a = absurd a
of_up_to lines (suc n) base a = elim (Among-either base (bases_up_to lines n) (base_at lines n ∷ []) a) [
  | inl b ↦ (let r = of_up_to lines n base b in let low = r.1 in (r.0, omega (arith, low), r.2))
  | inr (inl e) ↦ (n, omega arith, e)
  | inr (inr e) ↦ absurd e
]

pub in_up_to : (lines : List GroupLine) (n k : ℕ) → k < n → Among (base_at lines k) (bases_up_to lines n)
in_up_to lines zero k low = absurd (omega (arith, low))
in_up_to lines (suc n) k low = elim (cases_lt k n) [
  | inl under ↦ Among-left (base_at lines k) (bases_up_to lines n) (base_at lines n ∷ []) (in_up_to lines n k under)
  | inr over ↦ (let same : k ≡ n = omega (arith, low, over) in Among-right (base_at lines k) (bases_up_to lines n) (base_at lines n ∷ []) (inl (ap (base_at lines) (sym same))))
]

-- of the groups of a scenario
pub group_place : (scenario : Scenario) (bounded : IsBounded scenario) (base : Base) → Among base scenario.groups → (k : ℕ) × (k < length bounded.starts) × (base_at bounded.starts k ≡ base)
group_place scenario bounded base a = of_up_to bounded.starts (length bounded.starts) base (subst (Among base) bounded.groups a)

-- the next place round the circle is one of a line
pub right_in : (lines : List GroupLine) (k : ℕ) → k < length lines → place_right lines k < length lines
right_in lines k low =
    cond_both (eqb (k + 1) (length lines)) 0 (k + 1) (λ (n : ℕ). n < length lines) (λ _. omega (arith, low)) (λ f. (let apart = eqb-false (k + 1) (length lines) f in by (cases_lt (k + 1) (length lines)) apart))
  where
    by : ((k + 1 < length lines) ⊎ (length lines ≤ k + 1)) → (k + 1 ≡ length lines → ⊥) → k + 1 < length lines
    by (inl lt) apart = lt
    by (inr ge) apart = absurd (apart (omega (arith, ge, low)))
