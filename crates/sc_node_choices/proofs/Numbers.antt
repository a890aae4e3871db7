-- One round over the numbers of nodes.
use Rattle.std.proofs.Common.{◌≡◌, ℕ, ◌+◌, ◌-◌, ◌<◌, Bool, true, false, List, [], ◌∷◌, ◌++◌, filter, suc, refl, ap, sym, ◌∙◌, arith, if◌then◌else◌}
use Rattle.std.proofs.Math.Seq.{append_snoc}
use Rattle.sc_node_table.specs.NodeDefinitions.{numbers_from}

-- a number of numbers before an end
abbrev pub numbers_to : ℕ → ℕ → List ℕ
numbers_to end from = numbers_from from (end - from)

-- the first of them, and those after it
pub numbers-step : (end from : ℕ) → from < end → numbers_to end from ≡ from ∷ numbers_to end (from + 1)
numbers-step end from less =
    let e : end - from ≡ suc (end - (from + 1)) = omega arith in
    ap (numbers_from from) e

-- the nodes of some sets, as far as they are tested
filtered_by : (f : ℕ → Bool) (node : ℕ) (rest : List ℕ) (b : Bool) → f node ≡ b → filter f (node ∷ rest) ≡ (if b then node ∷ filter f rest else filter f rest)
filtered_by f node rest b e = rw e refl

-- a node that is in one of the sets
pub nodes-taken : (f : ℕ → Bool) (end node : ℕ) (so_far whole : List ℕ) → node < end → f node ≡ true
    → so_far ++ filter f (numbers_to end node) ≡ whole → (so_far ++ node ∷ []) ++ filter f (numbers_to end (node + 1)) ≡ whole
nodes-taken f end node so_far whole less e is =
    let step : filter f (numbers_to end node) ≡ node ∷ filter f (numbers_to end (node + 1)) = ap (filter f) (numbers-step end node less) ∙ filtered_by f node (numbers_to end (node + 1)) true e in
    append_snoc so_far node (filter f (numbers_to end (node + 1))) ∙ ap (λ ys. so_far ++ ys) (sym step) ∙ is

-- a node that is in none
pub nodes-passed : (f : ℕ → Bool) (end node : ℕ) (so_far whole : List ℕ) → node < end → f node ≡ false
    → so_far ++ filter f (numbers_to end node) ≡ whole → so_far ++ filter f (numbers_to end (node + 1)) ≡ whole
nodes-passed f end node so_far whole less e is =
    let step : filter f (numbers_to end node) ≡ filter f (numbers_to end (node + 1)) = ap (filter f) (numbers-step end node less) ∙ filtered_by f node (numbers_to end (node + 1)) false e in
    ap (λ ys. so_far ++ ys) (sym step) ∙ is

-- where one was found, there is one
pub taken-some : (so_far rest : List ℕ) (node : ℕ) → (so_far ++ node ∷ []) ++ rest ≡ [] → ⊥
taken-some [] rest node e = cc
taken-some (x ∷ so_far) rest node e = cc
