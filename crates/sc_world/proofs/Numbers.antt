-- The numbers from one on, one after another.
use Rattle.std.proofs.Common.{◌≡◌, ℕ, suc, ◌+◌, ◌-◌, ◌<◌, ◌∷◌, ap, arith}
use Rattle.sc_node_table.specs.Slots.{numbers_from}

-- the first number, and the rest of them
pub numbers_from-next : (from count : ℕ) → 0 < count → numbers_from from count ≡ from ∷ numbers_from (from + 1) (count - 1)
numbers_from-next from count some =
    let more : count ≡ suc (count - 1) = omega (arith, some) in
    ap (numbers_from from) more
