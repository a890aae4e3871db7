-- Positions round the ring.
use Rattle.std.proofs.Common.{◌≡◌, ℕ, ◌+◌, ◌-◌, ◌%◌, ◌^◌, ◌<◌, nat_lt, ap, arith}
use Rattle.sc_base.specs.Definitions.{Arc, holds}

same_offset : (lo p : ℕ) → lo < 2 ^ 32 → ((p % 2 ^ 32 + 2 ^ 32) - lo) % 2 ^ 32 ≡ ((p + 2 ^ 32) - lo) % 2 ^ 32
same_offset lo p fits = omega arith

-- a position once more round the ring is the same
pub holds_round : (arc : Arc) (p : ℕ) → arc.lo < 2 ^ 32 → holds arc (p % 2 ^ 32) ≡ holds arc p
holds_round arc p fits = ap (λ n. nat_lt n arc.len) (same_offset arc.lo p fits)

pub on_ring : (p : ℕ) → p % 2 ^ 32 < 2 ^ 32
on_ring p = omega arith
