-- How far positions lie from the starts of arcs, one of which begins the other, over plain numbers.
use Rattle.std.proofs.Common.{◌≡◌, ℕ, suc, ◌+◌, ◌-◌, ◌%◌, ◌^◌, ◌<◌, ◌≤◌, arith}

-- beyond the arc that begins the other, a position is nearer to what is left by that arc's length
pub beyond : (lo len p : ℕ) → lo < 2 ^ 32 → len ≤ 2 ^ 32 → len ≤ ((p + 2 ^ 32) - lo) % 2 ^ 32 → ((p + 2 ^ 32) - (lo + len) % 2 ^ 32) % 2 ^ 32 + len ≡ ((p + 2 ^ 32) - lo) % 2 ^ 32
beyond lo len p fits most far = omega arith

-- a position of the arc that begins the other lies behind what is left
pub behind : (lo len more p : ℕ) → lo < 2 ^ 32 → len + more ≤ 2 ^ 32 → ((p + 2 ^ 32) - lo) % 2 ^ 32 < len → more ≤ ((p + 2 ^ 32) - (lo + len) % 2 ^ 32) % 2 ^ 32
behind lo len more p fits most near = omega arith

-- what lies near a position that an arc holds, it holds as well, as far as it reaches
pub near : (lo len start p : ℕ) → lo < 2 ^ 32 → start < 2 ^ 32 → len ≤ 2 ^ 32 → ((start + 2 ^ 32) - lo) % 2 ^ 32 < len
    → ((p + 2 ^ 32) - start) % 2 ^ 32 < len - ((start + 2 ^ 32) - lo) % 2 ^ 32 → ((p + 2 ^ 32) - lo) % 2 ^ 32 < len
near lo len start p lo_fits start_fits most held close = omega arith

-- what is left of a walk is no longer than the steps that are left
pub fewer : (len part more : ℕ) → 1 ≤ part → len ≤ suc more → len - part ≤ more
fewer len part more some h = omega arith

pub end_fits : (n : ℕ) → n % 2 ^ 32 < 2 ^ 32
end_fits n = omega arith
