-- The order of keys from a position on, round the ring.
use Rattle.std.specs.Prelude.{◌≡◌, ℕ, ◌+◌, ◌-◌, ◌%◌, ◌^◌, ◌<◌, ◌≤◌, List, length, All}
use Rattle.std.specs.List.{AllPairs}
use Rattle.std.specs.Ordering.{nat_cmp}
use Rattle.std.specs.Cmp.Lexicographic.{slice_cmp}
use Rattle.sc_base.specs.Definitions.{IsAscending, longest_key, IsText}
use Rattle.sc_group_table.specs.policy.Wishes.{positions_from}

-- how far a position lies after another, round the ring
abbrev pub far_from : ℕ → ℕ → ℕ
far_from lo p = ((p + 2 ^ 32) - lo) % 2 ^ 32

-- pairs with ascending keys have one position each, and in the order from a start on no position is farther from the start than a later one
abbrev pub KeysRiseFromTheStart : Type 0
KeysRiseFromTheStart =
    (lo : ℕ) (pairs : List (List ℕ × List ℕ)) → lo < 2 ^ 32 → All (λ (pair : List ℕ × List ℕ). IsText longest_key pair.0) pairs → IsAscending (slice_cmp nat_cmp) pairs →
    (length (positions_from lo pairs) ≡ length pairs) × AllPairs (λ p q. far_from lo p ≤ far_from lo q) (positions_from lo pairs)
