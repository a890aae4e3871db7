-- Acceptances by their slots.
use Rattle.std.specs.Prelude.{◌≡◌, ℕ, ◌==◌, List, [], filter, Option, Some, None}
use Rattle.sc_world_logs.specs.declared.accepting.Acceptance.{Acceptance}

-- the acceptances at a slot, in their order
abbrev pub acceptances_at : ℕ → List Acceptance → List Acceptance
acceptances_at slot found = filter (λ acceptance. acceptance.slot == slot) found

-- the acceptances of what is kept at a place; none where nothing is kept there
abbrev pub listed_in : {V : Type 0} → (V → List Acceptance) → Option V → List Acceptance
listed_in items None = []
listed_in items (Some kept) = items kept

-- for each slot the acceptances are kept that were found at it, in the order in which they were found
abbrev pub IsIndexed : (ℕ → List Acceptance) → List Acceptance → Type 0
IsIndexed kept found = (slot : ℕ) → kept slot ≡ acceptances_at slot found
