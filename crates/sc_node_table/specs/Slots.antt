-- Slots, and values by their slots, ascending.
use Rattle.std.specs.Prelude.{ℕ, zero, suc, ◌+◌, ◌==◌, nat_lt, List, [], ◌∷◌, if◌then◌else◌, Option, Some, None}

-- how many slots of a log are open at a time: the members of each slot are those of the state 4 entries before it (Paxos Made Simple, section 3)
abbrev pub slots_ahead : ℕ
slots_ahead = 4

-- a list without its first item
abbrev pub rest_of : {X : Type 0} → List X → List X
rest_of [] = []
rest_of (x ∷ xs) = xs

-- the numbers from `from` on, as many as the second argument says
abbrev pub numbers_from : ℕ → ℕ → List ℕ
numbers_from from zero = []
numbers_from from (suc more) = from ∷ numbers_from (from + 1) more

-- the value at a slot, if there is one
abbrev pub at_slot : {X : Type 0} → List (ℕ × X) → ℕ → Option X
at_slot [] slot = None
at_slot (e ∷ es) slot = if e.0 == slot then Some e.1 else at_slot es slot

-- the values with this one at its slot
abbrev pub with_slot : {X : Type 0} → List (ℕ × X) → ℕ → X → List (ℕ × X)
with_slot [] slot x = (slot, x) ∷ []
with_slot (e ∷ es) slot x =
    if e.0 == slot then (slot, x) ∷ es
    else if nat_lt slot e.0 then (slot, x) ∷ e ∷ es
    else e ∷ with_slot es slot x

-- the values without that of a slot
abbrev pub without_slot : {X : Type 0} → List (ℕ × X) → ℕ → List (ℕ × X)
without_slot [] slot = []
without_slot (e ∷ es) slot = if e.0 == slot then es else e ∷ without_slot es slot
