-- Where each pending copy stands among its receiver's pending mail.
use Rattle.std.specs.Prelude.{◌≡◌, ℕ, ◌<◌, ◌+◌, ◌-◌, ◌%◌, ◌==◌, List, [], ◌∷◌, ◌++◌, map, length, filter, fold, slice_get, slice_index, Bool, Option}
use Rattle.std.specs.List.{list_any}
use Rattle.sc_actor.specs.declared.rows.Row.{Row}
use Rattle.sc_actor.specs.Definitions.{mails}
use Rattle.sc_thread_ledger.specs.declared.spots.Spot.{Spot}
use Rattle.sc_thread_ledger.specs.Pending.{pending_of}

-- The copy of the mail `number` that comes after the copies `before`: its place is one more than the number of those with its receiver.
abbrev pub spot_after : List ℕ → List Spot → ℕ → Spot
spot_after receivers before number =
    record { number = number; who = slice_index receivers (number - 1); k = length (filter (λ s. s.who == slice_index receivers (number - 1)) before) + 1 }

-- The copy of the mail `number` that comes after the copies `before` and after `own` copies of the same mail.
abbrev pub spot_behind : List ℕ → List Spot → ℕ → ℕ → Spot
spot_behind receivers before number own =
    record { number = number; who = slice_index receivers (number - 1); k = length (filter (λ s. s.who == slice_index receivers (number - 1)) before) + own + 1 }

-- For each receiver that has a count, the count is the number of the copies with this receiver.
abbrev pub AreCounted : List ℕ → List Spot → Type 0
AreCounted counts spots = (who : ℕ) → who < length counts → slice_index counts who ≡ length (filter (λ s. s.who == who) spots)

-- The place of the copy is the one after the copies in `before` that have its receiver.
abbrev pub IsNext : List Spot → Spot → Type 0
IsNext before spot = spot.k ≡ length (filter (λ s. s.who == spot.who) before) + 1

-- The copies of the mails with these numbers, in order, each with its place.
abbrev pub spots_from : List ℕ → List ℕ → List Spot
spots_from receivers numbers = fold (λ before number. before ++ spot_after receivers before number ∷ []) [] numbers

-- Each pending copy of all mail, in ascending order of number, with its receiver and its place among the receiver's pending mail.
abbrev pub spots_of : {M O : Type 0} → (M → ℕ) → ℕ → List (Row M O) → List Spot
spots_of receiver actors rows = spots_from (map receiver (mails rows)) (pending_of receiver actors rows 0)

-- Whether the number `who` is among the actors.
abbrev pub is_one_of : List ℕ → ℕ → Bool
is_one_of actors who = list_any (λ actor. actor == who) actors

-- The copies whose receiver is among these actors.
abbrev pub copies_for : List ℕ → List Spot → List Spot
copies_for actors spots = filter (λ spot. is_one_of actors spot.who) spots

-- The copy at the place `v` modulo the number of copies, from 0, if there is any copy.
abbrev pub picked_spot : List Spot → ℕ → Option Spot
picked_spot spots v = slice_get spots (v % length spots)
