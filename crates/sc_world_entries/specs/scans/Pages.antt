-- Pages of a list of pairs.
use Rattle.std.specs.Prelude.{ℕ, zero, suc, ◌-◌, nat_lt, nat_eq, List, [], ◌∷◌, length, take, if◌then◌else◌, Option, Some, None, slice_get}
use Rattle.std.specs.Option.{option_map}
use Rattle.std.specs.Cmp.Lexicographic.{pointwise}
use Rattle.sc_world_entries.specs.scans.Order.{Pair}

-- the pairs behind the first one with a key; none where no pair has it
abbrev pub past : List ℕ → List Pair → List Pair
past key [] = []
past key (pair ∷ more) = if pointwise nat_eq pair.0 key then more else past key more

-- the pairs behind a key; all pairs where no key is given
abbrev pub after_key : Option (List ℕ) → List Pair → List Pair
after_key None all = all
after_key (Some key) all = past key all

-- the last key of a list, if the list has any
abbrev pub last_key : List Pair → Option (List ℕ)
last_key pairs = option_map (λ pair. pair.0) (slice_get pairs (length pairs - 1))

-- the key behind which the next page begins: the last one of the page, where more pairs follow
abbrev pub next_key : ℕ → List Pair → Option (List ℕ)
next_key most rest = if nat_lt most (length rest) then last_key (take most rest) else None

-- the pages behind a page, by the key that it gives; none where it gives no key
abbrev pub behind_page : Option (List ℕ) → (Option (List ℕ) → List (List Pair)) → List (List Pair)
behind_page None goes_on = []
behind_page (Some key) goes_on = goes_on (Some key)

-- the page behind a key of a list, and then each behind the key that the one before it gave, until one gives none; at most the given number of pages
unfoldable pub pages_from : ℕ → ℕ → List Pair → Option (List ℕ) → List (List Pair)
pages_from zero most all after = []
pages_from (suc more) most all after = take most (after_key after all) ∷ behind_page (next_key most (after_key after all)) (pages_from more most all)
