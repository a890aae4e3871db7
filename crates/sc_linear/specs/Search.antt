-- What the search goes through.
use Rattle.std.specs.Prelude.{ℕ, Bool, ◌+◌, not, ◌&&◌, ◌==◌, if◌then◌else◌, nat_eq, nat_le, is_none, List, [], ◌∷◌, ◌++◌, take, drop, Option, Some, None, filter}
use Rattle.std.specs.Cmp.Lexicographic.{pointwise}
use Rattle.std.specs.Hash as fed
use Rattle.sc_words.specs.ideal.IdealDefinitions.{was}
use Rattle.sc_linear_law.specs.LinearDefinitions.{Place}

-- whether two values of a key are the same, or there is none twice
abbrev pub same_value : Option (List ℕ) → Option (List ℕ) → Bool
same_value None other = is_none other
same_value (Some value) other = was value other

-- whether two places are the same
abbrev pub same_place : Place → Place → Bool
same_place a b = same_value a.value b.value && pointwise nat_eq a.taken b.taken

-- how many of the numbers, which ascend, are below this one
abbrev pub rank_of : ℕ → List ℕ → ℕ
rank_of x [] = 0
rank_of x (y ∷ ys) = if nat_le x y then 0 else rank_of x ys + 1

-- the numbers, which ascend, with one more
abbrev pub taken_with : ℕ → List ℕ → List ℕ
taken_with x taken = take (rank_of x taken) taken ++ x ∷ drop (rank_of x taken) taken

-- the numbers without one
abbrev pub taken_without : ℕ → List ℕ → List ℕ
taken_without x = filter (λ y. not (y == x))

-- what a place feeds a hasher
abbrev pub value_writes : Option (List ℕ) → List (List ℕ)
value_writes None = []
value_writes (Some value) = fed.slice fed.u8 value

abbrev pub place_writes : Place → List (List ℕ)
place_writes place = value_writes place.value ++ fed.slice fed.usize place.taken
