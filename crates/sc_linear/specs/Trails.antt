-- Orders that continue one another, by number.
use Rattle.std.specs.Prelude.{ℕ, ◌≤◌, ◌+◌, List, [], ◌∷◌, ◌++◌, fold, slice_index_or}
use Rattle.sc_linear.specs.declared.trail.Link.{Link}

-- the order of this number: requests with the lines at which they were taken
abbrev pub path_at : List (List (ℕ × ℕ)) → ℕ → List (ℕ × ℕ)
path_at paths number = slice_index_or paths number []

-- the orders with one more, which continues an earlier one
abbrev pub with_link : List (List (ℕ × ℕ)) → Link → List (List (ℕ × ℕ))
with_link paths link = paths ++ (path_at paths link.before ++ (link.line, link.request) ∷ []) ∷ []

-- the orders that these links make, the empty one first
abbrev pub paths_of : List Link → List (List (ℕ × ℕ))
paths_of = fold with_link ([] ∷ [])

-- each link continues an earlier order; there are this many links before
abbrev pub IsLinked : ℕ → List Link → Type 0
IsLinked before [] = Unit {0}
IsLinked before (link ∷ links) = (link.before ≤ before) × IsLinked (before + 1) links
