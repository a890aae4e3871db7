-- Sets of one to nine nodes, as ascending lists.
use Rattle.std.specs.Prelude.{ℕ, ◌≤◌, Bool, ◌==◌, not, nat_lt, List, ◌∷◌, ◌++◌, length, filter, find, slice_index, unwrap_or}
use Rattle.std.specs.List.{list_any}
use Rattle.std.specs.List.Sorted.{IsStrictlyIncreasing}

-- whether a node is in the list
abbrev pub is_member : List ℕ → ℕ → Bool
is_member members node = list_any (λ member. member == node) members

-- the list is a set: one to nine nodes, strictly ascending
pub record IsRoster (members : List ℕ) : Type 0 where
  pub some : 1 ≤ length members
  pub most : length members ≤ 9
  pub ascending : IsStrictlyIncreasing members

-- the members below a node, the node, and the members above it
abbrev pub with_member : List ℕ → ℕ → List ℕ
with_member members node = filter (λ member. nat_lt member node) members ++ node ∷ filter (λ member. nat_lt node member) members

-- the members without a node
abbrev pub without_member : List ℕ → ℕ → List ℕ
without_member members node = filter (λ member. not (member == node)) members

-- the least member, which is the first one of an ascending list
abbrev pub least_of : List ℕ → ℕ
least_of members = slice_index members 0

-- the first member above a node, or the least member where there is none
abbrev pub next_after : List ℕ → ℕ → ℕ
next_after members node = unwrap_or (find (λ member. nat_lt node member) members) (least_of members)
