-- The union of two sets of nodes.
use Rattle.std.specs.Prelude.{ℕ, List, fold, if◌then◌else◌}
use Rattle.sc_base.specs.Roster.{is_member, with_member}

-- the members and a node, which may be one of them
abbrev pub with_any : List ℕ → ℕ → List ℕ
with_any members node = if is_member members node then members else with_member members node

-- the nodes of both sets
abbrev pub united : List ℕ → List ℕ → List ℕ
united = fold with_any
