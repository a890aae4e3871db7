-- The names that a node draws.
use Rattle.std.specs.Prelude.{◌≡◌, ℕ, zero, suc, ◌+◌, ◌<◌}
use Rattle.sc_base.specs.declared.names.Draw.{Draw}

-- the state of a node's generator of names: the node, and the number of the next name, which starts at 1
pub record Drawer : Type 0 where
  pub node : ℕ
  pub next : ℕ

-- the name that the generator draws next
abbrev pub next_name : Drawer → Draw
next_name drawer = record { node = drawer.node; count = drawer.next }

-- the generator after one draw
abbrev pub drawn_on : Drawer → Drawer
drawn_on drawer = record { node = drawer.node; next = drawer.next + 1 }

-- the generator after n draws
abbrev pub drawn_by : ℕ → Drawer → Drawer
drawn_by zero drawer = drawer
drawn_by (suc n) drawer = drawn_on (drawn_by n drawer)

-- no name is drawn twice: after m and after more than m draws the next names differ
abbrev pub Apart : Type 0
Apart = (drawer : Drawer) (m n : ℕ) → m < n → next_name (drawn_by m drawer) ≡ next_name (drawn_by n drawer) → ⊥
