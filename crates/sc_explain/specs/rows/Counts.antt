-- The number of pairs of a group after an operation, by the reply of the operation.
use Rattle.std.specs.Prelude.{ℕ, ◌+◌, ◌-◌, List, Option, Some, None, if◌then◌else◌}
use Rattle.sc_base.specs.Same.{same_draw}
use Rattle.sc_base.specs.declared.names.Draw.{Draw}
use Rattle.sc_base.specs.declared.ops.Op.{Op}
use Rattle.sc_base.specs.declared.ops.Op.TheVariants.{Get, Put, Del, Add, Cas}
use Rattle.sc_explain.specs.declared.facts.facts.RingGroup.{RingGroup}

-- the number of pairs after a key was given a value: one more where it had none
abbrev pub one_more : Option (List ℕ) → ℕ → ℕ
one_more None count = count + 1
one_more (Some old) count = count

-- the number of pairs after a key lost its value: one less where it had one
abbrev pub one_less : Option (List ℕ) → ℕ → ℕ
one_less None count = count
one_less (Some old) count = count - 1

-- the number of pairs after an operation whose reply has this old value
abbrev pub count_after : Op → Option (List ℕ) → ℕ → ℕ
count_after (Get key) old count = count
count_after (Put key value) old count = one_more old count
count_after (Del key) old count = one_less old count
count_after (Add key value) old count = one_more old count
count_after (Cas key expect value) old count = count

-- what is said of a group of the ring after the group with this name carried out an operation whose reply has this old value
abbrev pub recounted : Draw → Op → Option (List ℕ) → RingGroup → RingGroup
recounted name op old group = if same_draw group.name name then record group { pairs = count_after op old group.pairs } else group
