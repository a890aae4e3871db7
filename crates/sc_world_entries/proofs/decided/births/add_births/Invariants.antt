use Rattle.std.proofs.Common.{List, ◌++◌, fold, take}
use Rattle.sc_base.specs.Among.{Each}
use Rattle.sc_words.specs.declared.commands.cores.Base.{Base}
use Rattle.sc_meaning.specs.sound.GroupsOf.{with_birth}
use Rattle.sc_world_logs.specs.Known.{IsKnown}
use Rattle.sc_world_entries.specs.decided.Found.{AreKnown, IsHeard}
use Rattle.sc_world_entries.proofs.decided.births.add_births.Given as goal

-- those so far are known, and what is left in the pool holds
abbrev pub invariant-loop-child : goal.invariant-loop-child
invariant-loop-child l = IsHeard l.rows l.heard → Each (IsKnown l.rows) l.initial.pool.items → (bases : List Base) → AreKnown l.rows bases (l.knowns ++ l.initial.born.items)
    → AreKnown l.rows (fold with_birth bases (take l.child-index l.children)) (l.knowns ++ l.born.items) × Each (IsKnown l.rows) l.pool.items
