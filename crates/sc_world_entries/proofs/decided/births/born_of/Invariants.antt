use Rattle.std.proofs.Common.{◌≡◌, List, [], ◌++◌, fold, take}
use Rattle.std.specs.List.{flat_map}
use Rattle.sc_base.specs.Among.{Each}
use Rattle.sc_words.specs.declared.commands.cores.Base.{Base}
use Rattle.sc_meaning.specs.sound.GroupsOf.{with_birth}
use Rattle.sc_world_logs.specs.Known.{IsKnown}
use Rattle.sc_world_entries.specs.decided.Found.{AreKnown, IsHeard}
use Rattle.sc_world_entries.proofs.decided.births.born_of.Given as goal

-- the children of the groups so far are known, and what is left in the pool holds
abbrev pub invariant-loop-known : goal.invariant-loop-known
invariant-loop-known l = record {
  known : IsHeard l.rows l.heard → Each (IsKnown l.rows) l.initial.pool.items → (bases : List Base) → AreKnown l.rows bases l.knowns
      → AreKnown l.rows (fold with_birth bases (flat_map (λ known. known.children.items) (take l.known-index l.newest))) (l.knowns ++ l.born.items) × Each (IsKnown l.rows) l.pool.items;
  none : l.newest ≡ [] → l.born.items ≡ [];
}
