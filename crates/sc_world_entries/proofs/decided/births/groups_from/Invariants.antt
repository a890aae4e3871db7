use Rattle.std.proofs.Common.{◌≡◌, [], take}
use Rattle.sc_base.specs.Among.{Each}
use Rattle.sc_meaning.specs.sound.Players.{as_nodes}
use Rattle.sc_meaning.specs.sound.GroupsOf.{with_descendants}
use Rattle.sc_world_logs.specs.Known.{IsKnown}
use Rattle.sc_world_entries.specs.decided.Found.{AreKnown, HaveChildrenOf, IsHeard}
use Rattle.sc_world_entries.proofs.decided.births.groups_from.Given as goal

-- the groups of the rounds so far are known, and what is left in the pool holds
abbrev pub invariant-loop-round : goal.invariant-loop-round
invariant-loop-round l = record {
  known : IsHeard l.rows l.heard → Each (IsKnown l.rows) l.fn.pool.items
      → AreKnown l.rows (with_descendants as_nodes l.rows l._round l.bases) l.knowns.items × Each (IsKnown l.rows) l.pool.items
      × HaveChildrenOf (with_descendants as_nodes l.rows l._round l.bases) (take l.from l.knowns.items);
  none : l.bases ≡ [] → l.knowns.items ≡ [];
}
