use Rattle.std.proofs.Common.{◌≡◌, [], take}
use Rattle.sc_base.specs.Among.{Each}
use Rattle.sc_world_logs.specs.Known.{IsKnown}
use Rattle.sc_world_entries.specs.decided.Found.{AreKnown, IsHeard}
use Rattle.sc_world_entries.proofs.decided.births.first_knowns.Given as goal

-- those so far are known, and what is left in the pool holds
abbrev pub invariant-loop-base : goal.invariant-loop-base
invariant-loop-base l = record {
  known : IsHeard l.rows l.heard → Each (IsKnown l.rows) l.initial.pool.items → AreKnown l.rows (take l.base-index l.bases) l.knowns.items × Each (IsKnown l.rows) l.pool.items;
  none : l.bases ≡ [] → l.knowns.items ≡ [];
}
