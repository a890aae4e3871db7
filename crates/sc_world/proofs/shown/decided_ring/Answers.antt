use Rattle.std.proofs.Common.{sym, subst}
use Rattle.sc_meaning.specs.entries.Rings.{Covers}
use Rattle.sc_world.proofs.KeptMap.{one_map, rings}
use Rattle.sc_world.proofs.shown.decided_ring.Goals as goal

pub returns-clause-covers : goal.returns-clause-covers
returns-clause-covers c =
    let map = one_map c.world.inside.scenario.now c.world.inside.rows.now c.world.invariant.sound c.as_slice.result.now c.as_slice-2.result.now c.in_ok-recorded.recorded c.as_slice.ensures c.as_slice-2.ensures c.in_ok-recorded.ensures in
    subst Covers (sym c.into_parts-ring.ensures.ring) map.covers

pub store_world-requires : goal.store_world-requires
store_world-requires c =
    rings c.world.inside.scenario.now c.world.inside.rows.now c.world.invariant.sound c.as_slice.result.now c.as_slice-2.result.now c.as_slice.ensures c.as_slice-2.ensures
