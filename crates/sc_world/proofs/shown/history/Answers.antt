use Rattle.std.proofs.Common.{sym, subst}
use Rattle.sc_words.specs.ideal.History.{Legal}
use Rattle.sc_world.proofs.KeptMap.{one_map, rings}
use Rattle.sc_world.proofs.shown.history.Goals as goal

pub returns-clause-legal : goal.returns-clause-legal
returns-clause-legal c =
    let map = one_map c.world.inside.scenario.now c.world.inside.rows.now c.world.invariant.sound c.as_slice.result.now c.as_slice-2.result.now c.in_ok-recorded.recorded c.as_slice.ensures c.as_slice-2.ensures c.in_ok-recorded.ensures in
    subst Legal (sym c.into_parts-ring.ensures.history) map.legal

pub store_world-requires : goal.store_world-requires
store_world-requires c =
    rings c.world.inside.scenario.now c.world.inside.rows.now c.world.invariant.sound c.as_slice.result.now c.as_slice-2.result.now c.as_slice.ensures c.as_slice-2.ensures
