use Rattle.sc_world.proofs.KeptMap.{rings}
use Rattle.sc_world.proofs.shown.effective.Goals as goal

pub store_world-requires : goal.store_world-requires
store_world-requires c =
    rings c.world.inside.scenario.now c.world.inside.rows.now c.world.invariant.sound c.as_slice.result.now c.as_slice-2.result.now c.as_slice.ensures c.as_slice-2.ensures
