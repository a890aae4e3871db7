use Rattle.sc_world.proofs.KeptMap.{rings}
use Rattle.sc_world.proofs.summing.sum_up.Goals as goal

pub ring_of-requires : goal.ring_of-requires
ring_of-requires c = rings c.args.scenario.now c.args.journal.now c.requires.sound c.as_slice-3.result.now c.as_slice-rows.result.now c.as_slice-3.ensures c.as_slice-rows.ensures
