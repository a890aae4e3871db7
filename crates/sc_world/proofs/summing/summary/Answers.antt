use Rattle.sc_world.proofs.summing.summary.Goals as goal

pub returns : goal.returns
returns c = rw (← c.world.view_is) c.sum_up.ensures
