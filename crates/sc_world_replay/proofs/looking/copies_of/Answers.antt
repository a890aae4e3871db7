use Rattle.sc_world_replay.proofs.Looks.{few_copies}
use Rattle.sc_world_replay.proofs.looking.copies_of.Goals as goal

pub count-requires : goal.count-requires
count-requires g c = few_copies c.loop-row.counts.items c.args.rows.now c.loop-row.row-index c.loop-row.invariant c.requires
