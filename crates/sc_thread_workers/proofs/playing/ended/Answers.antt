use Rattle.std.proofs.Common.{rules}
use Rattle.sc_thread_workers.proofs.Crews.{are_still_same}
use Rattle.sc_thread_workers.proofs.playing.ended.Goals as goal

pub returns-in_default-clause-still : goal.returns-in_default-clause-still
returns-in_default-clause-still g c = are_still_same c.args.net.now c.args.shells.now.items

pub returns-clause-end : goal.returns-clause-end
returns-clause-end g c = (search rules, c.gather.ensures.gathered)
