use Rattle.std.proofs.Common.{Some}
use Rattle.sc_thread_workers.specs.declared.answers.Rounds.TheVariants.{OutOfMemory}
use Rattle.sc_thread_workers.proofs.Crews.{are_still_same, still_later}
use Rattle.sc_thread_workers.proofs.Ending.{kept_of}
use Rattle.sc_thread_workers.proofs.playing.rounds_by.Goals as goal

pub returns-in_default-clause-later : goal.returns-in_default-clause-later
returns-in_default-clause-later g c =
    kept_of _ c.args.way (Some OutOfMemory) (still_later c.args.net.now c.args.net.now c.args.shells.now.items c.args.shells.now.items (are_still_same c.args.net.now c.args.shells.now.items))
