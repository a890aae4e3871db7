use Rattle.sc_thread_workers.proofs.Ending.{gathered_so}
use Rattle.sc_thread_drive.proofs.gathering.gather_again.Goals as goal

pub returns-clause-gathered : goal.returns-clause-gathered
returns-clause-gathered g c = gathered_so c.args.net.now c.vouch.new.net c.args.shells.now.items c.vouch.new.shells.items c.requires.rows c.requires.addressed c.vouch.ensures.still c.vouch.ensures.vouched
