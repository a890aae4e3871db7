use Rattle.sc_thread_work.proofs.ShellProofs.Replaying.{replay_born}
use Rattle.sc_thread_work.proofs.shell.shells.Shell.new.Goals as goal

pub returns-clause-born : goal.returns-clause-born
returns-clause-born g c = replay_born g.A.Actor.table c.args.port c.args.actor c.requires.fresh.0
