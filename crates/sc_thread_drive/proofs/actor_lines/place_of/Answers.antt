use Rattle.std.proofs.Common.{arith}
use Rattle.sc_thread_drive.proofs.ActorRows.{nowhere}
use Rattle.sc_thread_drive.proofs.actor_lines.place_of.Goals as goal

pub returns-clause-none : goal.returns-clause-none
returns-clause-none g c = λ none. nowhere c.args.shells.now c.args.who (λ k d lt. c.loop-i.invariant k d (omega arith))
