use Rattle.std.proofs.Common.{vec_len}
use Rattle.sc_thread_workers.proofs.lending.+apart.Given as goal

-- each run that is cut off leaves fewer
abbrev pub decreases-apart : goal.decreases-apart
decreases-apart g l = vec_len l.shells.now
