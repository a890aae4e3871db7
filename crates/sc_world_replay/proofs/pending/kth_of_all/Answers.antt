use Rattle.std.proofs.Common.{arith}
use Rattle.sc_world_replay.proofs.Opens.{kth-copy}
use Rattle.sc_world_replay.proofs.pending.kth_of_all.Goals as goal

pub returns : goal.returns
returns c = kth-copy c.args.copies.now c.args.k _ (omega (arith, c.if-k-eq0.false)) c.if-k-copies.false
