use Rattle.std.proofs.Common.{arith}
use Rattle.sc_world_checks.proofs.EntryNumbers.{twice, more_pairs}
use Rattle.sc_world_checks.proofs.legality.is_once.Goals as goal

pub returns-then-not-is_apart : goal.returns-then-not-is_apart
returns-then-not-is_apart c =
    twice c.args.entries.now c.loop-i.i c.index-entries-i.result c.is_apart.result (omega (arith, c.loop-i-test.true)) c.index-entries-i.is c.is_apart.ensures c.if-not-is_apart.true

pub loop-i-preserved : goal.loop-i-preserved
loop-i-preserved c =
    more_pairs c.args.entries.now c.loop-i.i c.index-entries-i.result c.is_apart.result (omega (arith, c.loop-i-test.true)) c.index-entries-i.is c.is_apart.ensures c.if-not-is_apart.false c.loop-i.invariant
