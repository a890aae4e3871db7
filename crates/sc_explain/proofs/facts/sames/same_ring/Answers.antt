use Rattle.std.proofs.Common.{sym}
use Rattle.sc_explain.proofs.FactsProofs.Rings.{other_length}
use Rattle.sc_explain.proofs.facts.sames.same_ring.Goals as goal

pub returns-then-one-other : goal.returns-then-one-other
returns-then-one-other c = sym (other_length c.args.one.now c.args.other.now c.if-one-other.true)
