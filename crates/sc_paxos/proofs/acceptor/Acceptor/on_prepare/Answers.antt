use Rattle.std.proofs.Common.{rules}
use Rattle.sc_words.proofs.PaxosProofs.PaxosLemmas.{whole_by_promise}
use Rattle.sc_paxos.proofs.acceptor.Acceptor.on_prepare.Goals as goal

pub invariant_of-self : goal.invariant_of-self
invariant_of-self g c = whole_by_promise _ c.args.ballot c.self.invariant (search rules)
