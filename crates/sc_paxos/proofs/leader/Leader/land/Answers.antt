use Rattle.std.proofs.Common.{◌∙◌, sym, subst, ap}
use Rattle.sc_words.specs.paxos.PaxosDefinitions.{flight_at}
use Rattle.sc_paxos.specs.PaxosDefinitions.{IsOneEach}
use Rattle.sc_paxos.proofs.Flying.{one_without, gone}
use Rattle.sc_paxos.proofs.leader.Leader.land.Goals as goal

pub invariant_of-self : goal.invariant_of-self
invariant_of-self g c = subst IsOneEach (sym c.take_out.ensures.after) (one_without c.args.slot c.self.inside.flights.items c.self.invariant)

pub returns-clause-empty : goal.returns-clause-empty
returns-clause-empty g c = ap (flight_at c.args.slot) c.take_out.ensures.after ∙ gone c.args.slot c.self.inside.flights.items c.self.invariant
