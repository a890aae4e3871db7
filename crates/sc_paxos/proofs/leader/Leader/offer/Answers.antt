use Rattle.std.proofs.Common.{◌∙◌, None, sym, subst, ap}
use Rattle.sc_words.specs.paxos.PaxosDefinitions.{LeaderState, flight_at}
use Rattle.sc_paxos.specs.PaxosDefinitions.{IsOneEach}
use Rattle.sc_paxos.proofs.Flying.{one_with}
use Rattle.sc_paxos.proofs.leader.Leader.offer.Goals as goal

pub invariant_of-self-2 : goal.invariant_of-self-2
invariant_of-self-2 g c =
    subst IsOneEach (sym c.in_ok-push.ensures.items)
    (one_with c.self.inside.flights.items (record { slot = c.args.slot; value = c.args.value; voters = None })
    (ap (λ (leader : LeaderState g.row.V.Denot). flight_at c.args.slot leader.flights) c.self.view_is ∙ c.requires.free) c.self.invariant)
