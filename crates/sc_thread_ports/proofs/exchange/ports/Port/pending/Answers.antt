use Rattle.std.proofs.Common.{refl}
use Rattle.sc_thread_ports.proofs.ExchangeProofs.Knowing.{looked_after, true_after}
use Rattle.std.proofs.Math.Logic.{∥∥₁_map}
use Rattle.sc_thread_ports.specs.turn.TurnDefinitions.{known}
use Rattle.sc_thread_ports.proofs.ExchangeProofs.Fetching.{asked_turned, own_after}
use Rattle.sc_thread_ports.proofs.ExchangeProofs.Halting.{halted_turned}
use Rattle.sc_thread_ports.proofs.exchange.ports.Port.pending.Goals as goal

pub returns-clause-looked : goal.returns-clause-looked
returns-clause-looked g c = let e = c.kth_at.ensures.looked in record {
  looked = looked_after c.args.self.now _ e.start refl refl refl e.turned;
  rows = true_after c.args.self.now _ e.turned;
  addressed = e.addressed;
  fetched = refl;
  crashed = refl;
}

pub invariant_of-self-clause-asked : goal.invariant_of-self-clause-asked
invariant_of-self-clause-asked g c = let s = c.args.self.now in
    ∥∥₁_map s.asked (asked_turned g.M.Parcel.receiver s.actors s.who s.fetched (known s.seat) _ c.kth_at.ensures.looked.turned)

pub invariant_of-self-clause-own : goal.invariant_of-self-clause-own
invariant_of-self-clause-own g c = let s = c.args.self.now in own_after (known s.seat) _ s.who s.number c.kth_at.ensures.looked.turned

pub invariant_of-self-clause-halted : goal.invariant_of-self-clause-halted
invariant_of-self-clause-halted g c = halted_turned (known c.args.self.now.seat) (known c.kth_at.new.seat) _ c.kth_at.ensures.looked.turned c.args.self.now.halted
