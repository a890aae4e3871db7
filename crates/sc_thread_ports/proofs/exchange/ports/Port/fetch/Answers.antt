use Rattle.std.proofs.Common.{refl, ap, ◌∙◌}
use Rattle.sc_thread_ports.proofs.ExchangeProofs.Knowing.{looked_after, true_after}
use Rattle.std.proofs.lemmas.Grind.{merely}
use Rattle.sc_thread_ports.specs.turn.TurnDefinitions.{known}
use Rattle.sc_thread_ports.proofs.ExchangeProofs.Fetching.{asked_found, own_after}
use Rattle.sc_thread_ports.proofs.ExchangeProofs.Halting.{halted_turned}
use Rattle.sc_thread_ports.proofs.exchange.ports.Port.fetch.Goals as goal

pub returns-clause-looked : goal.returns-clause-looked
returns-clause-looked g c = let e = c.fetch_at-found.ensures.looked in record {
  looked = looked_after c.args.self.now _ e.start refl refl refl e.turned;
  rows = true_after c.args.self.now _ e.turned;
  addressed = e.addressed;
  fetched = c.number_in-self.ensures;
  crashed = refl;
}

pub invariant_of-self-clause-asked : goal.invariant_of-self-clause-asked
invariant_of-self-clause-asked g c = let s = c.args.self.now in let e = c.fetch_at-found.ensures in
    merely (asked_found g.M.Parcel.receiver s.actors s.who c.number_in-self.result (known s.seat) (known c.fetch_at-found.new.seat) c.args.k c.fetch_at-found.result c.number_in-self.ensures (ap (λ v. v.who) e.looked.turned.view_is ∙ s.number) e.looked.turned e.found)

pub invariant_of-self-clause-own : goal.invariant_of-self-clause-own
invariant_of-self-clause-own g c = let s = c.args.self.now in own_after (known s.seat) (known c.fetch_at-found.new.seat) s.who s.number c.fetch_at-found.ensures.looked.turned

pub invariant_of-self-clause-halted : goal.invariant_of-self-clause-halted
invariant_of-self-clause-halted g c = halted_turned (known c.args.self.now.seat) (known c.fetch_at-found.new.seat) _ c.fetch_at-found.ensures.looked.turned c.args.self.now.halted
