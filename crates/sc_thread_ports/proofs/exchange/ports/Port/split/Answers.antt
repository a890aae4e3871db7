use Rattle.sc_thread_ports.specs.turn.TurnDefinitions.{known}
use Rattle.sc_thread_ports.proofs.ExchangeProofs.Views.{own_new}
use Rattle.sc_thread_ports.proofs.exchange.ports.Port.split.Goals as goal

pub invariant_of-result-clause-own : goal.invariant_of-result-clause-own
invariant_of-result-clause-own g c = own_new (known c.in_ok-seat.seat) c.args.who (known c.args.self.now.seat).seen c.in_ok-seat.ensures.ok.1 c.in_ok-seat.ensures.facts
