use Rattle.std.proofs.Common.{refl, ap}
use Rattle.sc_thread_ports.specs.turn.TurnDefinitions.{known}
use Rattle.sc_thread_ports.specs.exchange.ExchangeDefinitions.{rows_from}
use Rattle.sc_thread_ports.proofs.ExchangeProofs.Knowing.{looked_seen, vouched}
use Rattle.sc_thread_ports.proofs.exchange.ports.Port.vouch.Goals as goal

pub returns-clause-mine : goal.returns-clause-mine
returns-clause-mine g c = let e = c.vouch.ensures in record {
  looked = looked_seen c.args.self.now _ e.start.0 refl refl refl e.same.0;
  seen = ap (λ v. rows_from v.seen) e.same.0;
  fetched = refl;
  crashed = refl;
}

pub returns-clause-theirs : goal.returns-clause-theirs
returns-clause-theirs g c = let e = c.vouch.ensures in record {
  looked = looked_seen c.args.other.now _ e.start.1 refl refl refl e.same.1;
  seen = ap (λ v. rows_from v.seen) e.same.1;
  fetched = refl;
  crashed = refl;
}

pub returns-clause-own : goal.returns-clause-own
returns-clause-own g c = let e = c.vouch.ensures in
    vouched c.args.self.now (known c.vouch.new.self) (known c.vouch.new.other).seen (known c.args.other.now.seat).seen e.same.0 (ap (λ v. v.seen) e.same.1) e.over c.requires.later
