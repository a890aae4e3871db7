use Rattle.std.proofs.Common.{◌≡◌, ◌∙◌, sym, subst, map, Contains}
use Rattle.sc_thread_ports.specs.turn.TurnDefinitions.{known, StartsWith}
use Rattle.sc_thread_ports.specs.exchange.ExchangeDefinitions.{bare_rows, row_by, rows_of, seen}
use Rattle.sc_thread_ports.proofs.ExchangeProofs.Done.{begins_rows, rows_of_bare}
use Rattle.sc_thread_ports.proofs.ExchangeProofs.Knowing.{end_own, end_each, end_others, numbers_same}
use Rattle.sc_thread_ports.proofs.exchange.ports.Port.close.Goals as goal

pub closed-requires-clause-all : goal.closed-requires-clause-all
closed-requires-clause-all g c = λ n there. subst (λ l. Contains l n) (numbers_same (known c.args.self.seat).joined) (c.requires.all n there)

pub returns : goal.returns
returns g c =
    let v = known c.args.self.seat in
    let e = c.closed.ensures in
    let first = c.args.self.number ∙ c.requires.net in record {
      later = subst (λ l. StartsWith l (seen c.args.self)) (rows_of_bare c.closed.result) (begins_rows (bare_rows c.closed.result) v.seen e.later);
      addressed = e.addressed;
      own = subst (λ n. rows_of 0 c.closed.result ≡ map (row_by n) v.made) (sym c.requires.net) (end_own c.closed.result v e.facts first);
      each = end_each c.closed.result v e.facts first;
      others = end_others c.closed.result v e.facts first;
    }
