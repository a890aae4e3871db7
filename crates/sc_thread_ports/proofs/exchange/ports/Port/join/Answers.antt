use Rattle.std.proofs.Common.{rules, ap, ◌∙◌, map}
use Rattle.sc_thread_ports.specs.turn.TurnDefinitions.{known}
use Rattle.sc_thread_ports.specs.exchange.ExchangeDefinitions.{row_by, rows_from}
use Rattle.sc_thread_ports.proofs.ExchangeProofs.Done.{begins_rows, rows_of_from, longer_rows}
use Rattle.sc_thread_ports.proofs.ExchangeProofs.Knowing.{joins}
use Rattle.sc_thread_ports.proofs.ExchangeProofs.Views.{own_joined}
use Rattle.std.proofs.Math.Logic.{∥∥₁_map}
use Rattle.sc_thread_ports.proofs.ExchangeProofs.Fetching.{asked_same}
use Rattle.sc_thread_ports.proofs.ExchangeProofs.Halting.{halted_same}
use Rattle.sc_thread_ports.proofs.exchange.ports.Port.join.Goals as goal

pub invariant_of-self-clause-own : goal.invariant_of-self-clause-own
invariant_of-self-clause-own g c = let e = c.join.ensures in
    own_joined (known c.args.self.now.seat) (known c.args.other.seat) (known c.join.new.self) c.args.self.now.who c.args.self.now.number c.args.self.now.own e.view e.later.0 e.facts

pub returns : goal.returns
returns g c = let e = c.join.ensures in record {
  exchange = search rules;
  who = search rules;
  later = begins_rows _ _ e.later.0;
  theirs = begins_rows _ _ e.later.1;
  others = λ n ne away. rows_of_from n (known c.join.new.self).seen ∙ ap (map (row_by n)) (e.others n ne away);
  joined = joins c.args.self.now c.args.other (known c.join.new.self) e.view;
  made = search rules;
  given = search rules;
  seen = ap (λ v. rows_from v.seen) e.view ∙ longer_rows (known c.args.self.now.seat).seen (known c.args.other.seat).seen;
}

pub invariant_of-self-clause-asked : goal.invariant_of-self-clause-asked
invariant_of-self-clause-asked g c = let s = c.args.self.now in let e = c.join.ensures in
    ∥∥₁_map s.asked (asked_same g.M.Parcel.receiver s.actors s.who s.fetched (known s.seat) (known c.join.new.self) e.later.0 (ap (λ v. v.made) e.view))

pub invariant_of-self-clause-halted : goal.invariant_of-self-clause-halted
invariant_of-self-clause-halted g c = halted_same (known c.args.self.now.seat) (known c.join.new.self) _ (ap (λ v. v.made) c.join.ensures.view) c.args.self.now.halted
