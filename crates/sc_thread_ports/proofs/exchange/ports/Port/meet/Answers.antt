use Rattle.std.proofs.Common.{refl}
use Rattle.sc_thread_ports.proofs.ExchangeProofs.Done.{begins_rows}
use Rattle.sc_thread_ports.proofs.ExchangeProofs.Knowing.{looked_met, true_met}
use Rattle.std.proofs.Math.Logic.{∥∥₁_map}
use Rattle.sc_thread_ports.specs.turn.TurnDefinitions.{known}
use Rattle.sc_thread_ports.proofs.ExchangeProofs.Fetching.{asked_same, own_met}
use Rattle.std.proofs.Common.{ap}
use Rattle.sc_thread_ports.proofs.ExchangeProofs.Halting.{halted_same}
use Rattle.sc_thread_ports.proofs.exchange.ports.Port.meet.Goals as goal

pub returns-clause-mine : goal.returns-clause-mine
returns-clause-mine g c = let e = c.meet.ensures in record {
  looked = looked_met c.args.self.now _ e.start.0 refl refl refl e.view.0 e.mine.0;
  begins = begins_rows _ _ e.mine.1;
  rows = true_met _ e.facts.0;
  fetched = refl;
  crashed = refl;
}

pub returns-clause-theirs : goal.returns-clause-theirs
returns-clause-theirs g c = let e = c.meet.ensures in record {
  looked = looked_met c.args.other.now _ e.start.1 refl refl refl e.view.1 e.theirs.1;
  begins = begins_rows _ _ e.theirs.0;
  rows = true_met _ e.facts.1;
  fetched = refl;
  crashed = refl;
}

pub invariant_of-self-clause-asked : goal.invariant_of-self-clause-asked
invariant_of-self-clause-asked g c = let s = c.args.self.now in let e = c.meet.ensures in
    ∥∥₁_map s.asked (asked_same g.M.Parcel.receiver s.actors s.who s.fetched (known s.seat) (known c.meet.new.self) e.mine.0 (ap (λ v. v.made) e.view.0))

pub invariant_of-other-clause-asked : goal.invariant_of-other-clause-asked
invariant_of-other-clause-asked g c = let s = c.args.other.now in let e = c.meet.ensures in
    ∥∥₁_map s.asked (asked_same g.M.Parcel.receiver s.actors s.who s.fetched (known s.seat) (known c.meet.new.other) e.theirs.1 (ap (λ v. v.made) e.view.1))

pub invariant_of-self-clause-own : goal.invariant_of-self-clause-own
invariant_of-self-clause-own g c = let s = c.args.self.now in own_met (known s.seat) (known c.meet.new.self) s.who s.number c.meet.ensures.view.0 c.meet.ensures.facts.0

pub invariant_of-other-clause-own : goal.invariant_of-other-clause-own
invariant_of-other-clause-own g c = let s = c.args.other.now in own_met (known s.seat) (known c.meet.new.other) s.who s.number c.meet.ensures.view.1 c.meet.ensures.facts.1

pub returns-clause-last : goal.returns-clause-last
returns-clause-last g c = begins_rows _ _ c.meet.ensures.last

pub invariant_of-self-clause-halted : goal.invariant_of-self-clause-halted
invariant_of-self-clause-halted g c = halted_same (known c.args.self.now.seat) (known c.meet.new.self) _ (ap (λ v. v.made) c.meet.ensures.view.0) c.args.self.now.halted

pub invariant_of-other-clause-halted : goal.invariant_of-other-clause-halted
invariant_of-other-clause-halted g c = halted_same (known c.args.other.now.seat) (known c.meet.new.other) _ (ap (λ v. v.made) c.meet.ensures.view.1) c.args.other.now.halted
