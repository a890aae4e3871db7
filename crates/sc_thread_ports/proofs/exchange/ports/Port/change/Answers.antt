use Rattle.std.proofs.Common.{refl, sym, ap, ◌∙◌}
use Rattle.sc_actor.specs.declared.rows.Row.{Row}
use Rattle.sc_actor.specs.Definitions.{row_bytes}
use Rattle.sc_thread_ports.proofs.ExchangeProofs.Knowing.{stays_after, looked_after, true_after, change_answers, change_true, cause_back}
use Rattle.std.proofs.Math.Logic.{∥∥₁_map}
use Rattle.sc_thread_ports.specs.turn.TurnDefinitions.{known}
use Rattle.sc_thread_ports.proofs.ExchangeProofs.Fetching.{asked_net, done_later, turned_later, own_again}
use Rattle.sc_thread_ports.proofs.ExchangeProofs.Results.{ok_maps, err_maps, either}
use Rattle.sc_thread_ports.proofs.ExchangeProofs.Halting.{halted_turned, halted_changed}
use Rattle.sc_thread_ports.proofs.exchange.ports.Port.change.Goals as goal

pub returns-in-Ok : goal.returns-in-Ok
returns-in-Ok g c = let e = c.change_at.ensures in record {
  turned = record {
    stays = stays_after c.args.self.now _ e.turned.start refl refl refl (e.turned.given, e.turned.joined);
    rows = change_true _ _ c.args.fate c.args.number c.args.self.now _ c.in-Ok.done c.in-Ok.ensures.ok;
    addressed = e.turned.addressed;
  };
  fetched = refl;
  crashed = refl;
  ok = change_answers c.args.fate c.args.number c.args.self.now _ c.in-Ok.done e.turned.start refl refl refl c.requires c.in-Ok.ensures.ok;
  may = tt;
  refused = tt;
}

pub returns-in-Err : goal.returns-in-Err
returns-in-Err g c =
    let e = c.change_at.ensures in let t = c.in-Err.ensures.refused in let u = c.unposted.ensures in record {
      turned = record {
        stays = stays_after c.args.self.now _ e.turned.start refl refl refl (e.turned.given, e.turned.joined);
        rows = true_after c.args.self.now _ t.0;
        addressed = e.turned.addressed;
      };
      fetched = refl;
      crashed = refl;
      ok = tt;
      may = c.in-Err.ensures.may;
      refused = record {
        looked = looked_after c.args.self.now _ e.turned.start refl refl refl t.0;
        event = u.1 ∙ ap (λ (r : Row g.row.M.Denot g.row.O.Denot). r.event) t.1;
        sent = u.2 ∙ ap (λ (r : Row g.row.M.Denot g.row.O.Denot). r.sent) t.1;
        cause = cause_back _ _ _ _ _ _ u.0 (ap (row_bytes g.M.Parcel.weighs) (sym t.1)) t.2;
        fetched = refl;
        crashed = refl;
      };
    }

pub invariant_of-self-clause-asked : goal.invariant_of-self-clause-asked
invariant_of-self-clause-asked g c = let s = c.args.self.now in let e = c.change_at.ensures in
    ∥∥₁_map s.asked (asked_net g.M.Parcel.receiver s.actors s.who s.fetched (known s.seat) (known c.change_at.new.seat) c.requires
    (either c.change_at.result
    (ok_maps c.change_at.result (λ done p. done_later (known s.seat) (known c.change_at.new.seat) _ _ g.M.Parcel.receiver s.actors c.args.fate c.args.number done p) e.ok)
    (err_maps c.change_at.result (λ x p. turned_later (known s.seat) (known c.change_at.new.seat) p.0) e.refused)))

pub invariant_of-self-clause-own : goal.invariant_of-self-clause-own
invariant_of-self-clause-own g c = let s = c.args.self.now in own_again (known s.seat) (known c.change_at.new.seat) s.who s.number c.change_at.ensures.turned.own

pub invariant_of-self-clause-halted : goal.invariant_of-self-clause-halted
invariant_of-self-clause-halted g c = let s = c.args.self.now in let e = c.change_at.ensures in
    either c.change_at.result
    (ok_maps c.change_at.result (λ done p. halted_changed _ _ g.M.Parcel.receiver s.actors c.args.fate c.args.number (known s.seat) (known c.change_at.new.seat) s.crashed done p s.halted) e.ok)
    (err_maps c.change_at.result (λ x p. halted_turned (known s.seat) (known c.change_at.new.seat) s.crashed p.0 s.halted) e.refused)
