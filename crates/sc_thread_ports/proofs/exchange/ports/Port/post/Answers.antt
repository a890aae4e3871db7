use Rattle.std.proofs.Common.{refl, sym, ap, ◌∙◌}
use Rattle.std.specs.List.{list_any}
use Rattle.sc_actor.specs.Definitions.{is_crash}
use Rattle.sc_actor.specs.declared.rows.Row.{Row}
use Rattle.sc_thread_ports.proofs.ExchangeProofs.Knowing.{stays_after, looked_after, true_after, appended_after, true_row, cause_back}
use Rattle.std.proofs.Math.Logic.{∥∥₁_map}
use Rattle.sc_thread_ports.specs.turn.TurnDefinitions.{known}
use Rattle.sc_thread_ports.proofs.ExchangeProofs.Fetching.{asked_turned, asked_event, own_after}
use Rattle.sc_thread_ports.proofs.ExchangeProofs.Fetching.{asked_addressed}
use Rattle.sc_thread_ports.proofs.exchange.ports.Port.post.Goals as goal

pub returns-in-Ok-clause-ok : goal.returns-in-Ok-clause-ok
returns-in-Ok-clause-ok g c =
    let t = c.in-Ok.ensures.ok in
    let row : Row g.row.M.Denot g.row.O.Denot = record { who = c.args.self.now.who; event = c.args.event; sent = c.args.sent } in record {
      appended = appended_after c.args.self.now _ row c.post_at.ensures.turned.start refl refl refl refl t.0;
      place = t.1;
      within = t.2;
      fetched = refl;
      crashed = c.is_crash-crashes.ensures;
    }

pub returns-in-Err-clause-refused : goal.returns-in-Err-clause-refused
returns-in-Err-clause-refused g c =
    let t = c.in-Err.ensures.refused in let u = c.unposted.ensures in record {
      looked = looked_after c.args.self.now _ c.post_at.ensures.turned.start refl refl refl t.0;
      event = u.1 ∙ ap (λ (r : Row g.row.M.Denot g.row.O.Denot). r.event) t.1;
      sent = u.2 ∙ ap (λ (r : Row g.row.M.Denot g.row.O.Denot). r.sent) t.1;
      cause = cause_back _ _ _ _ _ _ u.0 refl t.2;
      fetched = refl;
      crashed = refl;
    }

pub returns-in-Ok-clause-turned : goal.returns-in-Ok-clause-turned
returns-in-Ok-clause-turned g c =
    let row : Row g.row.M.Denot g.row.O.Denot = record { who = c.args.self.now.who; event = c.args.event; sent = c.args.sent } in record {
      stays = stays_after c.args.self.now _ c.post_at.ensures.turned.start refl refl refl (c.post_at.ensures.turned.given, c.post_at.ensures.turned.joined);
      rows = true_row c.args.self.now _ row c.in-Ok.ensures.ok.0;
      addressed = c.post_at.ensures.turned.addressed;
    }

pub returns-in-Err-clause-turned : goal.returns-in-Err-clause-turned
returns-in-Err-clause-turned g c = record {
  stays = stays_after c.args.self.now _ c.post_at.ensures.turned.start refl refl refl (c.post_at.ensures.turned.given, c.post_at.ensures.turned.joined);
  rows = true_after c.args.self.now _ c.in-Err.ensures.refused.0;
  addressed = c.post_at.ensures.turned.addressed;
}

pub invariant_of-self-in-Err-1 : goal.invariant_of-self-in-Err-1
invariant_of-self-in-Err-1 g c = let s = c.args.self.now in let t = c.in-Err.ensures.refused.0 in record {
  number = ap (λ v. v.who) t.view_is ∙ s.number;
  out = ap (λ v. v.turn) t.view_is;
  halted = s.halted ∙ ap (λ v. list_any (λ d. is_crash d.event) v.made) (sym t.view_is);
  small = s.small;
  own = own_after (known s.seat) (known c.post_at.new.seat) s.who s.number t;
  asked = ∥∥₁_map s.asked (asked_turned g.M.Parcel.receiver s.actors s.who s.fetched (known s.seat) (known c.post_at.new.seat) t);
}

pub returns-in-Err-clause-delivered : goal.returns-in-Err-clause-delivered
returns-in-Err-clause-delivered g c = let s = c.args.self.now in ∥∥₁_map s.asked (asked_event g.M.Parcel.receiver s.actors s.who s.fetched c.args.event _ _ c.requires.event)

pub returns-in-Ok-clause-delivered : goal.returns-in-Ok-clause-delivered
returns-in-Ok-clause-delivered g c = let s = c.args.self.now in ∥∥₁_map s.asked (asked_event g.M.Parcel.receiver s.actors s.who s.fetched c.args.event _ _ c.requires.event)

pub post_at-requires-clause-addressed : goal.post_at-requires-clause-addressed
post_at-requires-clause-addressed g c = let s = c.args.self.now in asked_addressed g.M.Parcel.receiver s.actors s.who s.fetched c.args.event _ _ c.requires.actor c.requires.event s.asked
