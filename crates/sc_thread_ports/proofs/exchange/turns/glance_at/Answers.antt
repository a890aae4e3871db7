use Rattle.std.proofs.Common.{ap, ◌∙◌, sym, subst}
use Rattle.sc_thread_ports.specs.turn.TurnDefinitions.{known}
use Rattle.sc_thread_ports.specs.exchange.ExchangeDefinitions.{IsGlance}
use Rattle.sc_thread_ports.proofs.ExchangeProofs.Results.{ok_maps}
use Rattle.sc_thread_ports.proofs.ExchangeProofs.Views.{seen_same}
use Rattle.sc_thread_ports.proofs.ExchangeProofs.SeatsAfterTurns.{seat_looked}
use Rattle.sc_thread_ports.proofs.exchange.turns.glance_at.Goals as goal

pub returns-clause-glance : goal.returns-clause-glance
returns-clause-glance g c =
    ok_maps c.glance_in-glance.result
    (λ glance p. subst (λ l. IsGlance g.M.Parcel.receiver c.args.actors l c.args.whos.now c.args.word glance)
    (ap (λ ledger. ledger.rows.items) c.deref.ensures ∙ sym (seen_same (known c.args.seat.now) (known c.enter-exchange.new.self) (known c.keep_same.new.seat) c.enter-exchange.result.ledger.value.rows.items c.enter-exchange.ensures.view c.keep_same.ensures.view)) p)
    c.glance_in-glance.ensures

pub returns-clause-looked : goal.returns-clause-looked
returns-clause-looked g c = let e = c.enter-exchange.ensures in
    seat_looked c.args.seat.now c.enter-exchange.new.self c.keep_same.new.seat c.enter-exchange.result.ledger.value.rows.items e.start c.keep_same.ensures.start e.view e.later e.facts c.keep_same.ensures.view c.enter-exchange.result.addressed
