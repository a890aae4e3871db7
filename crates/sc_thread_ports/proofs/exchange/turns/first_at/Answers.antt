use Rattle.std.proofs.Common.{ap, sym, ◌∙◌, subst}
use Rattle.sc_thread_ports.specs.turn.TurnDefinitions.{known}
use Rattle.sc_thread_ports.specs.exchange.ExchangeDefinitions.{IsFirstTo}
use Rattle.sc_thread_ports.proofs.ExchangeProofs.Views.{seen_same}
use Rattle.sc_thread_ports.proofs.ExchangeProofs.SeatsAfterTurns.{seat_looked}
use Rattle.sc_thread_ports.proofs.exchange.turns.first_at.Goals as goal

pub returns-clause-first : goal.returns-clause-first
returns-clause-first g c =
    subst (λ l. IsFirstTo g.M.Parcel.receiver c.args.actors l c.args.who c.first_in-found.result)
    (ap (λ ledger. ledger.rows.items) c.deref.ensures ∙ sym (seen_same (known c.args.seat.now) (known c.enter-exchange.new.self) (known c.keep_same.new.seat) c.enter-exchange.result.ledger.value.rows.items c.enter-exchange.ensures.view c.keep_same.ensures.view))
    c.first_in-found.ensures

pub returns-clause-looked : goal.returns-clause-looked
returns-clause-looked g c = let e = c.enter-exchange.ensures in
    seat_looked c.args.seat.now c.enter-exchange.new.self c.keep_same.new.seat c.enter-exchange.result.ledger.value.rows.items e.start c.keep_same.ensures.start e.view e.later e.facts c.keep_same.ensures.view c.enter-exchange.result.addressed
