use Rattle.std.proofs.Common.{ap, sym, ◌∙◌}
use Rattle.sc_thread_ports.specs.turn.TurnDefinitions.{known}
use Rattle.std.specs.Option.{option_map}
use Rattle.sc_actor.specs.Definitions.{mails, numbered}
use Rattle.sc_thread_ports.proofs.ExchangeProofs.Views.{seen_same}
use Rattle.sc_thread_ports.proofs.ExchangeProofs.SeatsAfterTurns.{seat_looked}
use Rattle.sc_thread_ports.proofs.exchange.turns.receiver_at.Goals as goal

pub returns-clause-receiver : goal.returns-clause-receiver
returns-clause-receiver g c =
    c.receiver-found.ensures
    ∙ (ap (λ ledger. option_map g.M.Parcel.receiver (numbered (mails ledger.rows.items) c.args.number)) c.deref.ensures
    ∙ ap (λ l. option_map g.M.Parcel.receiver (numbered (mails l) c.args.number)) (sym (seen_same (known c.args.seat.now) (known c.enter-exchange.new.self) (known c.keep_same.new.seat) c.enter-exchange.result.ledger.value.rows.items c.enter-exchange.ensures.view c.keep_same.ensures.view)))

pub returns-clause-looked : goal.returns-clause-looked
returns-clause-looked g c = let e = c.enter-exchange.ensures in
    seat_looked c.args.seat.now c.enter-exchange.new.self c.keep_same.new.seat c.enter-exchange.result.ledger.value.rows.items e.start c.keep_same.ensures.start e.view e.later e.facts c.keep_same.ensures.view c.enter-exchange.result.addressed
