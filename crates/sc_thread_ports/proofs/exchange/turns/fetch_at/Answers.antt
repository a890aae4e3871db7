use Rattle.std.proofs.Common.{rules, ◌≡◌, ap, ◌∙◌, sym, subst, None, Some}
use Rattle.sc_thread_ports.specs.turn.TurnDefinitions.{known}
use Rattle.sc_thread_ledger.specs.LedgerDefinitions.{kth_pending}
use Rattle.sc_thread_ports.specs.exchange.ExchangeDefinitions.{rows_from, IsFetch}
use Rattle.sc_thread_ports.proofs.ExchangeProofs.Results.{ok_maps}
use Rattle.sc_thread_ports.proofs.ExchangeProofs.Views.{seen_same}
use Rattle.sc_thread_ports.proofs.ExchangeProofs.SeatsAfterTurns.{seat_looked}
use Rattle.sc_thread_ports.proofs.exchange.turns.fetch_at.Goals as goal

pub returns-clause-found : goal.returns-clause-found
returns-clause-found g c =
    ok_maps c.found_in-found.result
    (λ found p. subst (λ l. IsFetch g.M.Parcel.receiver c.args.actors l c.args.who c.args.k found)
    (ap (λ ledger. ledger.rows.items) c.deref-2.ensures ∙ sym (seen_same (known c.args.seat.now) (known c.enter-exchange.new.self) (known c.keep_same-2.new.seat) c.enter-exchange.result.ledger.value.rows.items c.enter-exchange.ensures.view c.keep_same-2.ensures.view)) p)
    c.found_in-found.ensures

pub returns-clause-looked : goal.returns-clause-looked
returns-clause-looked g c = let e = c.enter-exchange.ensures in
    seat_looked c.args.seat.now c.enter-exchange.new.self c.keep_same-2.new.seat c.enter-exchange.result.ledger.value.rows.items e.start c.keep_same-2.ensures.start e.view e.later e.facts c.keep_same-2.ensures.view c.enter-exchange.result.addressed

pub returns-in_default-clause-looked : goal.returns-in_default-clause-looked
returns-in_default-clause-looked g c = let e = c.enter-exchange.ensures in
    seat_looked c.args.seat.now c.enter-exchange.new.self c.keep_same.new.seat c.enter-exchange.result.ledger.value.rows.items e.start c.keep_same.ensures.start e.view e.later e.facts c.keep_same.ensures.view c.enter-exchange.result.addressed

pub returns-in_default-clause-found : goal.returns-in_default-clause-found
returns-in_default-clause-found g c =
    let rows : rows_from (known c.keep_same.new.seat).seen ≡ c.enter-exchange.result.ledger.value.rows.items = seen_same (known c.args.seat.now) (known c.enter-exchange.new.self) (known c.keep_same.new.seat) c.enter-exchange.result.ledger.value.rows.items c.enter-exchange.ensures.view c.keep_same.ensures.view in
    search rules

-- the mail was pending: the number is that of the mail
pub returns-clause-none : goal.returns-clause-none
returns-clause-none g c = λ none.
    let receiver = g.M.Parcel.receiver in
    let rows : rows_from (known c.keep_same-2.new.seat).seen ≡ c.enter-exchange.result.ledger.value.rows.items = seen_same (known c.args.seat.now) (known c.enter-exchange.new.self) (known c.keep_same-2.new.seat) c.enter-exchange.result.ledger.value.rows.items c.enter-exchange.ensures.view c.keep_same-2.ensures.view in
    let found : c.kth.result ≡ None = c.kth.ensures.kth ∙ ap (λ ledger. kth_pending receiver c.args.actors ledger.rows.items c.args.who c.args.k) c.deref.ensures ∙ ap (λ l. kth_pending receiver c.args.actors l c.args.who c.args.k) (sym rows) ∙ none in
    let some : c.kth.result ≡ Some c.in-Some.number = c.in-Some.is in
    let bad : ⊥ = cc in absurd bad
