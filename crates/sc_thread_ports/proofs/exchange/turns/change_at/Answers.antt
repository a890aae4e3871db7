use Rattle.std.proofs.Common.{rules, ◌≡◌, sym, ap, ◌∙◌, true, false}
use Rattle.sc_thread_ports.specs.turn.TurnDefinitions.{known}
use Rattle.sc_thread_ports.specs.exchange.ExchangeDefinitions.{may_change, change, all_addressed}
use Rattle.sc_thread_ports.proofs.ExchangeProofs.Views.{seen_same, seen_row, turned_same, changed, bytes_row}
use Rattle.sc_thread_ports.proofs.ExchangeProofs.SeatsAfterTurns.{seat_looked, seat_same, seat_row}
use Rattle.std.proofs.Common.{[]}
use Rattle.sc_thread_ports.proofs.ExchangeProofs.Addressing.{addressed_push, change_addressed}
use Rattle.sc_thread_ports.proofs.exchange.turns.change_at.Goals as goal

pub returns-then-not-may_change_at-clause-ok : goal.returns-then-not-may_change_at-clause-ok
returns-then-not-may_change_at-clause-ok g c =
    let w = known c.args.seat.now in let s = known c.enter-exchange.new.self in let v = known c.keep_same.new.seat in
    let rows = c.enter-exchange.result.ledger.value.rows.items in let e = c.enter-exchange.ensures in
    let none : c.may_change_at.result ≡ false = search rules in (
      turned_same w s v rows e.view e.later e.facts c.keep_same.ensures.view,
      ap (λ l. may_change c.args.fate g.M.Parcel.receiver c.args.actors l c.args.number) (seen_same w s v rows e.view c.keep_same.ensures.view) ∙ (ap (λ ledger. may_change c.args.fate g.M.Parcel.receiver c.args.actors ledger.rows.items c.args.number) (sym c.deref.ensures) ∙ (sym c.may_change_at.ensures ∙ none)),
    )

pub returns-in-Ok-clause-ok : goal.returns-in-Ok-clause-ok
returns-in-Ok-clause-ok g c =
    let w = known c.args.seat.now in let s = known c.enter-exchange.new.self in let v = known c.append_row.new.seat in
    let rows = c.enter-exchange.result.ledger.value.rows.items in let e = c.enter-exchange.ensures in let row = c.change_of.result in
    let some : c.may_change_at.result ≡ true = search rules in (
      changed g.M.Parcel.receiver c.args.actors c.args.fate c.args.number w s v rows row c.change_of.ensures e.view e.later e.facts c.in-Ok.ensures.ok.0 (ap (λ ledger. may_change c.args.fate g.M.Parcel.receiver c.args.actors ledger.rows.items c.args.number) (sym c.deref.ensures) ∙ (sym c.may_change_at.ensures ∙ some)),
      bytes_row g.M.Parcel.weighs rows row _ c.args.limit (seen_row w s v rows row (ap (λ r. r.who) c.change_of.ensures ∙ sym c.requires.net) e.view c.in-Ok.ensures.ok.0) c.in-Ok.ensures.fits,
    )

pub returns-then-not-may_change_at-clause-turned : goal.returns-then-not-may_change_at-clause-turned
returns-then-not-may_change_at-clause-turned g c =
    let seat = c.args.seat.now in let next = c.keep_same.new.seat in let e = c.enter-exchange.ensures in
    seat_same seat next (seat_looked seat c.enter-exchange.new.self next c.enter-exchange.result.ledger.value.rows.items e.start c.keep_same.ensures.start e.view e.later e.facts c.keep_same.ensures.view c.enter-exchange.result.addressed)

pub returns-in-Ok-clause-turned : goal.returns-in-Ok-clause-turned
returns-in-Ok-clause-turned g c =
    let seat = c.args.seat.now in let met = c.enter-exchange.new.self in let next = c.append_row.new.seat in
    let rows = c.enter-exchange.result.ledger.value.rows.items in let e = c.enter-exchange.ensures in let row = c.change_of.result in
    seat_row seat next (change c.args.fate c.args.number) (c.append_row.ensures.start ∙ e.start)
    (ap (all_addressed g.M.Parcel.receiver []) (seen_row (known seat) (known met) (known next) rows row (ap (λ r. r.who) c.change_of.ensures ∙ sym c.requires.net) e.view c.in-Ok.ensures.ok.0)
    ∙ addressed_push g.M.Parcel.receiver rows row c.enter-exchange.result.addressed (change_addressed g.M.Parcel.receiver c.args.fate c.args.number _ row c.change_of.ensures))
    (returns-in-Ok-clause-ok g c).0.turned

pub returns-in-Err-clause-turned : goal.returns-in-Err-clause-turned
returns-in-Err-clause-turned g c =
    let seat = c.args.seat.now in let next = c.append_row.new.seat in let e = c.enter-exchange.ensures in
    seat_same seat next (seat_looked seat c.enter-exchange.new.self next c.enter-exchange.result.ledger.value.rows.items e.start c.append_row.ensures.start e.view e.later e.facts c.in-Err.ensures.refused.0 c.enter-exchange.result.addressed)

pub append_row-requires-clause-addressed : goal.append_row-requires-clause-addressed
append_row-requires-clause-addressed g c = change_addressed g.M.Parcel.receiver c.args.fate c.args.number _ c.change_of.result c.change_of.ensures

pub returns-in-Err-clause-may : goal.returns-in-Err-clause-may
returns-in-Err-clause-may g c =
    let some : c.may_change_at.result ≡ true = search rules in
    ap (λ l. may_change c.args.fate g.M.Parcel.receiver c.args.actors l c.args.number) (seen_same (known c.args.seat.now) (known c.enter-exchange.new.self) (known c.append_row.new.seat) c.enter-exchange.result.ledger.value.rows.items c.enter-exchange.ensures.view c.in-Err.ensures.refused.0)
    ∙ (ap (λ ledger. may_change c.args.fate g.M.Parcel.receiver c.args.actors ledger.rows.items c.args.number) (sym c.deref.ensures) ∙ (sym c.may_change_at.ensures ∙ some))
