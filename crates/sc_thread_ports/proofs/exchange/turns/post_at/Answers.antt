use Rattle.std.proofs.Common.{sym, subst, ap, ◌∙◌, length}
use Rattle.sc_thread_ports.specs.turn.TurnDefinitions.{known}
use Rattle.sc_actor.specs.Definitions.{row_bytes, journal_bytes}
use Rattle.sc_thread_ledger.specs.LedgerDefinitions.{IsCause}
use Rattle.sc_thread_ports.proofs.ExchangeProofs.Results.{ok_with, err_maps, either}
use Rattle.sc_thread_ports.proofs.ExchangeProofs.Views.{seen_same, seen_row, turned_same, turned_row, bytes_row}
use Rattle.sc_thread_ports.proofs.ExchangeProofs.SeatsAfterTurns.{seat_looked, seat_same, seat_row}
use Rattle.std.proofs.Common.{[]}
use Rattle.sc_thread_ports.specs.exchange.ExchangeDefinitions.{all_addressed}
use Rattle.sc_thread_ports.proofs.ExchangeProofs.Addressing.{addressed_push, addressed_found}
use Rattle.sc_thread_ports.proofs.exchange.turns.post_at.Goals as goal

pub returns-clause-ok : goal.returns-clause-ok
returns-clause-ok g c =
    let w = known c.args.seat.now in let s = known c.enter-exchange.new.self in let v = known c.append_row.new.seat in
    let rows = c.enter-exchange.result.ledger.value.rows.items in let e = c.enter-exchange.ensures in
    ok_with c.append_row.result
    (λ place p fits. let is = seen_row w s v rows c.args.row c.requires.maker e.view p.0 in
    (turned_row w s v rows c.args.row e.view e.later e.facts p.0, p.1 ∙ ap length (sym is), bytes_row g.M.Parcel.weighs rows c.args.row _ c.args.limit is fits))
    c.append_row.ensures.ok c.append_row.ensures.fits

pub returns-clause-refused : goal.returns-clause-refused
returns-clause-refused g c =
    let w = known c.args.seat.now in let s = known c.enter-exchange.new.self in let v = known c.append_row.new.seat in
    let rows = c.enter-exchange.result.ledger.value.rows.items in let e = c.enter-exchange.ensures in
    err_maps c.append_row.result
    (λ x p. (turned_same w s v rows e.view e.later e.facts p.0, p.1, subst (λ l. IsCause x.why (journal_bytes g.M.Parcel.weighs l) (row_bytes g.M.Parcel.weighs c.args.row) c.args.limit) (sym (seen_same w s v rows e.view p.0)) p.2))
    c.append_row.ensures.refused

pub returns-clause-turned : goal.returns-clause-turned
returns-clause-turned g c =
    let seat = c.args.seat.now in let met = c.enter-exchange.new.self in let next = c.append_row.new.seat in
    let rows = c.enter-exchange.result.ledger.value.rows.items in let e = c.enter-exchange.ensures in let row = c.args.row in
    either c.append_row.result
    (ok_with c.append_row.result
    (λ place p fits. seat_row seat next row (c.append_row.ensures.start ∙ e.start)
    (ap (all_addressed g.M.Parcel.receiver []) (seen_row (known seat) (known met) (known next) rows row c.requires.maker e.view p.0)
    ∙ addressed_push g.M.Parcel.receiver rows row c.enter-exchange.result.addressed (addressed_found g.M.Parcel.receiver row.who row.event (known seat) rows e.later c.requires.addressed))
    (turned_row (known seat) (known met) (known next) rows row e.view e.later e.facts p.0))
    c.append_row.ensures.ok c.append_row.ensures.fits)
    (err_maps c.append_row.result
    (λ x p. seat_same seat next (seat_looked seat met next rows e.start c.append_row.ensures.start e.view e.later e.facts p.0 c.enter-exchange.result.addressed))
    c.append_row.ensures.refused)

pub append_row-requires-clause-addressed : goal.append_row-requires-clause-addressed
append_row-requires-clause-addressed g c =
    addressed_found g.M.Parcel.receiver c.args.row.who c.args.row.event (known c.args.seat.now) c.enter-exchange.result.ledger.value.rows.items c.enter-exchange.ensures.later c.requires.addressed
