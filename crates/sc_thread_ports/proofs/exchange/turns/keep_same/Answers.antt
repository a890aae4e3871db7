use Rattle.std.proofs.Common.{◌∙◌, inl}
use Rattle.sc_thread_ports.specs.turn.TurnDefinitions.{known}
use Rattle.sc_thread_ports.specs.exchange.ExchangeDefinitions.{bare_rows}
use Rattle.sc_thread_ports.proofs.ExchangeProofs.Done.{left_same}
use Rattle.sc_thread_ports.proofs.exchange.turns.keep_same.Goals as goal

pub leave-requires-clause-list : goal.leave-requires-clause-list
leave-requires-clause-list g c = inl c.requires.list

pub returns-clause-view : goal.returns-clause-view
returns-clause-view g c = c.leave.ensures.view ∙ left_same (known c.args.seat.now) (bare_rows c.args.exchange.ledger.value.rows.items) c.requires.list
