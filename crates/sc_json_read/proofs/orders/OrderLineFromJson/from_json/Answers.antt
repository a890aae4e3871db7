use Rattle.std.proofs.Common.{ap}
use Rattle.sc_words.specs.declared.commands.orders.OrderLine.{OrderLine}
use Rattle.sc_json_text.specs.rows.Orders.{order_line_json, FitsOrderLine}
use Rattle.sc_json_read.proofs.Finding.{failed}
use Rattle.sc_json_read.proofs.orders.OrderLineFromJson.from_json.Goals as goal

pub returns-in_err-number-clause-finds : goal.returns-in_err-number-clause-finds
unfolding order_line_json FitsOrderLine
returns-in_err-number-clause-finds c = λ line fits e. failed _ _ _ c.from_residual.ensures (c.in_err-number.ensures.finds line.number line.order fits.0 fits.1 e)

pub returns-clause-finds : goal.returns-clause-finds
unfolding order_line_json FitsOrderLine
returns-clause-finds c = λ line fits e. ap (λ p. let r : OrderLine = record { number = p.0; order = p.1 } in r) (c.in_ok-number.ensures.finds line.number line.order fits.0 fits.1 e)

pub returns-clause-exact : goal.returns-clause-exact
unfolding order_line_json
returns-clause-exact c = c.in_ok-number.ensures.exact
