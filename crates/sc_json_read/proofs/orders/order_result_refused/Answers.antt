use Rattle.std.proofs.Common.{codes, ap}
use Rattle.sc_words.specs.declared.commands.orders.OrderResult.TheVariants.{Refused}
use Rattle.sc_json_text.specs.rows.Orders.{order_result_json, FitsOrderResult}
use Rattle.sc_json_text.specs.rows.Shapes.{variant}
use Rattle.sc_json_read.specs.Reading.{content_of}
use Rattle.sc_json_read.proofs.Finding.{failed}
use Rattle.sc_json_read.proofs.orders.order_result_refused.Goals as goal

pub returns-in_err-inner-clause-finds : goal.returns-in_err-inner-clause-finds
unfolding order_result_json FitsOrderResult
returns-in_err-inner-clause-finds c = λ inner fits e. failed _ _ _ c.from_residual.ensures (c.in_err-inner.ensures.finds inner fits (ap content_of e))

pub returns-clause-finds : goal.returns-clause-finds
unfolding order_result_json FitsOrderResult
returns-clause-finds c = λ inner fits e. ap Refused (c.in_ok-inner.ensures.finds inner fits (ap content_of e))

pub returns-clause-exact : goal.returns-clause-exact
unfolding order_result_json
returns-clause-exact c = ap (variant (codes "Refused")) c.in_ok-inner.ensures.exact
