use Rattle.std.proofs.Common.{codes, ap}
use Rattle.sc_words.specs.declared.commands.orders.Order.TheVariants.{Merge}
use Rattle.sc_json_text.specs.rows.Orders.{order_json, FitsOrder}
use Rattle.sc_json_text.specs.rows.Shapes.{variant}
use Rattle.sc_json_read.specs.Reading.{content_of}
use Rattle.sc_json_read.proofs.Finding.{failed}
use Rattle.sc_json_read.proofs.orders.order_merge.Goals as goal

pub returns-in_err-group-clause-finds : goal.returns-in_err-group-clause-finds
unfolding order_json FitsOrder
returns-in_err-group-clause-finds c = λ group fits e. failed _ _ _ c.from_residual.ensures (c.in_err-group.ensures.finds group fits (ap content_of e))

pub returns-clause-finds : goal.returns-clause-finds
unfolding order_json FitsOrder
returns-clause-finds c = λ group fits e. ap Merge (c.in_ok-group.ensures.finds group fits (ap content_of e))

pub returns-clause-exact : goal.returns-clause-exact
unfolding order_json
returns-clause-exact c = ap (variant (codes "Merge")) c.in_ok-group.ensures.exact
