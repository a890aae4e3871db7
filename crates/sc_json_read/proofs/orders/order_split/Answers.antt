use Rattle.std.proofs.Common.{codes, ap}
use Rattle.sc_words.specs.declared.commands.orders.Order.TheVariants.{Split}
use Rattle.sc_json_text.specs.rows.Orders.{order_json, FitsOrder}
use Rattle.sc_json_text.specs.rows.Shapes.{variant}
use Rattle.sc_json_read.specs.Reading.{content_of}
use Rattle.sc_json_read.proofs.Finding.{failed}
use Rattle.sc_json_read.proofs.orders.order_split.Goals as goal

pub returns-in_err-at-clause-finds : goal.returns-in_err-at-clause-finds
unfolding order_json FitsOrder
returns-in_err-at-clause-finds c = λ group at fits e. failed _ _ _ c.from_residual.ensures (c.in_err-at.ensures.finds at group fits.0 fits.1 (ap content_of e))

pub returns-clause-finds : goal.returns-clause-finds
unfolding order_json FitsOrder
returns-clause-finds c = λ group at fits e. ap (λ p. Split p.1 p.0) (c.in_ok-at.ensures.finds at group fits.0 fits.1 (ap content_of e))

pub returns-clause-exact : goal.returns-clause-exact
unfolding order_json
returns-clause-exact c = ap (variant (codes "Split")) c.in_ok-at.ensures.exact
