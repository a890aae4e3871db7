use Rattle.std.proofs.Common.{codes, ap}
use Rattle.sc_words.specs.declared.commands.orders.OrderRefusal.TheVariants.{NotLeader}
use Rattle.sc_json_text.specs.rows.Orders.{order_refusal_json, FitsOrderRefusal}
use Rattle.sc_json_text.specs.rows.Shapes.{variant}
use Rattle.sc_json_read.specs.Reading.{content_of}
use Rattle.sc_json_read.proofs.Finding.{failed}
use Rattle.sc_json_read.proofs.orders.order_refusal_not_leader.Goals as goal

pub returns-in_err-hint-clause-finds : goal.returns-in_err-hint-clause-finds
unfolding order_refusal_json FitsOrderRefusal
returns-in_err-hint-clause-finds c = λ hint fits e. failed _ _ _ c.from_residual.ensures (c.in_err-hint.ensures.finds hint fits (ap content_of e))

pub returns-clause-finds : goal.returns-clause-finds
unfolding order_refusal_json FitsOrderRefusal
returns-clause-finds c = λ hint fits e. ap NotLeader (c.in_ok-hint.ensures.finds hint fits (ap content_of e))

pub returns-clause-exact : goal.returns-clause-exact
unfolding order_refusal_json
returns-clause-exact c = ap (variant (codes "NotLeader")) c.in_ok-hint.ensures.exact
