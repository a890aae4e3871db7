use Rattle.std.proofs.Common.{codes, ap}
use Rattle.sc_words.specs.declared.commands.orders.OrderRefusal.TheVariants.{TooManyMembers}
use Rattle.sc_json_text.specs.rows.Orders.{order_refusal_json, FitsOrderRefusal}
use Rattle.sc_json_text.specs.rows.Shapes.{variant}
use Rattle.sc_json_read.specs.Reading.{content_of}
use Rattle.sc_json_read.proofs.Finding.{failed}
use Rattle.sc_json_read.proofs.orders.order_refusal_too_many_members.Goals as goal

pub returns-in_err-n-clause-finds : goal.returns-in_err-n-clause-finds
unfolding order_refusal_json FitsOrderRefusal
returns-in_err-n-clause-finds c = λ n fits e. failed _ _ _ c.from_residual.ensures (c.in_err-n.ensures.finds n fits (ap content_of e))

pub returns-clause-finds : goal.returns-clause-finds
unfolding order_refusal_json FitsOrderRefusal
returns-clause-finds c = λ n fits e. ap TooManyMembers (c.in_ok-n.ensures.finds n fits (ap content_of e))

pub returns-clause-exact : goal.returns-clause-exact
unfolding order_refusal_json
returns-clause-exact c = ap (variant (codes "TooManyMembers")) c.in_ok-n.ensures.exact
