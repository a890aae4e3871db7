use Rattle.std.proofs.Common.{◌∙◌}
use Rattle.sc_node_replica.proofs.Unsent.{effect_reported-unreported}
use Rattle.sc_node_replica.proofs.replica.Replica.report_effect.Goals as goal

pub returns-in-Some-clause-none : goal.returns-in-Some-clause-none
returns-in-Some-clause-none c = λ e. c.report_order.ensures.unreported (c.order_number.ensures ∙ effect_reported-unreported c.args.told c.in-Some.result c.args.command.now c.args.self.now c.in-Some.is e)
