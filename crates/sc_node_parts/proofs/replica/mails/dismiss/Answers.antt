use Rattle.std.proofs.Common.{[], ◌∙◌}
use Rattle.sc_node_parts.proofs.ReplicaProofs.AppendedMail.{dismissed-unreported}
use Rattle.sc_node_parts.proofs.replica.mails.dismiss.Goals as goal

pub returns-in_default-clause-none : goal.returns-in_default-clause-none
returns-in_default-clause-none c = λ e. c.report_order.ensures.unreported (c.order_number.ensures ∙ dismissed-unreported c.args.me c.args.group c.args.hint c.args.body.now c.args.command.now [] e)
