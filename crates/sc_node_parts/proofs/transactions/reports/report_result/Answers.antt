use Rattle.sc_node_parts.proofs.TransactionsProofs.SilentTransactions.{reported-unreported}
use Rattle.sc_node_parts.proofs.transactions.reports.report_result.Goals as goal

pub returns-in-Some-clause-none : goal.returns-in-Some-clause-none
returns-in-Some-clause-none c = λ e. c.report_order.ensures.unreported (reported-unreported c.args.me c.args.reported c.args.number c.in-Some.result c.in-Some.is e)
