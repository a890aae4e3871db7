use Rattle.std.proofs.Common.{[], ◌∙◌}
use Rattle.sc_node_parts.proofs.ReplicaProofs.AppendedMail.{sent_all-none}
use Rattle.sc_node_parts.proofs.transactions.endings.abort_to.Goals as goal

pub returns-clause-none : goal.returns-clause-none
returns-clause-none c = λ e. c.send_aborts.ensures.none (c.as_slice.ensures.same ∙ sent_all-none c.args.me c.args.link.now.members _ [] e)
