use Rattle.std.proofs.Common.{[], ap, ◌∙◌}
use Rattle.sc_words.specs.declared.commands.links.Link.{Link}
use Rattle.sc_node_parts.proofs.ReplicaProofs.AppendedMail.{sent_all-none}
use Rattle.sc_node_parts.proofs.transactions.questions.ask_all.Goals as goal

pub returns-clause-none : goal.returns-clause-none
returns-clause-none c = λ e.
    c.ask_nodes.ensures.none (c.as_slice.ensures.same ∙ ap (λ (l : Link). l.members) c.asked_link-link.ensures ∙ sent_all-none c.args.me _ _ [] e)
