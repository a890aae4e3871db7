use Rattle.std.proofs.Common.{sym, ap, ◌∙◌}
use Rattle.sc_words.specs.declared.commands.cores.Core.{Core}
use Rattle.sc_node_parts.proofs.TransactionsProofs.SilentTransactions.{promised-none, watching-none}
use Rattle.sc_node_parts.proofs.transactions.reminders.remind.Goals as goal

pub returns-in-Promised-clause-none : goal.returns-in-Promised-clause-none
returns-in-Promised-clause-none c = λ e.
    c.send_yes_to_all.ensures.none (c.as_slice.ensures.same
    ∙ promised-none c.args.machine.now.core.lock c.args.me c.args.machine.now c.in-Promised.tx c.in-Promised.offer (ap (λ (k : Core). k.lock) (sym c.core-core.ensures) ∙ c.in-Promised.is) e)

pub returns-in-Watching-clause-none : goal.returns-in-Watching-clause-none
returns-in-Watching-clause-none c = λ e.
    c.send_watched_to_all.ensures.none (c.as_slice-in-Watching.ensures.same
    ∙ watching-none c.args.machine.now.core.lock c.args.me c.args.machine.now c.in-Watching.tx c.in-Watching.watch (ap (λ (k : Core). k.lock) (sym c.core-core.ensures) ∙ c.in-Watching.is) e)
