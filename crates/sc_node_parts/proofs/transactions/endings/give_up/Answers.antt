use Rattle.sc_words.specs.commands.Effects.{decided_in}
use Rattle.sc_node_parts.proofs.TransactionsProofs.SilentTransactions.{given-none, is_decided}
use Rattle.sc_node_parts.proofs.transactions.endings.give_up.Goals as goal

pub returns-in_err-abort_to-clause-none : goal.returns-in_err-abort_to-clause-none
returns-in_err-abort_to-clause-none c = λ e.
    let ok = c.in_err-abort_to.ensures.none (given-none (decided_in c.args.effect.now) c.args.me c.args.before.now c.args.tx (is_decided c.has_outcome.result (decided_in c.args.effect.now) c.has_outcome.ensures c.if-not-has_outcome.false) e).0 in
    absurd (cc)

pub returns-clause-none : goal.returns-clause-none
returns-clause-none c = λ e.
    c.abort_watcher.ensures.none (given-none (decided_in c.args.effect.now) c.args.me c.args.before.now c.args.tx (is_decided c.has_outcome.result (decided_in c.args.effect.now) c.has_outcome.ensures c.if-not-has_outcome.false) e).1
