use Rattle.sc_node_parts.proofs.TransactionsProofs.SilentTransactions.{spoken-none}
use Rattle.sc_node_parts.proofs.transactions.progress.speak.Goals as goal

pub returns-in_err-report_begun-clause-none : goal.returns-in_err-report_begun-clause-none
returns-in_err-report_begun-clause-none c = λ e.
    let ok = c.in_err-report_begun.ensures.none (spoken-none c.args.counted c.args.me c.args.machine.now c.args.before.now c.args.effect.now c.args.command.now e).0 in
    absurd (cc)

pub returns-clause-none : goal.returns-clause-none
returns-clause-none c = λ e.
    c.go_on.ensures.none ((spoken-none c.args.counted c.args.me c.args.machine.now c.args.before.now c.args.effect.now c.args.command.now e).1 c.if-not-counted.false)
