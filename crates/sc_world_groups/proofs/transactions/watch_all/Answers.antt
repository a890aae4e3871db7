use Rattle.std.proofs.Common.{if◌then◌else◌, sym, ap, ◌∙◌, arith}
use Rattle.sc_meaning.specs.entries.Decisions.{is_of, with_watcher}
use Rattle.sc_world_groups.proofs.Changes.{changed-next-at, changed-end}
use Rattle.sc_world_groups.proofs.transactions.watch_all.Goals as goal

pub loop-transaction-preserved : goal.loop-transaction-preserved
loop-transaction-preserved c =
    changed-next-at (λ transaction. if is_of c.args.tx c.args.coordinator transaction then with_watcher c.args.watcher transaction else transaction)
    c.args.transactions.now c.loop-transaction.transactions c.loop-transaction.transaction-index c.transaction-item.result c.watch.new.transaction
    (omega (arith, c.loop-transaction-test.true)) c.loop-transaction.invariant c.transaction-item.is
    (c.watch.ensures ∙ ap (λ transaction. if is_of c.args.tx c.args.coordinator transaction then with_watcher c.args.watcher transaction else transaction) (sym c.transaction-item.is))

pub returns : goal.returns
returns c =
    changed-end (λ transaction. if is_of c.args.tx c.args.coordinator transaction then with_watcher c.args.watcher transaction else transaction)
    c.args.transactions.now c.loop-transaction.transactions c.loop-transaction.transaction-index (omega (arith, c.loop-transaction-test.false)) c.loop-transaction.invariant
