use Rattle.std.proofs.Common.{if◌then◌else◌, sym, ap, ◌∙◌, Some, arith}
use Rattle.sc_meaning.specs.entries.Decisions.{is_of, with_outcome}
use Rattle.sc_world_groups.proofs.Changes.{changed-next-at, changed-end}
use Rattle.sc_world_groups.proofs.transactions.decide_all.Goals as goal

pub loop-transaction-preserved : goal.loop-transaction-preserved
loop-transaction-preserved c =
    changed-next-at (λ transaction. if is_of c.args.tx c.args.coordinator transaction then with_outcome (Some c.args.outcome.now) transaction else transaction)
    c.args.transactions.now c.loop-transaction.transactions c.loop-transaction.transaction-index c.transaction-item.result c.decide.new.transaction
    (omega (arith, c.loop-transaction-test.true)) c.loop-transaction.invariant c.transaction-item.is
    (c.in_ok-decide.ensures ∙ ap (λ transaction. if is_of c.args.tx c.args.coordinator transaction then with_outcome (Some c.args.outcome.now) transaction else transaction) (sym c.transaction-item.is))

pub returns : goal.returns
returns c =
    changed-end (λ transaction. if is_of c.args.tx c.args.coordinator transaction then with_outcome (Some c.args.outcome.now) transaction else transaction)
    c.args.transactions.now c.loop-transaction.transactions c.loop-transaction.transaction-index (omega (arith, c.loop-transaction-test.false)) c.loop-transaction.invariant
