use Rattle.std.proofs.Common.{sym, ◌∙◌, arith}
use Rattle.sc_node_table.specs.Slots.{slots_ahead}
use Rattle.sc_node.proofs.Born.{born-none}
use Rattle.sc_node.proofs.node.born_replicas.Goals as goal

pub returns-in_err-dup-clause-none : goal.returns-in_err-dup-clause-none
returns-in_err-dup-clause-none c = λ e.
    absurd (born-none slots_ahead c.args.me c.args.groups.now c.loop-base.base-index c.base-item.result (omega (arith, c.loop-base-test.true)) c.base-item.is (sym c.has.ensures ∙ c.if-has.true) e)

pub returns-in_err-born-clause-none : goal.returns-in_err-born-clause-none
returns-in_err-born-clause-none c = λ e.
    absurd (born-none slots_ahead c.args.me c.args.groups.now c.loop-base.base-index c.base-item.result (omega (arith, c.loop-base-test.true)) c.base-item.is (sym c.has.ensures ∙ c.if-has.true) e)

pub returns-in_err-push-clause-none : goal.returns-in_err-push-clause-none
returns-in_err-push-clause-none c = λ e.
    absurd (born-none slots_ahead c.args.me c.args.groups.now c.loop-base.base-index c.base-item.result (omega (arith, c.loop-base-test.true)) c.base-item.is (sym c.has.ensures ∙ c.if-has.true) e)
