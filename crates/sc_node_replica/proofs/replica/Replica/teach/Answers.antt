use Rattle.std.proofs.Common.{sym, ◌∙◌, arith}
use Rattle.sc_node_replica.proofs.Rounds.{taught-step}
use Rattle.sc_node_replica.proofs.Unsent.{taught-some}
use Rattle.sc_node_replica.proofs.replica.Replica.teach.Goals as goal

pub overflow_add-at : goal.overflow_add-at
overflow_add-at c = omega (arith, c.entry.ensures.most, c.in-Some.ensures.held)

pub returns-in_err-teach_one-clause-none : goal.returns-in_err-teach_one-clause-none
returns-in_err-teach_one-clause-none c = λ e.
    absurd (taught-some c.args.self.now c.args.most c.loop-sent._sent c.args.from c.loop-sent.at c.in-Some.command.now
    (omega (arith, c.loop-sent-test.true)) (sym c.in-Some.ensures.same) (c.loop-sent.invariant.none e))

pub loop-sent-preserved : goal.loop-sent-preserved
loop-sent-preserved c = record {
  left =
      taught-step c.args.self.now c.args.most c.loop-sent._sent c.args.from c.loop-sent.at c.in-Some.command.now c.loop-sent.out c.teach_one.new.out
      (omega (arith, c.loop-sent-test.true)) (sym c.in-Some.ensures.same) c.in_ok-teach_one.ensures
      ∙ c.loop-sent.invariant.left;
  none = λ e.
      absurd (taught-some c.args.self.now c.args.most c.loop-sent._sent c.args.from c.loop-sent.at c.in-Some.command.now
      (omega (arith, c.loop-sent-test.true)) (sym c.in-Some.ensures.same) (c.loop-sent.invariant.none e));
}
