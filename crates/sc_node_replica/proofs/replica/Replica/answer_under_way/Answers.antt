use Rattle.std.proofs.Common.{sym, ◌+◌, ◌∙◌, arith}
use Rattle.sc_node_table.specs.Replica.{name_of}
use Rattle.sc_node_replica.proofs.Rounds.{answered-step, answered-end}
use Rattle.sc_node_replica.proofs.Unsent.{answered-none}
use Rattle.sc_node_replica.proofs.replica.Replica.answer_under_way.Goals as goal

pub returns-in_err-answer_taken-clause-none : goal.returns-in_err-answer_taken-clause-none
returns-in_err-answer_taken-clause-none c = λ e.
    let ok = c.in_err-answer_taken.ensures.none
    (answered-none c.args.self.now.me (name_of c.args.self.now) c.args.body.now c.args.self.now c.loop-i.i _
    (omega (arith, c.loop-i-test.true, c.open_slots-i-end.ensures.all)) (omega (arith, c.next-next.ensures.same)) (c.loop-i.invariant.none e)).0 in
    absurd (cc)

pub loop-i-preserved : goal.loop-i-preserved
loop-i-preserved c = record {
  left =
      answered-step c.args.self.now.me (name_of c.args.self.now) c.args.body.now c.args.self.now c.loop-i.i _ c.loop-i.out c.answer_taken.new.out
      (omega (arith, c.loop-i-test.true, c.open_slots-i-end.ensures.all)) (omega (arith, c.next-next.ensures.same)) c.in_ok-answer_taken.ensures.mails
      ∙ c.loop-i.invariant.left;
  none = λ e.
      (answered-none c.args.self.now.me (name_of c.args.self.now) c.args.body.now c.args.self.now c.loop-i.i (c.next-next.result + c.loop-i.i)
      (omega (arith, c.loop-i-test.true, c.open_slots-i-end.ensures.all)) (omega (arith, c.next-next.ensures.same)) (c.loop-i.invariant.none e)).1;
}

pub returns-clause-mails : goal.returns-clause-mails
returns-clause-mails c =
    sym (answered-end c.args.self.now.me (name_of c.args.self.now) c.args.body.now c.args.self.now c.loop-i.i c.loop-i.out (omega (arith, c.loop-i-test.false, c.open_slots-i-end.ensures.all)))
    ∙ c.loop-i.invariant.left
