use Rattle.std.proofs.Common.{sym, ◌∙◌, arith, ap, ◌+◌, get_or, []}
use Rattle.sc_node_table.specs.Replica.{ReplicaState, next}
use Rattle.sc_node_replica.proofs.Rounds.{asked-step, asked-end}
use Rattle.sc_node_replica.proofs.Unsent.{asked-none}
use Rattle.sc_node_replica.proofs.replica.Replica.ask_again.Goals as goal

pub returns-in_err-ask_again_at-clause-none : goal.returns-in_err-ask_again_at-clause-none
returns-in_err-ask_again_at-clause-none c = λ e.
    let ok = c.in_err-ask_again_at.ensures.none
    (asked-none c.args.self.now (next c.args.self.now) c.loop-i.i _ c.args.self.now.sets c.at.result.now
    (omega (arith, c.loop-i-test.true, c.open_slots-i-end.ensures.all)) (omega (arith, c.next-next.ensures.same))
    (c.at.ensures ∙ ap (λ (r : ReplicaState). get_or r.sets c.loop-i.i []) c.self.view_is) (c.loop-i.invariant.none e)).0 in
    absurd (cc)

pub loop-i-preserved : goal.loop-i-preserved
loop-i-preserved c = record {
  left =
      asked-step c.args.self.now (next c.args.self.now) c.loop-i.i _ c.args.self.now.sets c.at.result.now c.loop-i.out c.ask_again_at.new.out
      (omega (arith, c.loop-i-test.true, c.open_slots-i-end.ensures.all)) (omega (arith, c.next-next.ensures.same))
      (c.at.ensures ∙ ap (λ (r : ReplicaState). get_or r.sets c.loop-i.i []) c.self.view_is) c.in_ok-ask_again_at.ensures.mails
      ∙ c.loop-i.invariant.left;
  none = λ e.
      (asked-none c.args.self.now (next c.args.self.now) c.loop-i.i (c.next-next.result + c.loop-i.i) c.args.self.now.sets c.at.result.now
      (omega (arith, c.loop-i-test.true, c.open_slots-i-end.ensures.all)) (omega (arith, c.next-next.ensures.same))
      (c.at.ensures ∙ ap (λ (r : ReplicaState). get_or r.sets c.loop-i.i []) c.self.view_is) (c.loop-i.invariant.none e)).1;
}

pub returns-clause-mails : goal.returns-clause-mails
returns-clause-mails c =
    sym (asked-end c.args.self.now (next c.args.self.now + c.loop-i.i) c.loop-i.i c.args.self.now.sets c.loop-i.out (omega (arith, c.loop-i-test.false, c.open_slots-i-end.ensures.all)))
    ∙ c.loop-i.invariant.left
