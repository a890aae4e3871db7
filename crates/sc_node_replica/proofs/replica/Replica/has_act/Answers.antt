use Rattle.std.proofs.Common.{sym, ◌∙◌, arith, true, false}
use Rattle.sc_node_table.specs.Pump.{is_act}
use Rattle.sc_node_replica.proofs.Rounds.{any-step}
use Rattle.sc_node_replica.proofs.replica.Replica.has_act.Goals as goal

pub returns-then-is_act_at : goal.returns-then-is_act_at
returns-then-is_act_at c =
    sym (any-step is_act c.args.self.now c.loop-i.i _ true (omega (arith, c.loop-i-test.true, c.open_slots-i-end.ensures.all)) (omega (arith, c.next-next.ensures.same)) (sym c.if-is_act_at.true ∙ c.is_act_at.ensures))
    ∙ c.loop-i.invariant

pub loop-i-preserved : goal.loop-i-preserved
loop-i-preserved c =
    sym (any-step is_act c.args.self.now c.loop-i.i _ false (omega (arith, c.loop-i-test.true, c.open_slots-i-end.ensures.all)) (omega (arith, c.next-next.ensures.same)) (sym c.if-is_act_at.false ∙ c.is_act_at.ensures))
    ∙ c.loop-i.invariant
