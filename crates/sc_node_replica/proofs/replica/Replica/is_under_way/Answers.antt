use Rattle.std.proofs.Common.{sym, ◌∙◌, arith, true, false}
use Rattle.sc_node_table.specs.Acts.{is_of_kind}
use Rattle.sc_node_replica.proofs.Rounds.{any-step}
use Rattle.sc_node_replica.proofs.replica.Replica.is_under_way.Goals as goal

pub returns-then-is_of_kind_at : goal.returns-then-is_of_kind_at
returns-then-is_of_kind_at c =
    sym (any-step (is_of_kind c.args.act.now) c.args.self.now c.loop-i.i _ true (omega (arith, c.loop-i-test.true, c.open_slots-i-end.ensures.all)) (omega (arith, c.next-next.ensures.same)) (sym c.if-is_of_kind_at.true ∙ c.is_of_kind_at.ensures))
    ∙ c.loop-i.invariant

pub loop-i-preserved : goal.loop-i-preserved
loop-i-preserved c =
    sym (any-step (is_of_kind c.args.act.now) c.args.self.now c.loop-i.i _ false (omega (arith, c.loop-i-test.true, c.open_slots-i-end.ensures.all)) (omega (arith, c.next-next.ensures.same)) (sym c.if-is_of_kind_at.false ∙ c.is_of_kind_at.ensures))
    ∙ c.loop-i.invariant
