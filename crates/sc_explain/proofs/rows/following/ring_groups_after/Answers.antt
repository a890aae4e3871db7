use Rattle.std.proofs.Common.{◌++◌, List, arith, ap, ◌∙◌}
use Rattle.std.specs.List.{flat_map}
use Rattle.std.proofs.lemmas.List.{take_all}
use Rattle.sc_explain.specs.declared.facts.facts.RingGroup.{RingGroup}
use Rattle.sc_explain.specs.rows.Explained.{ring_group_in}
use Rattle.sc_explain.proofs.RowsProofs.SaidStays.{groups_more}
use Rattle.sc_explain.proofs.rows.following.ring_groups_after.Goals as goal

pub loop-cut-init : goal.loop-cut-init
loop-cut-init c = λ before entry is named by were. c.in_ok-after.ensures.items

pub loop-cut-preserved : goal.loop-cut-preserved
loop-cut-preserved c = λ before entry is named by were.
    let world = c.args.world.now in
    c.in_ok-next.ensures before entry is named by were
    ∙ ap (λ (groups : List RingGroup). groups ++ ring_group_in world c.cut-item.result) (c.loop-cut.invariant before entry is named by were)
    ∙ groups_more world c.ring-ring.result.now c.loop-cut.cut-index c.cut-item.result (omega (arith, c.loop-cut-test.true)) c.cut-item.is

pub returns : goal.returns
returns c = λ before entry is named by were.
    c.loop-cut.invariant before entry is named by were
    ∙ ap (flat_map (ring_group_in c.args.world.now)) (take_all c.loop-cut.cut-index c.ring-ring.result.now (omega (arith, c.loop-cut-test.false)) ∙ c.ring-ring.ensures)
