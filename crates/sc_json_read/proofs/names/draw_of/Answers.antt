use Rattle.std.proofs.Common.{◌≡◌, Option, Some, ap₂, ◌∙◌}
use Rattle.sc_base.specs.declared.names.Draw.{Draw}
use Rattle.sc_json_read.proofs.Digits.{draw_back, draw_dot, draw_node, draw_count, not_none, kept}
use Rattle.sc_json_read.proofs.names.draw_of.Goals as goal

pub returns-in_err-dot-clause-finds : goal.returns-in_err-dot-clause-finds
returns-in_err-dot-clause-finds c draw fits same = absurd (not_none _ _ c.in_err-dot.ensures.place (draw_dot c.args.text.now draw fits same))

pub returns-in_err-node-clause-finds : goal.returns-in_err-node-clause-finds
returns-in_err-node-clause-finds c draw fits same = absurd (not_none _ _ c.in_err-node.ensures (draw_node c.args.text.now draw c.in_ok-dot.dot fits same c.in_ok-dot.ensures.place))

pub returns-in_err-count-clause-finds : goal.returns-in_err-count-clause-finds
returns-in_err-count-clause-finds c draw fits same = absurd (not_none _ _ c.in_err-count.ensures (draw_count c.args.text.now draw c.in_ok-dot.dot fits same c.in_ok-dot.ensures.place))

pub returns-clause-finds : goal.returns-clause-finds
returns-clause-finds c draw fits same =
    let node : Some c.in_ok-node.node ≡ Some draw.node = c.in_ok-node.ensures ∙ draw_node c.args.text.now draw c.in_ok-dot.dot fits same c.in_ok-dot.ensures.place in
    let count : Some c.in_ok-count.count ≡ Some draw.count = c.in_ok-count.ensures ∙ draw_count c.args.text.now draw c.in_ok-dot.dot fits same c.in_ok-dot.ensures.place in
    let first : c.in_ok-ok.field-0 ≡ c.in_ok-node.node = kept _ c.try_from.result c.in_ok-node.node c.in_ok-ok.field-0 c.try_from.ensures c.in_ok-ok.ensures.value in
    let second : c.in_ok-ok-2.field-0 ≡ c.in_ok-count.count = kept _ c.try_from-2.result c.in_ok-count.count c.in_ok-ok-2.field-0 c.try_from-2.ensures c.in_ok-ok-2.ensures.value in
    let one : c.in_ok-node.node ≡ draw.node = cc in
    let two : c.in_ok-count.count ≡ draw.count = cc in
    let make : Draw → Option Draw = λ d. Some d in
    ap₂ (λ a b. make (record { node = a; count = b })) (first ∙ one) (second ∙ two)

pub returns-clause-exact : goal.returns-clause-exact
returns-clause-exact c =
    let first : c.in_ok-ok.field-0 ≡ c.in_ok-node.node = kept _ c.try_from.result c.in_ok-node.node c.in_ok-ok.field-0 c.try_from.ensures c.in_ok-ok.ensures.value in
    let second : c.in_ok-ok-2.field-0 ≡ c.in_ok-count.count = kept _ c.try_from-2.result c.in_ok-count.count c.in_ok-ok-2.field-0 c.try_from-2.ensures c.in_ok-ok-2.ensures.value in
    draw_back c.args.text.now (record { node = c.in_ok-ok.field-0; count = c.in_ok-ok-2.field-0 }) c.in_ok-dot.dot c.in_ok-node.node c.in_ok-count.count c.in_ok-dot.ensures.place c.in_ok-node.ensures c.in_ok-count.ensures first second
