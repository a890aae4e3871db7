use Rattle.std.proofs.Common.{sym, ◌∙◌, ap, ◌++◌, ◌+◌, filter, arith}
use Rattle.sc_node_table.specs.Election.{nodes_to, is_in_some}
use Rattle.sc_node_choices.proofs.Numbers.{numbers_to, nodes-taken, nodes-passed, taken-some}
use Rattle.sc_node_choices.proofs.nodes.nodes_to.Goals.{then-has+in_ok-push, else-has}
use Rattle.sc_node_choices.proofs.nodes.nodes_to.Goals as goal

pub loop-node-preserved : goal.loop-node-preserved
loop-node-preserved c =
    elim c.if-has.branch [
      | then-has+in_ok-push w ↦
          ap (λ nodes. nodes.items ++ filter (λ node. is_in_some c.args.sets.now node) (numbers_to (c.args.most + 1) (c.loop-node.node + 1))) w.nodes-is
          ∙ ap (λ nodes. nodes ++ filter (λ node. is_in_some c.args.sets.now node) (numbers_to (c.args.most + 1) (c.loop-node.node + 1))) w.in_ok-push.ensures.items
          ∙ nodes-taken (λ node. is_in_some c.args.sets.now node) (c.args.most + 1) c.loop-node.node c.loop-node.nodes.items (nodes_to c.args.most c.args.sets.now) (omega (arith, c.loop-node-test.true)) (sym c.has.ensures ∙ w.if-has.true) c.loop-node.invariant
      | else-has w ↦
          ap (λ nodes. nodes.items ++ filter (λ node. is_in_some c.args.sets.now node) (numbers_to (c.args.most + 1) (c.loop-node.node + 1))) w.nodes-is
          ∙ nodes-passed (λ node. is_in_some c.args.sets.now node) (c.args.most + 1) c.loop-node.node c.loop-node.nodes.items (nodes_to c.args.most c.args.sets.now) (omega (arith, c.loop-node-test.true)) (sym c.has.ensures ∙ w.if-has.false) c.loop-node.invariant
    ]

pub returns-in_err-push-clause-none : goal.returns-in_err-push-clause-none
returns-in_err-push-clause-none c =
    λ none. absurd (taken-some c.loop-node.nodes.items _ c.loop-node.node
    (nodes-taken (λ node. is_in_some c.args.sets.now node) (c.args.most + 1) c.loop-node.node c.loop-node.nodes.items (nodes_to c.args.most c.args.sets.now) (omega (arith, c.loop-node-test.true)) (sym c.has.ensures ∙ c.if-has.true) c.loop-node.invariant ∙ none))
