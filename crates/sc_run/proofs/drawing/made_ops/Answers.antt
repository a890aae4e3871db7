use Rattle.std.proofs.Common.{◌≡◌, ◌+◌, ◌*◌, sym, ap, ◌∙◌, arith}
use Rattle.sc_texts.specs.chance.KeyStream.{ChanceStep}
use Rattle.sc_scenario.proofs.ScenarioProofs.Made.{no_ops}
use Rattle.sc_run.proofs.MadeSteps.{one_more_op}
use Rattle.sc_run.proofs.drawing.made_ops.Goals as goal

pub loop-k-init : goal.loop-k-init
loop-k-init c =
    let start : ChanceStep = c.args.chance.now in
    let here : c.args.before * c.args.n ≡ c.args.before * c.args.n + 0 = omega arith in
    (c.new-ops.ensures ∙ sym (no_ops start.number c.args.n c.args.before), ap (λ step. record start { step = step }) (c.requires.here ∙ here))

pub loop-k-preserved : goal.loop-k-preserved
loop-k-preserved c =
    one_more_op c.args.chance.now c.loop-k.chance c.draw-words.new.self c.args.n c.args.before c.loop-k.k c.loop-k.ops c.push.new.self c.draw-words.result c.in_ok-made_op.field-0
    c.requires.few c.requires.short c.loop-k-test.true c.loop-k.invariant c.draw-words.ensures.words c.draw-words.ensures.next c.in_ok-made_op.ensures c.in_ok-push.ensures.ok
