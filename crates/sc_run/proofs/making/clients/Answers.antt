use Rattle.std.proofs.Common.{◌≡◌, ℕ, ◌*◌, sym, ap, ◌∙◌, arith}
use Rattle.sc_texts.specs.chance.KeyStream.{ChanceStep}
use Rattle.sc_scenario.proofs.ScenarioProofs.Made.{no_clients}
use Rattle.sc_run.proofs.MadeSteps.{one_more_client}
use Rattle.sc_run.proofs.making.clients.Goals as goal

pub loop-k-init : goal.loop-k-init
loop-k-init c =
    let start : 0 ≡ 0 * c.args.n = omega arith in
    let at : ℕ → ChanceStep = λ step. record { number = c.args.seed; step = step } in
    (c.new-clients.ensures ∙ sym (no_clients c.args.seed c.args.n), c.start-chance.ensures ∙ ap at start)

pub loop-k-preserved : goal.loop-k-preserved
loop-k-preserved c =
    one_more_client c.args.seed c.args.n c.loop-k.k c.loop-k.chance c.made_ops.new.chance c.loop-k.clients c.push.new.self c.in_ok-ops.ops
    c.loop-k.invariant c.in_ok-ops.ensures.ops c.in_ok-ops.ensures.after c.in_ok-push.ensures.ok
