use Rattle.std.proofs.Common.{◌+◌, [], ◌∷◌, ◌++◌, sym, ap, ◌∙◌}
use Rattle.sc_scenario.specs.declared.scenario.scenarios.SchedLine.TheVariants.{Go}
use Rattle.sc_scenario.proofs.ScenarioProofs.Made.{no_goes, goes_next}
use Rattle.sc_run.proofs.making.lines.Goals as goal

pub loop-k-init : goal.loop-k-init
loop-k-init c = c.new-lines.ensures ∙ sym no_goes

pub loop-k-preserved : goal.loop-k-preserved
loop-k-preserved c = c.in_ok-push.ensures.ok ∙ ap (λ lines. lines ++ Go (c.loop-k.k + 1) ∷ []) c.loop-k.invariant ∙ sym (goes_next c.loop-k.k)
