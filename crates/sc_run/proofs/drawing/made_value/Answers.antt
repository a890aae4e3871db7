use Rattle.std.proofs.Common.{◌<◌, ◌^◌, ap, ◌∙◌, rules}
use Rattle.sc_base.specs.Limits.{longest_value}
use Rattle.sc_base.specs.TextErrors.{text_error}
use Rattle.sc_run.proofs.MadeTexts.{value_passes}
use Rattle.sc_run.proofs.drawing.made_value.Goals as goal

pub kept_value-requires : goal.kept_value-requires
kept_value-requires c =
    let small : c.args.number < 2 ^ 16 = search rules in
    ap (text_error longest_value) (c.deref.ensures.value ∙ c.in_ok-text.ensures) ∙ value_passes c.args.number small
