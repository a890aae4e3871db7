use Rattle.std.proofs.Common.{◌<◌, ◌^◌, ap, ◌∙◌, rules}
use Rattle.sc_base.specs.Limits.{longest_key}
use Rattle.sc_base.specs.TextErrors.{text_error}
use Rattle.sc_run.proofs.MadeTexts.{key_passes}
use Rattle.sc_run.proofs.drawing.made_key.Goals as goal

pub kept_key-requires : goal.kept_key-requires
kept_key-requires c =
    let small : c.args.client < 2 ^ 16 = search rules in
    ap (text_error longest_key) (c.deref.ensures.value ∙ c.in_ok-text.ensures) ∙ key_passes c.args.word c.args.client small
