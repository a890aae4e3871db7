use Rattle.std.proofs.Common.{◌<◌, length, sym, ◌∙◌, arith, rules}
use Rattle.sc_texts.specs.lines.Definitions.{most_lines}
use Rattle.sc_texts.specs.declared.lines.reasons.Reason.TheVariants.{TooLarge}
use Rattle.sc_scenario.proofs.ScenarioProofs.Verdicts.{many, refused}
use Rattle.sc_scenario.proofs.scenario.reading.lines_read.Goals as goal

pub returns-then-number-gt-LINE_LIMIT : goal.returns-then-number-gt-LINE_LIMIT
returns-then-number-gt-LINE_LIMIT c =
    let some : 0 < length c.loop-rest.rest.now = search rules in
    let lt : most_lines < c.loop-rest.number = omega arith in
    refused _ c.bad.result c.loop-rest.number TooLarge (sym c.loop-rest.invariant ∙ many c.args.is_long c.loop-rest.number c.loop-rest.reading c.loop-rest.rest.now some lt) c.bad.ensures
