use Rattle.std.proofs.Common.{◌<◌, length, sym, ◌∙◌, arith}
use Rattle.std.proofs.lemmas.Bool.{ltb-true}
use Rattle.std.proofs.lemmas.List.{length-take-le}
use Rattle.sc_scenario.proofs.scenario.reading.read_scenario.Goals as goal

pub slice_bounds-lines_read-end : goal.slice_bounds-lines_read-end
slice_bounds-lines_read-end c =
    let lt : 16777216 < length c.args.text.now = ltb-true 16777216 (length c.args.text.now) (sym c.is_too_long.ensures ∙ c.if-is_too_long.true) in
    sym (length-take-le 16777216 c.args.text.now (omega (arith, lt)))
