use Rattle.std.proofs.lemmas.Result.{IfOk-weaker}
use Rattle.sc_texts.specs.edges.Uses.{SourceUse}
use Rattle.sc_run.proofs.Readings.{scanned, refused_scan}
use Rattle.sc_run.proofs.saying.show_input.Goals as goal

pub returns-in-Ok-clause-says : goal.returns-in-Ok-clause-says
returns-in-Ok-clause-says g c =
    let source : SourceUse = record { left = g.S.Source.left c.args.input.now; errors_before = g.S.Source.errors c.args.input.now; errors_after = g.S.Source.errors c.scenario_in.new.input } in
    IfOk-weaker c.show.result _ _ (λ begun comes. scanned source begun.0 begun.1 c.args.sight c.in-Ok.scenario c.in-Ok.ensures.read comes) c.show.ensures

pub returns-in-Err-clause-says : goal.returns-in-Err-clause-says
returns-in-Err-clause-says g c =
    let source : SourceUse = record { left = g.S.Source.left c.args.input.now; errors_before = g.S.Source.errors c.args.input.now; errors_after = g.S.Source.errors c.scenario_in.new.input } in
    IfOk-weaker c.refuse.result _ _ (λ begun line_text. refused_scan source begun.0 begun.1 c.args.sight c.in-Err.error c.in-Err.ensures.read line_text) c.refuse.ensures
