use Rattle.std.proofs.lemmas.Result.{IfOk-weaker}
use Rattle.sc_texts.specs.edges.Uses.{SourceUse}
use Rattle.sc_run.proofs.Readings.{explained, refused_explained}
use Rattle.sc_run.proofs.saying.explain_input.Goals as goal

pub returns-in-Ok-clause-says : goal.returns-in-Ok-clause-says
returns-in-Ok-clause-says g c =
    let source : SourceUse = record { left = g.S.Source.left c.args.input.now; errors_before = g.S.Source.errors c.args.input.now; errors_after = g.S.Source.errors c.file_in.new.input } in
    IfOk-weaker c.explain_stored.result _ _ (λ begun comes. explained source begun.0 begun.1 c.in-Ok.scenario c.in-Ok.rows c.in-Ok.ensures.read comes) c.explain_stored.ensures

pub returns-in-Err-clause-says : goal.returns-in-Err-clause-says
returns-in-Err-clause-says g c =
    let source : SourceUse = record { left = g.S.Source.left c.args.input.now; errors_before = g.S.Source.errors c.args.input.now; errors_after = g.S.Source.errors c.file_in.new.input } in
    IfOk-weaker c.refuse.result _ _ (λ begun line_text. refused_explained source begun.0 begun.1 c.in-Err.error c.in-Err.ensures.read line_text) c.refuse.ensures
