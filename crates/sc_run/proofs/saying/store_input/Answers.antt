use Rattle.std.proofs.Common.{subst, sym}
use Rattle.std.proofs.lemmas.Result.{IfOk-weaker}
use Rattle.sc_texts.specs.edges.Uses.{SourceUse}
use Rattle.sc_cli.specs.Inputs.{ReadsText}
use Rattle.sc_run.proofs.Readings.{stored, refused_text}
use Rattle.sc_run.proofs.saying.store_input.Goals as goal

pub returns-in-Ok-clause-says : goal.returns-in-Ok-clause-says
returns-in-Ok-clause-says g c =
    let source : SourceUse = record { left = g.S.Source.left c.args.input.now; errors_before = g.S.Source.errors c.args.input.now; errors_after = g.S.Source.errors c.text_in.new.input } in
    IfOk-weaker c.store.result _ _ (λ begun comes. stored source begun.0 begun.1 c.in-Ok.scenario c.deref.result.now (subst (ReadsText source.left c.in-Ok.scenario) (sym c.deref.ensures.value) c.in-Ok.ensures.read) comes) c.store.ensures

pub returns-in-Err-clause-says : goal.returns-in-Err-clause-says
returns-in-Err-clause-says g c =
    let source : SourceUse = record { left = g.S.Source.left c.args.input.now; errors_before = g.S.Source.errors c.args.input.now; errors_after = g.S.Source.errors c.text_in.new.input } in
    IfOk-weaker c.refuse.result _ _ (λ begun line_text. refused_text source begun.0 begun.1 c.in-Err.error c.in-Err.ensures.read line_text) c.refuse.ensures
