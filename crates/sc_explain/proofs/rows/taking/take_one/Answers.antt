use Rattle.std.proofs.Common.{◌++◌, ◌∷◌, [], Option, ap, ◌∙◌}
use Rattle.std.proofs.lemmas.Result.{MatchResult-weaker}
use Rattle.sc_words.specs.declared.commands.effects.Effect.{Effect}
use Rattle.sc_explain.specs.facts.Facts.{entry_line}
use Rattle.sc_explain.proofs.rows.taking.take_one.Goals as goal

pub returns-in-Ok : goal.returns-in-Ok
returns-in-Ok c =
    MatchResult-weaker c.after_entry.result c.after_entry.ensures
    (λ more done. (
      c.in-Ok.ensures.recorded.0,
      done.0 ∙ ap (λ (effect : Option Effect). c.args.taken.lines.items ++ entry_line c.args.row c.args.entry.now effect ∷ []) c.in-Ok.ensures.recorded.1,
      λ same. done.1 c.args.world.now c.in-Ok.ensures.recorded.0 c.in-Ok.ensures.recorded.1 same,
    ))
    (λ error never is arcs. never is)
