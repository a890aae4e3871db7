use Rattle.std.proofs.Common.{List, sym, subst, ◌∙◌}
use Rattle.std.proofs.lemmas.Result.{MatchResult-weaker}
use Rattle.sc_meaning.specs.declared.entries.LogEntry.{LogEntry}
use Rattle.sc_explain.specs.rows.Said.{HasTaken, HaveArcsThroughout}
use Rattle.sc_explain.proofs.rows.explaining.explain_row.Goals as goal

pub returns-in-Ok : goal.returns-in-Ok
returns-in-Ok c =
    let made : HasTaken c.args.deciding.now.row c.args.world.now c.args.deciding.now.entries c.in_ok-copy.copy.items c.take_all.new.world c.in-Ok.taken.lines.items c.in-Ok.taken.groups.items =
    subst (λ (es : List LogEntry). HasTaken c.args.deciding.now.row c.args.world.now es c.in_ok-copy.copy.items c.take_all.new.world c.in-Ok.taken.lines.items c.in-Ok.taken.groups.items)
    c.as_slice-entries.ensures c.in-Ok.ensures in
    MatchResult-weaker c.say_taken.result c.say_taken.ensures
    (λ after says said. (let done = says (made.groups_are (c.in_ok-copy.ensures ∙ c.as_slice.ensures.value ∙ said.groups)) in
    (done.0, made.world, done.1 c.args.world.now c.args.deciding.now.entries said made.lines_are)))
    (λ error never is arcs. never is)

pub returns-in-Err : goal.returns-in-Err
returns-in-Err c = λ is arcs.
    c.in-Err.ensures is (subst (λ (es : List LogEntry). HaveArcsThroughout c.args.world.now es) (sym c.as_slice-entries.ensures) arcs)
