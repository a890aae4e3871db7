use Rattle.std.proofs.Common.{rules, ◌≡◌, ◌∙◌, refl, sym, ap, false, subst}
use Rattle.std.proofs.lemmas.Result.{on_ok_weaker}
use Rattle.sc_actor.specs.System.{acts}
use Rattle.sc_actor.specs.declared.rows.Event.TheVariants.{Go}
use Rattle.sc_thread_drive.specs.Numbers.{is_in}
use Rattle.sc_thread_drive.specs.CompanyRows.{RowEnded}
use Rattle.sc_thread_drive.proofs.Singles.{go_made, go_refused, go_skipped}
use Rattle.sc_thread_drive.proofs.CompanyActs.{same_stop}
use Rattle.sc_thread_drive.proofs.single_lines.run_go.Goals as goal

pub returns-in_err-go-clause-fills : goal.returns-in_err-go-clause-fills
returns-in_err-go-clause-fills g c = λ bytes e.
    let no : c.is_listed.result ≡ false = search rules in
    let fresh : is_in c.args.who c.args.company.now.score.started.items ≡ false = ap (is_in c.args.who) (sym c.as_slice.ensures.value) ∙ (sym c.is_listed.ensures ∙ no) in
    go_refused c.args.who c.args.company.now c.go.new.company fresh c.in_err-go.field-0.0 bytes (same_stop c.from_residual.result c.in_err-go.field-0.0 bytes c.from_residual.ensures.1 e) c.in_err-go.ensures

pub returns-then-branch-clause-goes : goal.returns-then-branch-clause-goes
returns-then-branch-clause-goes g c =
    let old = c.args.company.now in let new = c.go.new.company in
    let no : c.is_listed.result ≡ false = search rules in
    let fresh : is_in c.args.who old.score.started.items ≡ false = ap (is_in c.args.who) (sym c.as_slice.ensures.value) ∙ (sym c.is_listed.ensures ∙ no) in
    go_made c.args.who old new fresh (record new.score { started = c.push.new.self }) (subst (RowEnded (λ s rows. acts s rows c.args.who Go) old new) c.if-branch.true c.in_ok-go.ensures) refl refl c.in-Ok.ensures.items

pub returns-clause-goes : goal.returns-clause-goes
returns-clause-goes g c =
    let old = c.args.company.now in let new = c.go.new.company in
    let no : c.is_listed.result ≡ false = search rules in
    let fresh : is_in c.args.who old.score.started.items ≡ false = ap (is_in c.args.who) (sym c.as_slice.ensures.value) ∙ (sym c.is_listed.ensures ∙ no) in
    on_ok_weaker c.skip-2.result (λ count. go_skipped c.args.who old new fresh c.skip-2.new.score (subst (RowEnded (λ s rows. acts s rows c.args.who Go) old new) c.if-branch.false c.in_ok-go.ensures)
    (record { count = count; cut = c.skip-2.ensures.kept.0; started = c.skip-2.ensures.kept.1 })) c.skip-2.ensures.skipped
