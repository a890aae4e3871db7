use Rattle.std.proofs.Common.{rules, ◌≡◌, sym, subst, None}
use Rattle.sc_actor.specs.Walk.{line_row}
use Rattle.sc_actor.specs.declared.schedules.Line.TheVariants.{Deliver}
use Rattle.sc_thread_drive.specs.Stepping.{IsPlace, IsNowhere}
use Rattle.sc_thread_drive.specs.CompanyRows.{RowEnds}
use Rattle.sc_thread_drive.proofs.CompanyActs.{delivers_out, delivers_so, delivers_zero}
use Rattle.sc_thread_drive.proofs.actor_lines.deliver.Goals as goal

pub returns-then-k-eq0 : goal.returns-then-k-eq0
returns-then-k-eq0 g c = delivers_zero c.args.company.now c.args.who c.args.k c.requires.together (search rules)

pub returns-in_default : goal.returns-in_default
returns-in_default g c =
    let none : c.place_of.result ≡ None = search rules in
    delivers_out c.args.company.now c.args.who c.args.k c.requires.together (subst (λ l. IsNowhere l c.args.who) c.as_slice.ensures.value (c.place_of.ensures.none none))

pub returns : goal.returns
returns g c =
    let at : IsPlace c.args.company.now.shells.items c.args.who c.in-Some.place = subst (λ l. IsPlace l c.args.who c.in-Some.place) c.as_slice.ensures.value c.in-Some.ensures.some in
    subst (RowEnds (λ s rows. line_row s rows (Deliver c.args.who c.args.k)) c.args.company.now c.act_by_turn-turn.new.company) (sym c.row_made.ensures)
    (delivers_so c.args.company.now c.act_by_turn-turn.new.company c.args.who c.in-Some.place c.args.k c.act_by_turn-turn.result.0 at c.act_by_turn-turn.ensures.served)
