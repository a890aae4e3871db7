use Rattle.std.proofs.Common.{rules, ◌≡◌, sym, subst, None}
use Rattle.sc_actor.specs.System.{acts}
use Rattle.sc_actor.specs.declared.rows.Event.TheVariants.{Go}
use Rattle.sc_thread_drive.specs.Stepping.{IsPlace, IsNowhere}
use Rattle.sc_thread_drive.specs.CompanyRows.{RowEnds}
use Rattle.sc_thread_drive.proofs.CompanyActs.{goes_out, goes_so}
use Rattle.sc_thread_drive.proofs.actor_lines.go.Goals as goal

pub returns-in_default : goal.returns-in_default
returns-in_default g c =
    let none : c.place_of.result ≡ None = search rules in
    goes_out c.args.company.now c.args.who c.requires.together (subst (λ l. IsNowhere l c.args.who) c.as_slice.ensures.value (c.place_of.ensures.none none))

pub returns : goal.returns
returns g c =
    let at : IsPlace c.args.company.now.shells.items c.args.who c.in-Some.place = subst (λ l. IsPlace l c.args.who c.in-Some.place) c.as_slice.ensures.value c.in-Some.ensures.some in
    subst (RowEnds (λ s rows. acts s rows c.args.who Go) c.args.company.now c.act_on_event-turn.new.company) (sym c.row_made.ensures)
    (goes_so c.args.company.now c.act_on_event-turn.new.company c.args.who c.in-Some.place c.act_on_event-turn.result at c.requires.runs c.act_on_event-turn.ensures)
