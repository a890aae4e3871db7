use Rattle.std.proofs.Common.{rules, ◌≡◌, sym, subst, None}
use Rattle.sc_thread_drive.specs.Stepping.{IsPlace, IsNowhere, unless_crashed}
use Rattle.sc_thread_drive.specs.CompanyRows.{RowEnds}
use Rattle.sc_thread_drive.proofs.CompanyActs.{happens_out, happens_so}
use Rattle.sc_thread_drive.proofs.actor_lines.happen.Goals as goal

pub returns-in_default : goal.returns-in_default
returns-in_default g c =
    let none : c.place_of.result ≡ None = search rules in
    happens_out c.args.company.now c.args.who c.args.event c.requires.together (subst (λ l. IsNowhere l c.args.who) c.as_slice.ensures.value (c.place_of.ensures.none none))

pub returns : goal.returns
returns g c =
    let at : IsPlace c.args.company.now.shells.items c.args.who c.in-Some.place = subst (λ l. IsPlace l c.args.who c.in-Some.place) c.as_slice.ensures.value c.in-Some.ensures.some in
    subst (RowEnds (λ s rows. unless_crashed s rows c.args.who c.args.event) c.args.company.now c.act_on_event-turn.new.company) (sym c.row_made.ensures)
    (happens_so c.args.company.now c.act_on_event-turn.new.company c.args.who c.in-Some.place c.args.event c.act_on_event-turn.result at c.act_on_event-turn.ensures)
