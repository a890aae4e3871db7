use Rattle.std.proofs.Common.{rules, ◌≡◌, ◌∙◌, ap, sym, subst, None, true, false}
use Rattle.sc_actor.specs.declared.rows.Event.TheVariants.{Told}
use Rattle.sc_thread_workers.proofs.ChangedLists.{get_any}
use Rattle.sc_thread_drive.specs.Acts.{HasHalted}
use Rattle.sc_thread_drive.specs.Rows.{row_made}
use Rattle.sc_thread_drive.specs.Stepping.{IsPlace, IsNowhere, unless_crashed}
use Rattle.sc_thread_drive.specs.CompanyRows.{RowEnds}
use Rattle.sc_thread_drive.proofs.CompanyActs.{happens_crashed, happens_not, happens_out, happens_so}
use Rattle.sc_thread_drive.proofs.actor_lines.give_order.Goals as goal

pub returns-in_default : goal.returns-in_default
returns-in_default g c =
    let none : c.place_of.result ≡ None = search rules in
    happens_out c.args.company.now c.args.who (Told c.args.order.now) c.requires.together (subst (λ l. IsNowhere l c.args.who) c.as_slice.ensures.value (c.place_of.ensures.none none))

pub returns-then-has_crashed : goal.returns-then-has_crashed
returns-then-has_crashed g c =
    let ss = c.args.company.now.shells.items in let place = c.in-Some.place in
    let at : IsPlace ss c.args.who place = subst (λ l. IsPlace l c.args.who place) c.as_slice.ensures.value c.in-Some.ensures.some in
    let yes : c.has_crashed.result ≡ true = search rules in
    let halts : HasHalted ss place true = λ d. ap (λ s. s.port.crashed) (get_any ss place d c.index.result.now at.inside ∙ sym c.index.ensures) ∙ (sym c.has_crashed.ensures ∙ yes) in
    happens_crashed c.args.company.now c.args.who place (Told c.args.order.now) c.requires.together at halts

pub returns-in_default-dup : goal.returns-in_default-dup
returns-in_default-dup g c =
    let ss = c.args.company.now.shells.items in let place = c.in-Some.place in
    let at : IsPlace ss c.args.who place = subst (λ l. IsPlace l c.args.who place) c.as_slice.ensures.value c.in-Some.ensures.some in
    let no : c.has_crashed.result ≡ false = search rules in
    let runs : HasHalted ss place false = λ d. ap (λ s. s.port.crashed) (get_any ss place d c.index.result.now at.inside ∙ sym c.index.ensures) ∙ (sym c.has_crashed.ensures ∙ no) in
    happens_not c.args.company.now c.args.who place (Told c.args.order.now) at runs

pub returns : goal.returns
returns g c =
    let at : IsPlace c.args.company.now.shells.items c.args.who c.in-Some.place = subst (λ l. IsPlace l c.args.who c.in-Some.place) c.as_slice.ensures.value c.in-Some.ensures.some in
    subst (RowEnds (λ s rows. unless_crashed s rows c.args.who (Told c.args.order.now)) c.args.company.now c.act_on_event-turn.new.company) (sym c.row_made.ensures)
    (subst (λ event. RowEnds (λ s rows. unless_crashed s rows c.args.who event) c.args.company.now c.act_on_event-turn.new.company (row_made c.act_on_event-turn.result)) (ap (λ order. Told order) c.in-Ok.ensures)
    (happens_so c.args.company.now c.act_on_event-turn.new.company c.args.who c.in-Some.place (Told c.in-Ok.order) c.act_on_event-turn.result at c.act_on_event-turn.ensures))
