use Rattle.std.proofs.Common.{rules, ◌≡◌, ◌∙◌, refl, sym, subst, None}
use Rattle.sc_thread_drive.specs.Stepping.{IsPlace, IsNowhere}
use Rattle.sc_thread_drive.proofs.NetworkKept.{looked_crew}
use Rattle.sc_thread_drive.proofs.CompanyActs.{loses_nothing, loses_out, loses_row, loses_zero}
use Rattle.sc_thread_drive.proofs.network_lines.lose.Goals as goal
use Rattle.sc_thread_workers.proofs.Crews.{all_of_later}

pub returns-then-k-eq0 : goal.returns-then-k-eq0
returns-then-k-eq0 g c = loses_zero c.args.company.now c.args.who c.args.k c.requires.together (search rules)

pub returns-in_default : goal.returns-in_default
returns-in_default g c =
    let none : c.place_of.result ≡ None = search rules in
    loses_out c.args.company.now c.args.who c.args.k c.requires.together (subst (λ l. IsNowhere l c.args.who) c.as_slice.ensures.value (c.place_of.ensures.none none))

pub returns-in_default-pending : goal.returns-in_default-pending
returns-in_default-pending g c =
    let at : IsPlace c.args.company.now.shells.items c.args.who c.in-Some.field-0 = subst (λ l. IsPlace l c.args.who c.in-Some.field-0) c.as_slice.ensures.value c.in-Some.ensures.some in
    let none : c.pending.result ≡ None = search rules in
    loses_nothing c.args.company.now (record c.args.company.now { net = c.gather.new.net; shells = c.gather.new.shells }) c.pending.new.self c.pending.ensures.looked.looked c.requires.together c.gather.ensures.still c.gather.ensures.gathered refl
    c.args.who c.args.k c.in-Some.field-0 at (sym none ∙ c.pending.ensures.kth)

pub returns : goal.returns
returns g c =
    let at : IsPlace c.args.company.now.shells.items c.args.who c.in-Some.field-0 = subst (λ l. IsPlace l c.args.who c.in-Some.field-0) c.as_slice.ensures.value c.in-Some.ensures.some in
    loses_row c.args.company.now c.change.new.company c.pending.new.self c.pending.ensures.looked.looked
    c.args.who c.args.k c.in-Some.field-0 c.in-Some-pending.number at (sym c.in-Some-pending.is ∙ c.pending.ensures.kth) c.change.result c.change.ensures

pub change-requires-clause-crew : goal.change-requires-clause-crew
change-requires-clause-crew g c κs within = looked_crew c.args.company.now.net c.pending.new.self c.args.company.now.shells.items c.pending.ensures.looked.looked c.requires.together.crew

pub gather-requires-clause-exchange : goal.gather-requires-clause-exchange
gather-requires-clause-exchange g c κs within = all_of_later c.args.company.now.net c.pending.new.self c.args.company.now.shells.items c.pending.ensures.looked.looked c.requires.together.crew.exchange
