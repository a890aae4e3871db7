use Rattle.std.proofs.Common.{rules, ◌≡◌, ◌∙◌, refl, sym, subst, None}
use Rattle.sc_thread_drive.specs.Stepping.{IsPlace, IsNowhere}
use Rattle.sc_thread_drive.proofs.NetworkKept.{looked_crew}
use Rattle.sc_thread_drive.proofs.CompanyActs.{repeats_nothing, repeats_out, repeats_row}
use Rattle.sc_thread_drive.proofs.network_lines.again.Goals as goal
use Rattle.sc_thread_workers.proofs.Crews.{all_of_later}

pub returns-in_default : goal.returns-in_default
returns-in_default g c =
    let none : c.receiver.result ≡ None = search rules in
    repeats_nothing c.args.company.now (record c.args.company.now { net = c.gather.new.net; shells = c.gather.new.shells }) c.receiver.new.self c.receiver.ensures.looked.looked c.requires.together c.gather.ensures.still c.gather.ensures.gathered refl
    c.args.number (sym none ∙ c.receiver.ensures.receiver)

pub returns-in_default-place_of : goal.returns-in_default-place_of
returns-in_default-place_of g c =
    let none : c.place_of.result ≡ None = search rules in
    repeats_out c.args.company.now (record c.args.company.now { net = c.gather-in_default-place_of.new.net; shells = c.gather-in_default-place_of.new.shells }) c.receiver.new.self c.receiver.ensures.looked.looked c.requires.together c.gather-in_default-place_of.ensures.still c.gather-in_default-place_of.ensures.gathered refl
    c.args.number c.in-Some.who (sym c.in-Some.is ∙ c.receiver.ensures.receiver) (subst (λ l. IsNowhere l c.in-Some.who) c.as_slice.ensures.value (c.place_of.ensures.none none))

pub returns : goal.returns
returns g c =
    let place = c.in-Some-place_of.field-0 in
    let at : IsPlace c.args.company.now.shells.items c.in-Some.who place = subst (λ l. IsPlace l c.in-Some.who place) c.as_slice.ensures.value c.in-Some-place_of.ensures.some in
    repeats_row c.args.company.now c.change.new.company c.receiver.new.self c.receiver.ensures.looked.looked
    c.in-Some.who place c.args.number at (sym c.in-Some.is ∙ c.receiver.ensures.receiver) c.change.result c.change.ensures

pub change-requires-clause-crew : goal.change-requires-clause-crew
change-requires-clause-crew g c κs within = looked_crew c.args.company.now.net c.receiver.new.self c.args.company.now.shells.items c.receiver.ensures.looked.looked c.requires.together.crew

pub gather-requires-clause-exchange : goal.gather-requires-clause-exchange
gather-requires-clause-exchange g c κs within = all_of_later c.args.company.now.net c.receiver.new.self c.args.company.now.shells.items c.receiver.ensures.looked.looked c.requires.together.crew.exchange

pub gather-requires-in_default-place_of-clause-exchange : goal.gather-requires-in_default-place_of-clause-exchange
gather-requires-in_default-place_of-clause-exchange g c κs within = all_of_later c.args.company.now.net c.receiver.new.self c.args.company.now.shells.items c.receiver.ensures.looked.looked c.requires.together.crew.exchange
