use Rattle.std.proofs.Common.{rules, ◌≡◌, length, sym, subst}
use Rattle.sc_thread_workers.specs.Crews.{AreStill, HaveMet}
use Rattle.sc_thread_workers.proofs.ChangedLists.{whole_slice}
use Rattle.sc_thread_workers.proofs.meetings.meet.Goals as goal

pub returns-clause-still : goal.returns-clause-still
returns-clause-still g c =
    let same : length c.meet_all.new.shells ≡ length c.args.shells.now.items = search rules in
    let all : c.args.shells.now.len ≡ length c.args.shells.now.items = search rules in
    subst (AreStill c.args.net.now c.meet_all.new.net c.args.shells.now.items) (sym (whole_slice c.meet_all.new.shells c.args.shells.now.items c.args.shells.now.len same all))
    (subst (λ l. AreStill c.args.net.now c.meet_all.new.net l c.meet_all.new.shells) c.as_mut_slice.ensures.value c.meet_all.ensures.still)

pub returns-clause-met : goal.returns-clause-met
returns-clause-met g c =
    let same : length c.meet_all.new.shells ≡ length c.args.shells.now.items = search rules in
    let all : c.args.shells.now.len ≡ length c.args.shells.now.items = search rules in
    subst (λ l. HaveMet c.args.net.now c.meet_all.new.net l) (sym (whole_slice c.meet_all.new.shells c.args.shells.now.items c.args.shells.now.len same all))
    (c.meet_all.ensures.met)
