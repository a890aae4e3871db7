use Rattle.std.proofs.Common.{rules, ◌≡◌, length, sym, subst}
use Rattle.sc_thread_workers.specs.Crews.{AllMet, AreStill, HaveVouched}
use Rattle.sc_thread_workers.proofs.ChangedLists.{whole_slice}
use Rattle.sc_thread_workers.proofs.meetings.vouch.Goals as goal

pub vouch_all-requires-clause-met : goal.vouch_all-requires-clause-met
vouch_all-requires-clause-met g c κs within = subst (AllMet c.args.net.now) (sym c.as_mut_slice.ensures.value) c.requires.met

pub returns-clause-still : goal.returns-clause-still
returns-clause-still g c =
    let same : length c.vouch_all.new.shells ≡ length c.args.shells.now.items = search rules in
    let all : c.args.shells.now.len ≡ length c.args.shells.now.items = search rules in
    subst (AreStill c.args.net.now c.vouch_all.new.net c.args.shells.now.items) (sym (whole_slice c.vouch_all.new.shells c.args.shells.now.items c.args.shells.now.len same all))
    (subst (λ l. AreStill c.args.net.now c.vouch_all.new.net l c.vouch_all.new.shells) c.as_mut_slice.ensures.value c.vouch_all.ensures.still)

pub returns-clause-vouched : goal.returns-clause-vouched
returns-clause-vouched g c =
    let same : length c.vouch_all.new.shells ≡ length c.args.shells.now.items = search rules in
    let all : c.args.shells.now.len ≡ length c.args.shells.now.items = search rules in
    subst (HaveVouched c.args.net.now c.vouch_all.new.net) (sym (whole_slice c.vouch_all.new.shells c.args.shells.now.items c.args.shells.now.len same all))
    (c.vouch_all.ensures.vouched)
