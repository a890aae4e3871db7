use Rattle.std.proofs.Common.{rules, ◌≡◌, ◌<◌, ◌≤◌, ◌*◌, arith, length, ap, sym, subst, ◌∙◌}
use Rattle.sc_thread_work.specs.queue.Hands.{IsWorkedOff, known}
use Rattle.sc_thread_workers.specs.Phases.{AllServed}
use Rattle.sc_thread_workers.proofs.HeldShells.{one_holder}
use Rattle.sc_thread_workers.proofs.Phasing.{most_served, phase_played}
use Rattle.sc_thread_workers.proofs.phases.phase.Goals as goal

pub put_back-requires-clause-fits : goal.put_back-requires-clause-fits
put_back-requires-clause-fits g c κs within =
    let shells = c.args.shells.now.items in let served = c.in_ok-off.off.given.items in
    let len : length served ≡ length shells = sym c.in_ok-off.off.given.ok.0 ∙ (c.in_ok-off.ensures.len ∙ (c.replace-all.result.ok.0 ∙ ap length (ap (λ v. v.items) c.replace-all.ensures.value))) in
    let each : AllServed c.grant_of-grant.result shells served = subst (λ l. AllServed c.grant_of-grant.result l served) (ap (λ v. v.items) c.replace-all.ensures.value) c.in_ok-off.ensures.each in
    let most = most_served c.grant_of-grant.result shells served len each in
    let whole : length shells * c.grant_of-grant.result ≤ c.args.left = subst (λ n. n * c.grant_of-grant.result ≤ c.args.left) (c.len.ensures ∙ c.args.shells.now.ok.0) c.grant_of-grant.ensures.fits in
    omega (arith, most, whole, c.ranges.left.fits)

pub returns-clause-played : goal.returns-clause-played
returns-clause-played g c =
    let shells = c.args.shells.now.items in let served = c.in_ok-off.off.given.items in
    let len : length served ≡ length shells = sym c.in_ok-off.off.given.ok.0 ∙ (c.in_ok-off.ensures.len ∙ (c.replace-all.result.ok.0 ∙ ap length (ap (λ v. v.items) c.replace-all.ensures.value))) in
    let each : AllServed c.grant_of-grant.result shells served = subst (λ l. AllServed c.grant_of-grant.result l served) (ap (λ v. v.items) c.replace-all.ensures.value) c.in_ok-off.ensures.each in
    let whole : length shells * c.grant_of-grant.result ≤ c.args.left = subst (λ n. n * c.grant_of-grant.result ≤ c.args.left) (c.len.ensures ∙ c.args.shells.now.ok.0) c.grant_of-grant.ensures.fits in
    phase_played c.args.left c.grant_of-grant.result c.in_ok-did.did shells c.put_back.new.shells.items served c.in_ok-did.ensures.shells c.in_ok-did.ensures.did len each whole (search rules) c.requires.sound

pub returns-clause-once : goal.returns-clause-once
returns-clause-once g c = subst (λ l. IsWorkedOff l (known c.in_ok-off.off.holder)) (ap (λ v. v.items) c.replace-all.ensures.value) c.in_ok-off.ensures.once

pub returns-clause-holders : goal.returns-clause-holders
returns-clause-holders g c =
    let off = subst (λ l. IsWorkedOff l (known c.in_ok-off.off.holder)) (ap (λ v. v.items) c.replace-all.ensures.value) c.in_ok-off.ensures.once in
    one_holder c.args.shells.now.items (known c.in_ok-off.off.holder).put off.put

pub returns-clause-passes : goal.returns-clause-passes
returns-clause-passes g c =
    let some : 0 < length c.replace-all.result.items = subst (λ l. 0 < length l) (sym (ap (λ v. v.items) c.replace-all.ensures.value)) c.requires.many.0 in
    c.in_ok-off.ensures.passes some ∙ c.workers_for-workers.ensures.value
