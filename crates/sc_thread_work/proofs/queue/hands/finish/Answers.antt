use Rattle.std.proofs.Common.{◌≡◌, ◌∙◌, refl, sym, ap, subst, arith, length, ◌<◌, rules}
use Rattle.crossbeam_queue.specs.Passes.{view}
use Rattle.sc_thread_work.specs.queue.QueueDefinitions.{all_parts, works, AllInside, AllThere, filled}
use Rattle.sc_thread_work.proofs.QueueProofs.KeptQueueRule.{filled_length}
use Rattle.sc_thread_work.proofs.QueueProofs.Placing.{completes, worked_off, right_free, all_inside, comes_there, right_there, all_given, given_length}
use Rattle.sc_thread_work.proofs.queue.hands.finish.Goals as goal

pub fill-requires : goal.fill-requires
fill-requires g c =
    let all = works (view c.args.pass).put in
    let a = completes g.F.Fn c.args.f.now all (view c.args.pass) (view c.work-last.result.pass) c.args.kept.items c.work-last.result.kept.items c.append.new.self.items all_parts _ c.requires.gathered refl c.work-last.ensures.did (c.work-last.ensures.whole (search rules)) c.in_ok-append.ensures.items in
    subst (λ n. AllInside n c.append.new.self.items) (sym (c.in_ok-slots.ensures.len ∙ c.requires.many)) (all_inside g.F.Fn c.args.f.now all a.taken c.append.new.self.items a.placed a.worked)

pub unwrapped-requires : goal.unwrapped-requires
unwrapped-requires g c =
    let all = works (view c.args.pass).put in
    let a = completes g.F.Fn c.args.f.now all (view c.args.pass) (view c.work-last.result.pass) c.args.kept.items c.work-last.result.kept.items c.append.new.self.items all_parts _ c.requires.gathered refl c.work-last.ensures.did (c.work-last.ensures.whole (search rules)) c.in_ok-append.ensures.items in
    let slots = c.in_ok-slots.slots.items in
    let kept = c.append.new.self.items in
    let len : length slots ≡ length all = sym c.in_ok-slots.slots.ok.0 ∙ (c.in_ok-slots.ensures.len ∙ c.requires.many) in
    subst AllThere (sym c.fill.ensures)
    (λ k d lt.
    let inside : k < length slots = omega (arith, lt, filled_length slots kept) in
    comes_there g.F.Fn c.args.f.now slots a.taken kept k d a.worked inside (a.each k (omega (arith, inside, len))))

pub returns-clause-len : goal.returns-clause-len
returns-clause-len g c =
    let all = works (view c.args.pass).put in
    let slots = c.in_ok-slots.slots.items in
    let kept = c.append.new.self.items in
    let len : length slots ≡ length all = sym c.in_ok-slots.slots.ok.0 ∙ (c.in_ok-slots.ensures.len ∙ c.requires.many) in
    c.in_ok-given.given.ok.0 ∙ given_length g.F.Fn c.args.f.now all (filled slots kept) c.in_ok-given.given.items (filled_length slots kept ∙ len) (c.in_ok-given.ensures ∙ c.fill.ensures)

pub returns-clause-each : goal.returns-clause-each
returns-clause-each g c =
    let all = works (view c.args.pass).put in
    let a = completes g.F.Fn c.args.f.now all (view c.args.pass) (view c.work-last.result.pass) c.args.kept.items c.work-last.result.kept.items c.append.new.self.items all_parts _ c.requires.gathered refl c.work-last.ensures.did (c.work-last.ensures.whole (search rules)) c.in_ok-append.ensures.items in
    let slots = c.in_ok-slots.slots.items in
    let kept = c.append.new.self.items in
    let len : length slots ≡ length all = sym c.in_ok-slots.slots.ok.0 ∙ (c.in_ok-slots.ensures.len ∙ c.requires.many) in
    all_given g.F.Fn c.args.f.now all (filled slots kept) c.in_ok-given.given.items (filled_length slots kept ∙ len) (c.in_ok-given.ensures ∙ c.fill.ensures)
    (λ k e lt. right_there g.F.Fn c.args.f.now all slots a.taken kept len a.placed a.worked (right_free g.F.Fn c.args.f.now all slots c.in_ok-slots.ensures.free) k e (omega (arith, lt, filled_length slots kept)))

pub returns-clause-once : goal.returns-clause-once
returns-clause-once g c =
    worked_off g.F.Fn c.args.f.now (works (view c.args.pass).put) (view c.args.pass) (view c.work-last.result.pass) c.args.kept.items c.work-last.result.kept.items all_parts _ c.requires.gathered refl c.work-last.ensures.did (c.work-last.ensures.whole (search rules))

pub returns-clause-passes : goal.returns-clause-passes
returns-clause-passes g c = ap (λ v. v.passes) c.work-last.ensures.did.view_is
