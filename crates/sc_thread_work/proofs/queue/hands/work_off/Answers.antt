use Rattle.std.proofs.Common.{◌≡◌, ◌∙◌, ◌+◌, ◌-◌, sym, ap, List, ℕ, true, rules, subst, arith, length, vec_len}
use Rattle.crossbeam_queue.specs.Passes.{view}
use Rattle.sc_thread_work.specs.declared.queue.rule.Item.{Item}
use Rattle.sc_thread_work.specs.declared.queue.rule.Hand.{Hand}
use Rattle.sc_thread_work.specs.queue.QueueDefinitions.{all_parts, hand, numbered, works, IsWorkedOff, Gathers, AllGiven}
use Rattle.sc_thread_work.proofs.QueueProofs.KeptQueueRule.{begins, works_numbered}
use Rattle.sc_thread_work.proofs.QueueProofs.Placing.{gathers_none}
use Rattle.sc_thread_work.proofs.queue.hands.work_off.Goals as goal

pub ruled-requires-clause-rule : goal.ruled-requires-clause-rule
ruled-requires-clause-rule g c = begins

pub gather-requires-clause-before : goal.gather-requires-clause-before
gather-requires-clause-before g c =
    (all_parts - c.args.threads, 0, numbered 0 c.args.all.items, gathers_none g.F.Fn c.args.f.now (all_parts - c.args.threads) c.args.all.items (view c.put_all.new.pass) (view c.cut.new.pass) c.new-kept.result.items c.put_all.ensures.put c.in_ok-passes.ensures.left c.new-kept.ensures.items)

module _ {A : Type 0} where
  pub same_works : (u : Hand A) (all : List A) (parts passes : ℕ) (taken : List (Item A)) → u ≡ hand parts true (numbered 0 all) taken passes → works u.put ≡ all
  same_works u all parts passes taken is = ap (λ (v : Hand A). works v.put) is ∙ works_numbered 0 all

pub finish-requires-clause-many : goal.finish-requires-clause-many
finish-requires-clause-many g c =
    let none = gathers_none g.F.Fn c.args.f.now (all_parts - c.args.threads) c.args.all.items (view c.put_all.new.pass) (view c.cut.new.pass) c.new-kept.result.items c.put_all.ensures.put c.in_ok-passes.ensures.left c.new-kept.ensures.items in
    let a = c.in_ok-gather.ensures.more (all_parts - c.args.threads) 0 (numbered 0 c.args.all.items) none in
    let is = same_works (view c.gather.new.pass) c.args.all.items _ _ a.taken a.view_is in
    search (rules, is, ap)

pub finish-requires-clause-gathered : goal.finish-requires-clause-gathered
finish-requires-clause-gathered g c =
    let none = gathers_none g.F.Fn c.args.f.now (all_parts - c.args.threads) c.args.all.items (view c.put_all.new.pass) (view c.cut.new.pass) c.new-kept.result.items c.put_all.ensures.put c.in_ok-passes.ensures.left c.new-kept.ensures.items in
    let a = c.in_ok-gather.ensures.more (all_parts - c.args.threads) 0 (numbered 0 c.args.all.items) none in
    let many : vec_len c.in_ok-done.done ≡ c.args.threads = c.in_ok-done.ensures.len ∙ c.in_ok-passes.ensures.each.0 in
    let same : (all_parts - c.args.threads) + vec_len c.in_ok-done.done ≡ all_parts = omega (arith, many, c.requires.threads) in
    let is = same_works (view c.gather.new.pass) c.args.all.items _ _ a.taken a.view_is in
    let passes : 0 + vec_len c.in_ok-done.done ≡ (view c.gather.new.pass).passes = sym (ap (λ v. v.passes) a.view_is) in
    subst (λ l. Gathers g.F.Fn c.args.f.now all_parts (view c.gather.new.pass).passes (numbered 0 l) (view c.gather.new.pass) c.gather.new.kept.items) (sym is)
    (subst (λ n. Gathers g.F.Fn c.args.f.now n (view c.gather.new.pass).passes (numbered 0 c.args.all.items) (view c.gather.new.pass) c.gather.new.kept.items) same
    (subst (λ n. Gathers g.F.Fn c.args.f.now ((all_parts - c.args.threads) + vec_len c.in_ok-done.done) n (numbered 0 c.args.all.items) (view c.gather.new.pass) c.gather.new.kept.items) passes a))

pub returns-clause-len : goal.returns-clause-len
returns-clause-len g c =
    let none = gathers_none g.F.Fn c.args.f.now (all_parts - c.args.threads) c.args.all.items (view c.put_all.new.pass) (view c.cut.new.pass) c.new-kept.result.items c.put_all.ensures.put c.in_ok-passes.ensures.left c.new-kept.ensures.items in
    let a = c.in_ok-gather.ensures.more (all_parts - c.args.threads) 0 (numbered 0 c.args.all.items) none in
    let is = same_works (view c.gather.new.pass) c.args.all.items _ _ a.taken a.view_is in
    c.in_ok-off.ensures.len ∙ (ap length is ∙ sym c.args.all.ok.0)

pub returns-clause-each : goal.returns-clause-each
returns-clause-each g c =
    let none = gathers_none g.F.Fn c.args.f.now (all_parts - c.args.threads) c.args.all.items (view c.put_all.new.pass) (view c.cut.new.pass) c.new-kept.result.items c.put_all.ensures.put c.in_ok-passes.ensures.left c.new-kept.ensures.items in
    let a = c.in_ok-gather.ensures.more (all_parts - c.args.threads) 0 (numbered 0 c.args.all.items) none in
    let is = same_works (view c.gather.new.pass) c.args.all.items _ _ a.taken a.view_is in
    subst (λ l. AllGiven g.F.Fn c.args.f.now l c.in_ok-off.off.given.items) is c.in_ok-off.ensures.each

pub returns-clause-once : goal.returns-clause-once
returns-clause-once g c =
    let none = gathers_none g.F.Fn c.args.f.now (all_parts - c.args.threads) c.args.all.items (view c.put_all.new.pass) (view c.cut.new.pass) c.new-kept.result.items c.put_all.ensures.put c.in_ok-passes.ensures.left c.new-kept.ensures.items in
    let a = c.in_ok-gather.ensures.more (all_parts - c.args.threads) 0 (numbered 0 c.args.all.items) none in
    let is = same_works (view c.gather.new.pass) c.args.all.items _ _ a.taken a.view_is in
    subst (λ l. IsWorkedOff l (view c.in_ok-off.off.holder)) is c.in_ok-off.ensures.once

pub returns-clause-passes : goal.returns-clause-passes
returns-clause-passes g c = λ _.
    let none = gathers_none g.F.Fn c.args.f.now (all_parts - c.args.threads) c.args.all.items (view c.put_all.new.pass) (view c.cut.new.pass) c.new-kept.result.items c.put_all.ensures.put c.in_ok-passes.ensures.left c.new-kept.ensures.items in
    let a = c.in_ok-gather.ensures.more (all_parts - c.args.threads) 0 (numbered 0 c.args.all.items) none in
    let many : vec_len c.in_ok-done.done ≡ c.args.threads = c.in_ok-done.ensures.len ∙ c.in_ok-passes.ensures.each.0 in
    let taken : (view c.gather.new.pass).passes ≡ 0 + vec_len c.in_ok-done.done = ap (λ v. v.passes) a.view_is in
    let all : (view c.gather.new.pass).passes ≡ c.args.threads = omega (arith, taken, many) in
    c.in_ok-off.ensures.passes ∙ all
