use Rattle.std.proofs.Common.{rules, ◌≡◌, ◌<◌, ◌≤◌, ◌+◌, true, false, arith, length, ap, ◌∙◌}
use Rattle.sc_thread_ports.specs.exchange.Ports.{made}
use Rattle.sc_thread_workers.specs.Crews.{Took, Passed, Sound}
use Rattle.sc_thread_workers.proofs.ChangedLists.{changed_more, left_more, sum_set}
use Rattle.sc_thread_workers.proofs.Stopping.{took_all, stops_more, was_calm, short_so, less_more}
use Rattle.sc_thread_workers.proofs.turns.in_order.Goals as goal

pub loop-shell-preserved : goal.loop-shell-preserved
loop-shell-preserved g c =
    let inv = c.loop-shell.invariant in let was = c.loop-shell.so_far in let now = c.next_in_order-so_far.result in
    let ss = c.args.shells.now in let ts = c.loop-shell.shells in let i = c.loop-shell.shell-index in let item = c.shell-item.result in let new = c.next_in_order-so_far.new.shell in
    let passed : Passed item new = search rules in
    let most : now.did ≤ c.args.most = search rules in
    let did : length (made new.port) + was.did ≡ length (made item.port) + now.did = search rules in
    let more : was.did ≤ now.did = search rules in
    let took : was.did < c.args.most → was.stopped ≡ false → Took item new = search (rules, c.next_in_order-so_far.ensures.took) in
    let stays : was.stopped ≡ true → now ≡ was = search (rules, c.next_in_order-so_far.ensures.stays) in
    let stops : was.stopped ≡ false → now.stopped ≡ true → (¬ Sound new) × (now.did < c.args.most) = search (rules, c.next_in_order-so_far.ensures.stops) in
    let goes : now.stopped ≡ false → Sound new = search (rules, c.next_in_order-so_far.ensures.goes) in record {
      most = most;
      did = omega (arith, sum_set (λ s. length (made s.port)) ts i item new (omega arith) c.shell-item.is, did, inv.did);
      done = changed_more Passed ss ts i item new (omega arith) (omega arith) c.shell-item.is inv.done inv.left passed;
      whole = λ none some calm.
          let zero : was.did ≡ 0 = omega (arith, none, more) in
          let before : was.stopped ≡ false = was_calm was.stopped now.stopped (λ t. ap (λ p. p.stopped) (stays t) ∙ t) calm in
          changed_more Took ss ts i item new (omega arith) (omega arith) c.shell-item.is (inv.whole zero some before) inv.left (took (omega (arith, zero, some)) before);
      halted = stops_more ts i new was.stopped now.stopped (omega arith) inv.halted (λ a b. (stops a b).0);
      calm = λ calm. changed_more (λ s t. Sound t) ss ts i item new (omega arith) (omega arith) c.shell-item.is (inv.calm (was_calm was.stopped now.stopped (λ t. ap (λ p. p.stopped) (stays t) ∙ t) calm)) inv.left (goes calm);
      less = less_more was.stopped now.stopped was.did now.did c.args.most inv.less (λ t. ap (λ p. p.did) (stays t)) (λ a b. (stops a b).1);
      left = left_more ss ts i new inv.left;
    }

pub returns-clause-whole : goal.returns-clause-whole
returns-clause-whole g c = λ none some sound. let inv = c.loop-shell.invariant in
    took_all c.args.shells.now c.loop-shell.shells c.loop-shell.so_far.stopped c.loop-shell.shell-index (search rules) (search rules) (inv.whole none some) inv.halted sound

pub returns-clause-short : goal.returns-clause-short
returns-clause-short g c = let inv = c.loop-shell.invariant in
    short_so c.loop-shell.shells c.loop-shell.so_far.stopped c.loop-shell.shell-index c.loop-shell.so_far.did c.args.most (search rules) inv.less inv.calm
