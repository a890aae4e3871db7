use Rattle.std.proofs.Common.{rules, arith, get_or, ◌∙◌, subst, sym}
use Rattle.sc_thread_ports.specs.exchange.Ports.{SameExchange}
use Rattle.sc_thread_workers.specs.Crews.{Still, VouchedFor, IsOver, HasMet}
use Rattle.sc_thread_workers.proofs.ChangedLists.{changed_more, left_more, item_was}
use Rattle.sc_thread_workers.proofs.Crews.{over_same, met_same, of_later, all_partly, still_same}
use Rattle.sc_thread_workers.proofs.meetings.vouch_all.Goals as goal
use Rattle.sc_thread_ports.proofs.ExchangeProofs.Knowing.{looked_trans}

pub loop-shell-preserved : goal.loop-shell-preserved
loop-shell-preserved g c =
    let inv = c.loop-shell.invariant in
    let v : VouchedFor c.shell-item.result c.vouch_one.new.shell c.loop-shell.net c.vouch_one.new.net = search rules in record {
      net = looked_trans c.args.net.now c.loop-shell.net c.vouch_one.new.net inv.net v.net;
      same = v.same.0 ∙ inv.same;
      done = changed_more Still c.args.shells.now c.loop-shell.shells c.loop-shell.shell-index c.shell-item.result c.vouch_one.new.shell (omega arith) (omega arith) c.shell-item.is inv.done inv.left v.still;
      over = changed_more (λ s t. IsOver c.vouch_one.new.net t) c.args.shells.now c.loop-shell.shells c.loop-shell.shell-index c.shell-item.result c.vouch_one.new.shell (omega arith) (omega arith) c.shell-item.is
          (λ k d lt. over_same c.loop-shell.net c.vouch_one.new.net (get_or c.loop-shell.shells k d) v.same.0 (inv.over k d lt)) inv.left v.over;
      left = left_more c.args.shells.now c.loop-shell.shells c.loop-shell.shell-index c.vouch_one.new.shell inv.left;
    }

pub vouch_one-requires-clause-exchange : goal.vouch_one-requires-clause-exchange
vouch_one-requires-clause-exchange g c κs within =
    let inv = c.loop-shell.invariant in
    let one : SameExchange c.shell-item.result.port c.loop-shell.net =
    of_later c.args.net.now c.loop-shell.net c.shell-item.result.port inv.net
    (subst (λ s. SameExchange s.port c.args.net.now) (sym (item_was c.args.shells.now c.loop-shell.shells c.loop-shell.shell-index c.shell-item.result (omega arith) (omega arith) c.shell-item.is inv.left)) (c.requires.exchange c.loop-shell.shell-index c.shell-item.result (omega arith))) in
    subst (λ s. SameExchange s.port c.loop-shell.net) c.shell-item.is one

pub vouch_one-requires-clause-met : goal.vouch_one-requires-clause-met
vouch_one-requires-clause-met g c κs within =
    let inv = c.loop-shell.invariant in
    let one : HasMet c.loop-shell.net c.shell-item.result =
    met_same c.args.net.now c.loop-shell.net c.shell-item.result inv.same
    (subst (λ s. HasMet c.args.net.now s) (sym (item_was c.args.shells.now c.loop-shell.shells c.loop-shell.shell-index c.shell-item.result (omega arith) (omega arith) c.shell-item.is inv.left)) (c.requires.met c.loop-shell.shell-index c.shell-item.result (omega arith))) in
    subst (λ s. HasMet c.loop-shell.net s) c.shell-item.is one

pub returns-clause-still : goal.returns-clause-still
returns-clause-still g c = let inv = c.loop-shell.invariant in record {
  len = search rules;
  still = all_partly Still still_same c.args.shells.now c.loop-shell.shells c.loop-shell.shell-index inv.done inv.left;
  looked = inv.net;
}

pub returns-clause-vouched : goal.returns-clause-vouched
returns-clause-vouched g c = record { seen = c.loop-shell.invariant.same; over = λ k d lt. c.loop-shell.invariant.over k d (search rules) }
