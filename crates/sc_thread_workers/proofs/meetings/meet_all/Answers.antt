use Rattle.std.proofs.Common.{rules, arith, get_or, subst, sym}
use Rattle.sc_thread_ports.specs.exchange.Ports.{SameExchange}
use Rattle.sc_thread_workers.specs.Crews.{Still, Met, HasMet, IsAhead}
use Rattle.sc_thread_workers.proofs.ChangedLists.{changed_more, left_more, item_was}
use Rattle.sc_thread_workers.proofs.Crews.{has_later, ahead_before, of_later, all_partly, still_same}
use Rattle.sc_thread_workers.proofs.meetings.meet_all.Goals as goal
use Rattle.sc_thread_ports.proofs.ExchangeProofs.Knowing.{looked_trans}

pub loop-shell-preserved : goal.loop-shell-preserved
loop-shell-preserved g c =
    let inv = c.loop-shell.invariant in
    let met : Met c.shell-item.result c.meet_one.new.shell c.loop-shell.net c.meet_one.new.net = search rules in record {
      net = looked_trans c.args.net.now c.loop-shell.net c.meet_one.new.net inv.net met.net;
      done = changed_more Still c.args.shells.now c.loop-shell.shells c.loop-shell.shell-index c.shell-item.result c.meet_one.new.shell (omega arith) (omega arith) c.shell-item.is inv.done inv.left met.still;
      met = changed_more (λ s t. HasMet c.meet_one.new.net t) c.args.shells.now c.loop-shell.shells c.loop-shell.shell-index c.shell-item.result c.meet_one.new.shell (omega arith) (omega arith) c.shell-item.is
          (λ k d lt. has_later c.loop-shell.net c.meet_one.new.net (get_or c.loop-shell.shells k d) met.net (inv.met k d lt)) inv.left met.has;
      ahead = changed_more (λ s t. IsAhead c.args.net.now t) c.args.shells.now c.loop-shell.shells c.loop-shell.shell-index c.shell-item.result c.meet_one.new.shell (omega arith) (omega arith) c.shell-item.is inv.ahead inv.left (ahead_before c.args.net.now c.loop-shell.net c.meet_one.new.shell inv.net met.ahead);
      left = left_more c.args.shells.now c.loop-shell.shells c.loop-shell.shell-index c.meet_one.new.shell inv.left;
    }

pub meet_one-requires-clause-exchange : goal.meet_one-requires-clause-exchange
meet_one-requires-clause-exchange g c κs within =
    let inv = c.loop-shell.invariant in
    let one : SameExchange c.shell-item.result.port c.loop-shell.net =
    of_later c.args.net.now c.loop-shell.net c.shell-item.result.port inv.net
    (subst (λ s. SameExchange s.port c.args.net.now) (sym (item_was c.args.shells.now c.loop-shell.shells c.loop-shell.shell-index c.shell-item.result (omega arith) (omega arith) c.shell-item.is inv.left)) (c.requires.exchange c.loop-shell.shell-index c.shell-item.result (omega arith))) in
    subst (λ s. SameExchange s.port c.loop-shell.net) c.shell-item.is one

pub returns-clause-still : goal.returns-clause-still
returns-clause-still g c = let inv = c.loop-shell.invariant in record {
  len = search rules;
  still = all_partly Still still_same c.args.shells.now c.loop-shell.shells c.loop-shell.shell-index inv.done inv.left;
  looked = inv.net;
}

pub returns-clause-met : goal.returns-clause-met
returns-clause-met g c = record {
  met = λ k d lt. c.loop-shell.invariant.met k d (search rules);
  ahead = λ k d lt. c.loop-shell.invariant.ahead k d (search rules);
}
