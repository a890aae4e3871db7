use Rattle.std.proofs.Common.{rules, arith}
use Rattle.sc_thread_workers.specs.Crews.{Took}
use Rattle.sc_thread_workers.proofs.ChangedLists.{changed_more, left_more}
use Rattle.sc_thread_workers.proofs.turns.turns.Goals as goal

pub loop-shell-preserved : goal.loop-shell-preserved
loop-shell-preserved g c =
    let inv = c.loop-shell.invariant in
    let took : Took c.shell-item.result c.one.new.shell = search rules in record {
      done = changed_more Took c.args.part.now c.loop-shell.part c.loop-shell.shell-index c.shell-item.result c.one.new.shell (omega arith) (omega arith) c.shell-item.is inv.done inv.left took;
      left = left_more c.args.part.now c.loop-shell.part c.loop-shell.shell-index c.one.new.shell inv.left;
    }

pub returns : goal.returns
returns g c = λ k d lt. c.loop-shell.invariant.done k d (search rules)
